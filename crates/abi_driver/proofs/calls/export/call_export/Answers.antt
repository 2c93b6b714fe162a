use Rattle.std.proofs.Common.{◌≡◌, ◌<◌, ◌^◌, [], List, length, map, refl, sym, ap, ◌∙◌, subst, arith}
use Rattle.std.specs.List.{list_all}
use Rattle.std.proofs.lemmas.List.{length-map, nil_from_length}
use Rattle.std.proofs.lemmas.List.Folds.{list_all-map}
use Rattle.wit_model.specs.TypeOrder.{type_below}
use Rattle.wit_model.specs.declared.function.Param.{Param}
use Rattle.wit_model.specs.declared.types.WitType.{WitType}
use Rattle.wit_model.proofs.WellFormedLemmas.{types_go_down}
use Rattle.wit_layout.proofs.SignatureSteps.{params_in_table, result_in_table}
use Rattle.wrapper_meaning.specs.Represents.{are_indirect, result_words}
use Rattle.wrapper_meaning.specs.Shape.{result_shape}
use Rattle.wit_layout.specs.declared.signature.AbiVariant.TheVariants.{GuestExport}
use Rattle.wit_layout.specs.Signature.{core_results}
use Rattle.abi_bindgen.specs.declared.instruction.Instruction.TheVariants.{CallInterface, Return}
use Rattle.abi_bindgen.specs.Code.{give_code, take_code}
use Rattle.abi_driver.specs.Exports.{GivesAnswer, TakesArgumentsOver, argument_words}
use Rattle.abi_bindgen.specs.Instructions.{shapes_of, Emits}
use Rattle.abi_bindgen.specs.Laws.{IsCount}
use Rattle.abi_bindgen.specs.Served.{ServesAll}
use Rattle.abi_driver.specs.Low.{IsSmallRecord}
use Rattle.abi_driver.proofs.WordBytes.{few_parts}
use Rattle.abi_driver.proofs.CallCode.{few_words, given_words}
use Rattle.abi_driver.proofs.ExportSteps.{calls_export, export_indirect, export_pointer, export_words}
use Rattle.abi_bindgen.proofs.Records.{count-shapes}
use Rattle.abi_bindgen.specs.Written.{WritesEach}
use Rattle.abi_bindgen.specs.Flow.{Flow, emit, ◌>>>◌}
use Rattle.abi_bindgen.specs.Flows.{Flows}
use Rattle.abi_bindgen.proofs.Writing.{part_later}
use Rattle.abi_bindgen.proofs.FlowSteps.{flows_as, flows_then}
use Rattle.abi_driver.proofs.calls.export.call_export.Goals as goal

pub take_arguments-requires-clause-writes : goal.take_arguments-requires-clause-writes
take_arguments-requires-clause-writes g c =
    let types = c.args.resolve.now.types in
    let f = c.args.func.now in
    let same : c.as_slice-2.result.now ≡ map (λ (p : Param). p.ty) f.params = c.as_slice-2.ensures ∙ c.in_ok-tys.ensures ∙ ap (map (λ (p : Param). p.ty)) c.as_slice.ensures in
    subst (λ (tys : List WitType). WritesEach g.B.Bindgen.meaning types tys c.args.bindgen.now) (sym same) c.requires.writes.params

pub give_answer-requires-clause-writes : goal.give_answer-requires-clause-writes
give_answer-requires-clause-writes g c =
    let m = g.B.Bindgen.meaning in
    let types = c.args.resolve.now.types in
    let result = c.args.func.now.result in
    part_later m types _ _ result c.in_ok-answer.ensures.adds (part_later m types _ _ result c.in_ok-values.ensures.takes.adds.grows c.requires.writes.result)

pub take_arguments-requires-clause-below : goal.take_arguments-requires-clause-below
take_arguments-requires-clause-below g c =
    let n = length c.args.resolve.now.types in
    let f = c.args.func.now in
    let same : c.as_slice-2.result.now ≡ map (λ (p : Param). p.ty) f.params = c.as_slice-2.ensures ∙ c.in_ok-tys.ensures ∙ ap (map (λ (p : Param). p.ty)) c.as_slice.ensures in
    ap (λ (tys : List WitType). list_all (λ ty. type_below n ty) tys) same ∙ list_all-map (λ ty. type_below n ty) (λ (p : Param). p.ty) f.params ∙ params_in_table c.args.resolve.now f c.requires.within

pub take_arguments-requires-clause-arguments : goal.take_arguments-requires-clause-arguments
take_arguments-requires-clause-arguments g c =
    let m = g.B.Bindgen.meaning in
    let types = c.args.resolve.now.types in
    let f = c.args.func.now in
    let same : c.as_slice-2.result.now ≡ map (λ (p : Param). p.ty) f.params = c.as_slice-2.ensures ∙ c.in_ok-tys.ensures ∙ ap (map (λ (p : Param). p.ty)) c.as_slice.ensures in
    subst (IsCount m (m.arguments c.args.bindgen.now)) (ap length (export_words types f) ∙ sym (ap (λ (tys : List WitType). length (argument_words (shapes_of types tys))) same)) c.requires.arguments

pub take_arguments-requires-clause-serves : goal.take_arguments-requires-clause-serves
take_arguments-requires-clause-serves g c =
    let types = c.args.resolve.now.types in
    let f = c.args.func.now in
    let same : c.as_slice-2.result.now ≡ map (λ (p : Param). p.ty) f.params = c.as_slice-2.ensures ∙ c.in_ok-tys.ensures ∙ ap (map (λ (p : Param). p.ty)) c.as_slice.ensures in
    subst (λ (tys : List WitType). ServesAll (shapes_of types tys)) (sym same) c.requires.serves.params

pub take_arguments-requires-clause-small : goal.take_arguments-requires-clause-small
take_arguments-requires-clause-small g c =
    let types = c.args.resolve.now.types in
    let f = c.args.func.now in
    let same : c.as_slice-2.result.now ≡ map (λ (p : Param). p.ty) f.params = c.as_slice-2.ensures ∙ c.in_ok-tys.ensures ∙ ap (map (λ (p : Param). p.ty)) c.as_slice.ensures in
    subst (IsSmallRecord types) (sym same) c.requires.small

pub take_arguments-requires-clause-few : goal.take_arguments-requires-clause-few
take_arguments-requires-clause-few g c =
    let types = c.args.resolve.now.types in
    let n = length types in
    let f = c.args.func.now in
    let same : c.as_slice-2.result.now ≡ map (λ (p : Param). p.ty) f.params = c.as_slice-2.ensures ∙ c.in_ok-tys.ensures ∙ ap (map (λ (p : Param). p.ty)) c.as_slice.ensures in
    let below = list_all-map (λ ty. type_below n ty) (λ (p : Param). p.ty) f.params ∙ params_in_table c.args.resolve.now f c.requires.within in
    subst (λ (tys : List WitType). length tys < 2 ^ 32) (sym same) (few_parts c.args.resolve.now c.requires.well (map (λ (p : Param). p.ty) f.params) below c.requires.small)

pub take_arguments-requires-clause-indirect : goal.take_arguments-requires-clause-indirect
take_arguments-requires-clause-indirect g c =
    let types = c.args.resolve.now.types in
    let f = c.args.func.now in
    let same : c.as_slice-2.result.now ≡ map (λ (p : Param). p.ty) f.params = c.as_slice-2.ensures ∙ c.in_ok-tys.ensures ∙ ap (map (λ (p : Param). p.ty)) c.as_slice.ensures in
    export_indirect types f c.wasm_signature-signature.result c.wasm_signature-signature.ensures ∙ sym (ap (λ (tys : List WitType). are_indirect (shapes_of types tys)) same)

pub give_answer-requires-clause-down : goal.give_answer-requires-clause-down
give_answer-requires-clause-down g c = types_go_down c.args.resolve.now c.requires.well.unbroken

pub give_answer-requires-clause-below : goal.give_answer-requires-clause-below
give_answer-requires-clause-below g c = result_in_table c.args.resolve.now c.args.func.now c.requires.within

pub give_answer-requires-clause-closed : goal.give_answer-requires-clause-closed
give_answer-requires-clause-closed g c = c.in_ok-answer.ensures.adds.opened ∙ c.in_ok-values.ensures.takes.adds.grows.opened ∙ c.requires.fresh.closed

pub give_answer-requires-clause-serves : goal.give_answer-requires-clause-serves
give_answer-requires-clause-serves g c = c.requires.serves.result

pub give_answer-requires-clause-retptr : goal.give_answer-requires-clause-retptr
give_answer-requires-clause-retptr g c = export_pointer c.args.resolve.now.types c.args.func.now c.wasm_signature-signature.result c.wasm_signature-signature.ensures

pub send-requires : goal.send-requires
send-requires g c =
    let types = c.args.resolve.now.types in
    let f = c.args.func.now in
    let same : c.as_slice-2.result.now ≡ map (λ (p : Param). p.ty) f.params = c.as_slice-2.ensures ∙ c.in_ok-tys.ensures ∙ ap (map (λ (p : Param). p.ty)) c.as_slice.ensures in
    let adds = c.in_ok-values.ensures.takes.adds in
    let fresh = c.requires.fresh in
    record {
      built = refl;
      operands = c.in_ok-values.ensures.takes.many ∙ count-shapes types c.as_slice-2.result.now ∙ ap length same ∙ length-map f.params (λ (p : Param). p.ty);
      suits = (adds.grows.exports ∙ c.requires.side, c.requires.serves.plain, record { closed = adds.grows.opened ∙ fresh.closed; unasked = adds.asked ∙ fresh.unasked; uncalled = adds.uncalled fresh.uncalled });
    }

pub send-requires-2 : goal.send-requires-2
send-requires-2 g c =
    let r = result_shape c.args.resolve.now.types c.args.func.now in
    let count = given_words g.B.Bindgen.meaning c.args.resolve.now.types r c.as_slice-3.result.now c.in_ok-given.given _ _ c.in_ok-given.ensures.gives in
    record { built = refl; operands = sym c.len-given_count.ensures; suits = omega (arith, c.len-given_count.ensures, count, few_words r) }

pub overflow_cast-given_count : goal.overflow_cast-given_count
overflow_cast-given_count g c =
    let r = result_shape c.args.resolve.now.types c.args.func.now in
    let count = given_words g.B.Bindgen.meaning c.args.resolve.now.types r c.as_slice-3.result.now c.in_ok-given.given _ _ c.in_ok-given.ensures.gives in
    omega (arith, c.len-given_count.ensures, count, few_words r)

pub returns : goal.returns
returns g c =
    let m = g.B.Bindgen.meaning in
    let types = c.args.resolve.now.types in
    let f = c.args.func.now in
    let values = c.in_ok-values.values in
    let given = c.in_ok-given.given in
    let same : c.as_slice-2.result.now ≡ map (λ (p : Param). p.ty) f.params = c.as_slice-2.ensures ∙ c.in_ok-tys.ensures ∙ ap (map (λ (p : Param). p.ty)) c.as_slice.ensures in
    let takes = subst (λ (tys : List WitType). TakesArgumentsOver m (shapes_of types tys) values c.args.bindgen.now c.take_arguments.new.bindgen) same c.in_ok-values.ensures.takes in
    let lowers = subst (λ (os : List _). GivesAnswer m (result_shape types f) os given c.send.new.bindgen c.give_answer.new.bindgen) c.as_slice-3.ensures c.in_ok-given.ensures.gives in
    let count : c.len-given_count.result ≡ length (core_results GuestExport (result_words (result_shape types f))) = c.len-given_count.ensures ∙ given_words m types (result_shape types f) _ given _ _ lowers in
    let answer = c.in_ok-answer.answer in
    let start = c.args.bindgen.now in
    let one = c.take_arguments.new.bindgen in
    let two = c.send.new.bindgen in
    let three = c.give_answer.new.bindgen in
    let four = c.send-2.new.bindgen in
    let many = length (core_results GuestExport (result_words (result_shape types f))) in
    let args = take_code types (map (λ (p : Param). p.ty) f.params) in
    let gives = give_code types f.result in
    let call : Flow = emit (CallInterface c.args.func) in
    let taken = flows_as m types (take_code types c.as_slice-2.result.now) args [] values start one (ap (take_code types) (sym same)) c.in_ok-values.ensures.flows in
    let given_flow = subst (λ (os : List _). Flows m types gives os given two three) c.as_slice-3.ensures c.in_ok-given.ensures.flows in
    let none = nil_from_length c.in_ok-send.field-0 c.in_ok-send.ensures.results in
    let ended = subst (λ n. Emits m types (Return n) given [] three four) count (subst (λ (os : List _). Emits m types (Return c.len-given_count.result) given os three four) none c.in_ok-send.ensures) in
    let called = flows_then m types args call [] values answer start one two taken c.in_ok-answer.ensures in
    let gave = flows_then m types (args >>> call) gives [] answer given start two three called given_flow in
    record {
      calls = calls_export m g.met.B.Bindgen.sound types c.args.func _ _ _ _ _ values c.in_ok-answer.answer given _ c.len-given_count.result takes c.in_ok-answer.ensures c.requires.side lowers c.in_ok-send.ensures;
      flows = flows_then m types (args >>> call >>> gives) (emit (Return many)) [] given [] start three four gave ended;
    }
