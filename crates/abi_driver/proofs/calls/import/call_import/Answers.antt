use Rattle.std.proofs.Common.{◌≡◌, ◌<◌, ◌^◌, ◌++◌, [], List, if◌then◌else◌, length, map, refl, sym, ap, ap₂, ◌∙◌, subst, arith}
use Rattle.std.specs.List.{list_all}
use Rattle.std.specs.Prelude.{option_to_list}
use Rattle.std.proofs.lemmas.List.{length-map, nil_from_length}
use Rattle.std.proofs.lemmas.List.Folds.{list_all-map}
use Rattle.wit_model.specs.TypeOrder.{type_below}
use Rattle.wit_model.specs.declared.function.Param.{Param}
use Rattle.wit_model.specs.declared.types.WitType.{WitType}
use Rattle.wit_model.proofs.WellFormedLemmas.{types_go_down}
use Rattle.wit_layout.proofs.SignatureSteps.{params_in_table, result_in_table}
use Rattle.wrapper_meaning.specs.Represents.{are_indirect, result_words}
use Rattle.wrapper_meaning.specs.Shape.{result_shape, shape_of}
use Rattle.abi_bindgen.specs.declared.instruction.Instruction.TheVariants.{CallWasm, Return}
use Rattle.abi_bindgen.specs.Code.{pass_code, point_code, read_code, passed_count}
use Rattle.abi_driver.specs.Imports.{PassesArguments, ReadsAnswer}
use Rattle.abi_bindgen.specs.Instructions.{Emits, shapes_of}
use Rattle.abi_bindgen.specs.Laws.{IsCount}
use Rattle.abi_bindgen.specs.Served.{ServesAll}
use Rattle.abi_driver.specs.Low.{IsSmallRecord}
use Rattle.abi_driver.proofs.WordBytes.{few_parts}
use Rattle.abi_driver.proofs.AreaSteps.{points_grows}
use Rattle.abi_driver.proofs.CallCode.{few_given, given_count}
use Rattle.abi_driver.proofs.ExportSteps.{count_mapped}
use Rattle.abi_driver.proofs.ImportSteps.{calls_import, import_words, indirect_told, no_pointer, one_pointer, passed_words, pointer_told, words_count}
use Rattle.abi_bindgen.specs.Written.{WritesEach}
use Rattle.abi_bindgen.specs.Flow.{Flow, emit, behind, both, ◌>>>◌}
use Rattle.abi_bindgen.specs.Flows.{Flows}
use Rattle.abi_bindgen.proofs.Writing.{part_later}
use Rattle.abi_bindgen.proofs.FlowSteps.{flows_as, flows_then, flows_both, flows_behind}
use Rattle.abi_driver.proofs.calls.import.call_import.Goals as goal

pub pass_arguments-requires-clause-writes : goal.pass_arguments-requires-clause-writes
pass_arguments-requires-clause-writes g c =
    let types = c.args.resolve.now.types in
    let f = c.args.func.now in
    let same : c.as_slice-2.result.now ≡ map (λ (p : Param). p.ty) f.params = c.as_slice-2.ensures ∙ c.in_ok-tys.ensures ∙ ap (map (λ (p : Param). p.ty)) c.as_slice.ensures in
    subst (λ (tys : List WitType). WritesEach g.B.Bindgen.meaning types tys c.args.bindgen.now) (sym same) c.requires.writes.params

pub read_answer-requires-clause-writes : goal.read_answer-requires-clause-writes
read_answer-requires-clause-writes g c =
    let m = g.B.Bindgen.meaning in
    let types = c.args.resolve.now.types in
    let result = c.args.func.now.result in
    let points = points_grows m g.met.B.Bindgen.sound (result_shape types c.args.func.now) c.in_ok-pointer.pointer _ _ c.in_ok-pointer.ensures.points in
    part_later m types _ _ result c.in_ok-answer.ensures.adds (part_later m types _ _ result points.0 (part_later m types _ _ result c.in_ok-words.ensures.passes.grows c.requires.writes.result))

pub pass_arguments-requires-clause-down : goal.pass_arguments-requires-clause-down
pass_arguments-requires-clause-down g c = types_go_down c.args.resolve.now c.requires.well.unbroken

pub pass_arguments-requires-clause-below : goal.pass_arguments-requires-clause-below
pass_arguments-requires-clause-below g c =
    let n = length c.args.resolve.now.types in
    let f = c.args.func.now in
    let same : c.as_slice-2.result.now ≡ map (λ (p : Param). p.ty) f.params = c.as_slice-2.ensures ∙ c.in_ok-tys.ensures ∙ ap (map (λ (p : Param). p.ty)) c.as_slice.ensures in
    ap (λ (tys : List WitType). list_all (λ ty. type_below n ty) tys) same ∙ list_all-map (λ ty. type_below n ty) (λ (p : Param). p.ty) f.params ∙ params_in_table c.args.resolve.now f c.requires.within

pub pass_arguments-requires-clause-arguments : goal.pass_arguments-requires-clause-arguments
pass_arguments-requires-clause-arguments g c =
    let m = g.B.Bindgen.meaning in
    let f = c.args.func.now in
    let same : c.as_slice-2.result.now ≡ map (λ (p : Param). p.ty) f.params = c.as_slice-2.ensures ∙ c.in_ok-tys.ensures ∙ ap (map (λ (p : Param). p.ty)) c.as_slice.ensures in
    subst (IsCount m (m.arguments c.args.bindgen.now)) (sym (ap length same ∙ length-map f.params (λ (p : Param). p.ty))) c.requires.arguments

pub pass_arguments-requires-clause-serves : goal.pass_arguments-requires-clause-serves
pass_arguments-requires-clause-serves g c =
    let types = c.args.resolve.now.types in
    let f = c.args.func.now in
    let same : c.as_slice-2.result.now ≡ map (λ (p : Param). p.ty) f.params = c.as_slice-2.ensures ∙ c.in_ok-tys.ensures ∙ ap (map (λ (p : Param). p.ty)) c.as_slice.ensures in
    subst (λ (tys : List WitType). ServesAll (shapes_of types tys)) (sym same) c.requires.serves.params

pub pass_arguments-requires-clause-small : goal.pass_arguments-requires-clause-small
pass_arguments-requires-clause-small g c =
    let types = c.args.resolve.now.types in
    let f = c.args.func.now in
    let same : c.as_slice-2.result.now ≡ map (λ (p : Param). p.ty) f.params = c.as_slice-2.ensures ∙ c.in_ok-tys.ensures ∙ ap (map (λ (p : Param). p.ty)) c.as_slice.ensures in
    subst (IsSmallRecord types) (sym same) c.requires.small

pub pass_arguments-requires-clause-few : goal.pass_arguments-requires-clause-few
pass_arguments-requires-clause-few g c =
    let types = c.args.resolve.now.types in
    let n = length types in
    let f = c.args.func.now in
    let same : c.as_slice-2.result.now ≡ map (λ (p : Param). p.ty) f.params = c.as_slice-2.ensures ∙ c.in_ok-tys.ensures ∙ ap (map (λ (p : Param). p.ty)) c.as_slice.ensures in
    let below = list_all-map (λ ty. type_below n ty) (λ (p : Param). p.ty) f.params ∙ params_in_table c.args.resolve.now f c.requires.within in
    subst (λ (tys : List WitType). length tys < 2 ^ 32) (sym same) (few_parts c.args.resolve.now c.requires.well (map (λ (p : Param). p.ty) f.params) below c.requires.small)

pub pass_arguments-requires-clause-indirect : goal.pass_arguments-requires-clause-indirect
pass_arguments-requires-clause-indirect g c =
    let types = c.args.resolve.now.types in
    let f = c.args.func.now in
    let same : c.as_slice-2.result.now ≡ map (λ (p : Param). p.ty) f.params = c.as_slice-2.ensures ∙ c.in_ok-tys.ensures ∙ ap (map (λ (p : Param). p.ty)) c.as_slice.ensures in
    indirect_told types f c.wasm_signature-signature.result c.wasm_signature-signature.ensures ∙ sym (ap (λ (tys : List WitType). are_indirect (shapes_of types tys)) same)

pub point_at_result-requires-clause-below : goal.point_at_result-requires-clause-below
point_at_result-requires-clause-below g c = result_in_table c.args.resolve.now c.args.func.now c.requires.within

pub point_at_result-requires-clause-retptr : goal.point_at_result-requires-clause-retptr
point_at_result-requires-clause-retptr g c = pointer_told c.args.resolve.now.types c.args.func.now c.wasm_signature-signature.result c.wasm_signature-signature.ensures

pub read_answer-requires-clause-down : goal.read_answer-requires-clause-down
read_answer-requires-clause-down g c = types_go_down c.args.resolve.now c.requires.well.unbroken

pub read_answer-requires-clause-below : goal.read_answer-requires-clause-below
read_answer-requires-clause-below g c = result_in_table c.args.resolve.now c.args.func.now c.requires.within

pub point_at_result-requires-clause-knows : goal.point_at_result-requires-clause-knows
point_at_result-requires-clause-knows g c = c.in_ok-words.ensures.passes.grows.knows c.args.resolve.now.types c.requires.knows

pub point_at_result-requires-clause-closed : goal.point_at_result-requires-clause-closed
point_at_result-requires-clause-closed g c = c.in_ok-words.ensures.passes.grows.opened ∙ c.requires.closed

pub read_answer-requires-clause-serves : goal.read_answer-requires-clause-serves
read_answer-requires-clause-serves g c = c.requires.serves.result

pub read_answer-requires-clause-knows : goal.read_answer-requires-clause-knows
read_answer-requires-clause-knows g c =
    let types = c.args.resolve.now.types in
    let points = points_grows g.B.Bindgen.meaning g.met.B.Bindgen.sound (result_shape types c.args.func.now) c.in_ok-pointer.pointer _ _ c.in_ok-pointer.ensures.points in
    c.in_ok-answer.ensures.adds.knows types (points.0.knows types (c.in_ok-words.ensures.passes.grows.knows types c.requires.knows))

pub read_answer-requires-clause-retptr : goal.read_answer-requires-clause-retptr
read_answer-requires-clause-retptr g c = pointer_told c.args.resolve.now.types c.args.func.now c.wasm_signature-signature.result c.wasm_signature-signature.ensures

pub read_answer-requires-clause-pointed : goal.read_answer-requires-clause-pointed
read_answer-requires-clause-pointed g c =
    let m = g.B.Bindgen.meaning in
    let types = c.args.resolve.now.types in
    let f = c.args.func.now in
    let signature = c.wasm_signature-signature in
    λ e. ap length c.as_slice-5.ensures ∙ one_pointer m (result_shape types f) c.in_ok-pointer.pointer _ _ signature.result.retptr c.in_ok-pointer.ensures.points (pointer_told types f signature.result signature.ensures) e

pub read_answer-requires-clause-answered : goal.read_answer-requires-clause-answered
read_answer-requires-clause-answered g c =
    let types = c.args.resolve.now.types in
    let f = c.args.func.now in
    let signature = c.wasm_signature-signature in
    let r = result_shape types f in
    λ e. c.in_ok-answer.ensures.results ∙ ap length ((import_words types f).1 ∙ ap (λ q. if q then [] else result_words r) (sym (pointer_told types f signature.result signature.ensures) ∙ e))

pub send-requires : goal.send-requires
send-requires g c =
    let m = g.B.Bindgen.meaning in
    let types = c.args.resolve.now.types in
    let f = c.args.func.now in
    let words = c.in_ok-words.words in
    let pointer = c.in_ok-pointer.pointer in
    let same : c.as_slice-2.result.now ≡ map (λ (p : Param). p.ty) f.params = c.as_slice-2.ensures ∙ c.in_ok-tys.ensures ∙ ap (map (λ (p : Param). p.ty)) c.as_slice.ensures in
    let passes = subst (λ (tys : List WitType). PassesArguments m (shapes_of types tys) words c.args.bindgen.now c.pass_arguments.new.bindgen) same c.in_ok-words.ensures.passes in
    let all : c.in_ok-all.all ≡ words ++ pointer = c.in_ok-all.ensures ∙ ap₂ (λ xs ys. xs ++ ys) c.as_slice-3.ensures c.as_slice-4.ensures in
    let points = (points_grows m g.met.B.Bindgen.sound (result_shape types f) pointer _ _ c.in_ok-pointer.ensures.points).0 in
    record {
      built = refl;
      operands = ap length all ∙ words_count m types f words pointer _ _ _ _ passes c.in_ok-pointer.ensures.points;
      suits = (points.imports ∙ passes.grows.imports ∙ c.requires.side, c.requires.well, c.requires.within, points.opened ∙ passes.grows.opened ∙ c.requires.closed);
    }

pub send-requires-2 : goal.send-requires-2
send-requires-2 g c =
    let r = result_shape c.args.resolve.now.types c.args.func.now in
    let count = given_count g.B.Bindgen.meaning c.args.resolve.now.types r c.as_slice-5.result.now c.in_ok-answer.answer c.in_ok-given.given _ _ c.in_ok-given.ensures.reads in
    record { built = refl; operands = sym c.len-count.ensures; suits = omega (arith, c.len-count.ensures, count, few_given r) }

pub overflow_cast-count : goal.overflow_cast-count
overflow_cast-count g c =
    let r = result_shape c.args.resolve.now.types c.args.func.now in
    let count = given_count g.B.Bindgen.meaning c.args.resolve.now.types r c.as_slice-5.result.now c.in_ok-answer.answer c.in_ok-given.given _ _ c.in_ok-given.ensures.reads in
    omega (arith, c.len-count.ensures, count, few_given r)

pub returns : goal.returns
returns g c =
    let m = g.B.Bindgen.meaning in
    let types = c.args.resolve.now.types in
    let f = c.args.func.now in
    let words = c.in_ok-words.words in
    let pointer = c.in_ok-pointer.pointer in
    let back = c.in_ok-answer.answer in
    let given = c.in_ok-given.given in
    let same : c.as_slice-2.result.now ≡ map (λ (p : Param). p.ty) f.params = c.as_slice-2.ensures ∙ c.in_ok-tys.ensures ∙ ap (map (λ (p : Param). p.ty)) c.as_slice.ensures in
    let passes = subst (λ (tys : List WitType). PassesArguments m (shapes_of types tys) words c.args.bindgen.now c.pass_arguments.new.bindgen) same c.in_ok-words.ensures.passes in
    let all : c.in_ok-all.all ≡ words ++ pointer = c.in_ok-all.ensures ∙ ap₂ (λ xs ys. xs ++ ys) c.as_slice-3.ensures c.as_slice-4.ensures in
    let called = subst (λ (os : List _). Emits m types (CallWasm c.args.func) os back c.point_at_result.new.bindgen c.send.new.bindgen) all c.in_ok-answer.ensures in
    let reads = subst (λ (os : List _). ReadsAnswer m (result_shape types f) os back given c.send.new.bindgen c.read_answer.new.bindgen) c.as_slice-5.ensures c.in_ok-given.ensures.reads in
    let count : c.len-count.result ≡ length (option_to_list f.result) = c.len-count.ensures ∙ given_count m types (result_shape types f) pointer back given _ _ reads ∙ count_mapped (shape_of types) f.result in
    let start = c.args.bindgen.now in
    let one = c.pass_arguments.new.bindgen in
    let two = c.point_at_result.new.bindgen in
    let three = c.send.new.bindgen in
    let four = c.read_answer.new.bindgen in
    let five = c.send-2.new.bindgen in
    let tys = map (λ (p : Param). p.ty) f.params in
    let args = pass_code types tys in
    let points = point_code types f.result in
    let read = read_code types f.result in
    let call : Flow = both (emit (CallWasm c.args.func)) (behind (passed_count types tys)) in
    let passed = flows_as m types (pass_code types c.as_slice-2.result.now) args [] words start one (ap (pass_code types) (sym same)) c.in_ok-words.ensures.flows in
    let asked = flows_both m types args points [] words pointer start one two passed c.in_ok-pointer.ensures.flows in
    let counted = passed_words m types tys words start one passes in
    let called_so = flows_both m types (emit (CallWasm c.args.func)) (behind (passed_count types tys)) (words ++ pointer) back pointer two three three called (flows_behind m types (passed_count types tys) words pointer three counted) in
    let called_all = flows_then m types (both args points) call [] (words ++ pointer) (back ++ pointer) start two three asked called_so in
    let read_flow = subst (λ (os : List _). Flows m types read (back ++ os) given three four) c.as_slice-5.ensures c.in_ok-given.ensures.flows in
    let read_all = flows_then m types (both args points >>> call) read [] (back ++ pointer) given start three four called_all read_flow in
    let none = nil_from_length c.in_ok-send.field-0 c.in_ok-send.ensures.results in
    let ended = subst (λ n. Emits m types (Return n) given [] four five) count (subst (λ (os : List _). Emits m types (Return c.len-count.result) given os four five) none c.in_ok-send.ensures) in
    record {
      calls = calls_import m g.met.B.Bindgen.sound types c.args.func _ _ _ _ _ _ words pointer back given _ c.len-count.result passes c.in_ok-pointer.ensures.points called reads c.in_ok-send.ensures;
      flows = flows_then m types (both args points >>> call >>> read) (emit (Return (length (option_to_list f.result)))) [] given [] start four five read_all ended;
    }

pub read_answer-requires-clause-unpointed : goal.read_answer-requires-clause-unpointed
read_answer-requires-clause-unpointed g c =
    let m = g.B.Bindgen.meaning in
    let types = c.args.resolve.now.types in
    let f = c.args.func.now in
    let signature = c.wasm_signature-signature in
    λ e. c.as_slice-5.ensures ∙ no_pointer m (result_shape types f) c.in_ok-pointer.pointer _ _ signature.result.retptr c.in_ok-pointer.ensures.points (pointer_told types f signature.result signature.ensures) e

pub read_answer-requires-clause-unanswered : goal.read_answer-requires-clause-unanswered
read_answer-requires-clause-unanswered g c =
    let types = c.args.resolve.now.types in
    let f = c.args.func.now in
    let signature = c.wasm_signature-signature in
    let r = result_shape types f in
    λ e. nil_from_length c.in_ok-answer.answer (c.in_ok-answer.ensures.results ∙ ap length ((import_words types f).1 ∙ ap (λ q. if q then [] else result_words r) (sym (pointer_told types f signature.result signature.ensures) ∙ e)))
