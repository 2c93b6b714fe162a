use Rattle.std.proofs.Common.{◌≡◌, length, if◌then◌else◌, [], ◌∷◌, refl, sym, ap, ◌∙◌, subst, arith}
use Rattle.wit_model.specs.declared.wasm_type.WasmType.TheVariants as wasm
use Rattle.wit_model.proofs.WellFormedLemmas.{types_go_down}
use Rattle.wrapper_meaning.specs.Represents.{param_words}
use Rattle.abi_driver.specs.Exports.{argument_words}
use Rattle.abi_bindgen.specs.Code as code
use Rattle.abi_bindgen.specs.Code.{take_code, take_record_code}
use Rattle.abi_bindgen.specs.Instructions.{shapes_of}
use Rattle.abi_bindgen.specs.Laws.{IsCount}
use Rattle.abi_driver.proofs.ArgumentSteps.{within_count}
use Rattle.abi_driver.proofs.RecordArguments.{takes_record, takes_words}
use Rattle.abi_bindgen.proofs.FlowSteps.{flows_as}
use Rattle.abi_driver.proofs.calls.export.take_arguments.Goals as goal

pub load_arguments-requires-clause-down : goal.load_arguments-requires-clause-down
load_arguments-requires-clause-down g c = types_go_down c.args.resolve.now c.requires.well.unbroken

pub load_arguments-requires-clause-arguments : goal.load_arguments-requires-clause-arguments
load_arguments-requires-clause-arguments g c =
    let m = g.B.Bindgen.meaning in
    let ts = shapes_of c.args.resolve.now.types c.args.tys.now in
    let many = sym c.requires.indirect ∙ c.if-indirect.true in
    let limit = m.arguments c.args.bindgen.now in
    let one : length (argument_words ts) ≡ 1 = ap (λ q. length (if q then wasm.Pointer ∷ [] else param_words ts)) many in
    within_count limit limit 1 0 refl (subst (IsCount m limit) one c.requires.arguments) (omega arith)

pub lift_arguments-requires-clause-arguments : goal.lift_arguments-requires-clause-arguments
lift_arguments-requires-clause-arguments g c =
    let m = g.B.Bindgen.meaning in
    let ts = shapes_of c.args.resolve.now.types c.args.tys.now in
    let few = sym c.requires.indirect ∙ c.if-indirect.false in
    subst (IsCount m (m.arguments c.args.bindgen.now)) (ap (λ q. length (if q then wasm.Pointer ∷ [] else param_words ts)) few) c.requires.arguments

pub returns-then-indirect : goal.returns-then-indirect
returns-then-indirect g c =
    let m = g.B.Bindgen.meaning in
    let types = c.args.resolve.now.types in
    let tys = c.args.tys.now in
    let many = sym c.requires.indirect ∙ c.if-indirect.true in
    record {
      takes = takes_record m g.met.B.Bindgen.sound types (shapes_of types tys) _ _ _ c.in_ok-loaded.ensures.takes many;
      flows = flows_as m types (take_record_code types tys) (take_code types tys) [] c.in_ok-loaded.loaded c.args.bindgen.now c.load_arguments.new.bindgen (ap (λ q. if q then take_record_code types tys else code.lift_arguments types 0 tys) many) c.in_ok-loaded.ensures.flows;
    }

pub returns : goal.returns
returns g c =
    let m = g.B.Bindgen.meaning in
    let types = c.args.resolve.now.types in
    let tys = c.args.tys.now in
    let few = sym c.requires.indirect ∙ c.if-indirect.false in
    record {
      takes = takes_words m g.met.B.Bindgen.sound types (shapes_of types tys) _ _ _ few c.in_ok-values.ensures.lifts;
      flows = flows_as m types (code.lift_arguments types 0 tys) (take_code types tys) [] c.in_ok-values.values c.args.bindgen.now c.lift_arguments.new.bindgen (ap (λ q. if q then take_record_code types tys else code.lift_arguments types 0 tys) few) c.in_ok-values.ensures.flows;
    }
