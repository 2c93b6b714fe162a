use Rattle.std.proofs.Common.{List, if◌then◌else◌, sym, ap, ◌∙◌, subst, []}
use Rattle.wrapper_meaning.specs.Shape.Shape.{fields}
use Rattle.abi_bindgen.specs.Code.{ask_for, lower_arguments, pass_code, store_arguments}
use Rattle.abi_driver.specs.Imports.{PassesArguments}
use Rattle.abi_bindgen.specs.Instructions.{shapes_of}
use Rattle.abi_bindgen.specs.Flow.{Flow, same, both, ◌>>>◌}
use Rattle.abi_bindgen.specs.Flows.{Flows}
use Rattle.abi_driver.proofs.AreaSteps.{passes_record, passes_words}
use Rattle.abi_bindgen.proofs.FlowSteps.{flows_as}
use Rattle.abi_driver.proofs.calls.import.pass_arguments.Goals as goal

pub returns-then-indirect : goal.returns-then-indirect
returns-then-indirect g c =
    let m = g.B.Bindgen.meaning in
    let types = c.args.resolve.now.types in
    let tys = c.args.tys.now in
    let ts = shapes_of types tys in
    let stored : Flow = ask_for (fields ts) >>> both (store_arguments types tys) same in
    let many = sym c.requires.indirect ∙ c.if-indirect.true in
    record {
      passes = subst (λ (os : List _). PassesArguments m ts os c.args.bindgen.now c.store_arguments.new.bindgen) (sym c.in_ok-stored.ensures)
          (passes_record m g.met.B.Bindgen.sound ts c.in_ok-address.address c.args.bindgen.now c.store_arguments.new.bindgen many c.in_ok-address.ensures.passes);
      flows = flows_as m types stored (pass_code types tys) [] c.in_ok-stored.stored c.args.bindgen.now c.store_arguments.new.bindgen (ap (λ q. if q then stored else lower_arguments types tys) many)
          (subst (λ (os : List _). Flows m types stored [] os c.args.bindgen.now c.store_arguments.new.bindgen) (sym c.in_ok-stored.ensures) c.in_ok-address.ensures.flows);
    }

pub returns : goal.returns
returns g c =
    let m = g.B.Bindgen.meaning in
    let types = c.args.resolve.now.types in
    let tys = c.args.tys.now in
    let ts = shapes_of types tys in
    let stored : Flow = ask_for (fields ts) >>> both (store_arguments types tys) same in
    let few = sym c.requires.indirect ∙ c.if-indirect.false in
    record {
      passes = passes_words m g.met.B.Bindgen.sound ts c.in_ok-words.words c.args.bindgen.now c.lower_arguments.new.bindgen few c.in_ok-words.ensures.lowers;
      flows = flows_as m types (lower_arguments types tys) (pass_code types tys) [] c.in_ok-words.words c.args.bindgen.now c.lower_arguments.new.bindgen (ap (λ q. if q then stored else lower_arguments types tys) few) c.in_ok-words.ensures.flows;
    }
