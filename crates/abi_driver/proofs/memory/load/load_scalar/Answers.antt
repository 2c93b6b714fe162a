use Rattle.std.proofs.Common.{List, [], ◌∷◌, sym, ◌∙◌, subst}
use Rattle.abi_bindgen.specs.Instructions.{Emits}
use Rattle.abi_bindgen.specs.Flow.{emit}
use Rattle.abi_driver.proofs.LeafLoads.{lift_makes, lift_sendable, scalar_loads}
use Rattle.abi_driver.proofs.LiftSteps.{scalar_lifts}
use Rattle.abi_driver.proofs.MemoryCode.{load_scalar_code}
use Rattle.abi_driver.proofs.Sendable.{makeable_load}
use Rattle.abi_driver.proofs.ScalarTouched.{is_loaded}
use Rattle.abi_bindgen.proofs.FlowSteps.{flows_as, flows_then}
use Rattle.abi_driver.proofs.memory.load.load_scalar.Goals as goal

pub unreachable-requires : goal.unreachable-requires
unreachable-requires g c = is_loaded c.args.ty c.args.lift c.args.offset c.requires (sym c.scalar_load.ensures ∙ c.in_default.is)

pub load_word-requires : goal.load_word-requires
load_word-requires g c =
    let may = makeable_load g.B.Bindgen.meaning c.args.resolve.now c.args.offset c.in-Some.load c.args.bindgen.now c.args.address.now c.args.ty (sym c.scalar_load.ensures ∙ c.in-Some.is) in
    record { sendable = may.sendable; makes = may.makes }

pub returns : goal.returns
returns g c =
    let m = g.B.Bindgen.meaning in
    let sound = g.met.B.Bindgen.sound in
    let types = c.args.resolve.now.types in
    let e = subst (λ (os : List g.row.B-Operand.Denot). Emits m types c.args.lift os (c.in_ok-operand.operand ∷ []) c.load_word.new.bindgen c.send_one.new.bindgen) c.in_ok-operands.ensures c.in_ok-operand.ensures in
    let is = sym c.scalar_load.ensures ∙ c.in-Some.is in
    record {
      loads = scalar_loads m sound types c.args.ty c.in-Some.load c.args.offset _ _ _ c.args.address.now c.in_ok-word.word c.in_ok-operand.operand is c.in_ok-word.ensures
          (scalar_lifts m sound types c.args.ty c.args.lift _ _ c.in_ok-word.word c.in_ok-operand.operand c.requires e);
      flows = flows_as m types _ _ _ _ _ _ (load_scalar_code types c.args.offset c.args.ty c.in-Some.load c.args.lift is c.requires)
          (flows_then m types (emit c.in-Some.load) (emit c.args.lift) (c.args.address.now ∷ []) (c.in_ok-word.word ∷ []) (c.in_ok-operand.operand ∷ []) _ _ _ c.in_ok-word.ensures e);
    }

pub send_one-requires-clause-ready : goal.send_one-requires-clause-ready
send_one-requires-clause-ready g c =
    lift_sendable g.B.Bindgen.meaning c.args.resolve.now.types c.args.resolve.now c.args.ty c.args.lift c.in_ok-operands.operands c.in_ok-word.word _ c.requires c.in_ok-operands.ensures

pub send_one-requires-clause-makes : goal.send_one-requires-clause-makes
send_one-requires-clause-makes g c = λ k h. lift_makes g.B.Bindgen.meaning c.args.resolve.now.types c.args.ty c.args.lift k c.requires h
