use Rattle.std.proofs.Common.{◌<◌, List, [], ◌∷◌, length, take, refl, sym, ap, subst}
use Rattle.abi_bindgen.specs.Flow.{emit}
use Rattle.abi_bindgen.specs.Instructions.{Emits}
use Rattle.abi_bindgen.proofs.FlatCode.{lift_scalar_code}
use Rattle.abi_driver.proofs.LeafLoads.{lift_makes, lift_sendable}
use Rattle.abi_driver.proofs.LiftSteps.{scalar_lifts}
use Rattle.abi_bindgen.proofs.Records.{drop-same}
use Rattle.abi_bindgen.proofs.FlowSteps.{flows_as}
use Rattle.abi_driver.proofs.lift.leaf.lift_scalar.Goals as goal

pub send_one-requires : goal.send_one-requires
send_one-requires g c = record {
  ready = lift_sendable g.B.Bindgen.meaning c.args.resolve.now.types c.args.resolve.now c.args.ty c.args.inst c.in_ok-operands.operands c.in_ok-word.word _ c.requires.lifting c.in_ok-operands.ensures;
  makes = λ k h. lift_makes g.B.Bindgen.meaning c.args.resolve.now.types c.args.ty c.args.inst k c.requires.lifting h;
}

pub returns : goal.returns
returns g c =
    let m = g.B.Bindgen.meaning in
    let types = c.args.resolve.now.types in
    let e = subst (λ (os : List g.row.B-Operand.Denot). Emits m types c.args.inst os (c.in_ok-operand.operand ∷ []) c.args.bindgen.now c.send_one.new.bindgen) c.in_ok-operands.ensures c.in_ok-operand.ensures in
    let short : c.args.at < length c.args.words.now = c.requires.enough in
    let front = drop-same c.args.words.now c.args.words.now c.args.at c.in_ok-word.word c.index-words-at.result refl short c.index-words-at.is c.in_ok-word.ensures in
    record {
      next = refl;
      lifts = (
        c.in_ok-word.word ∷ [],
        front,
        scalar_lifts m g.met.B.Bindgen.sound types c.args.ty c.args.inst _ _ c.in_ok-word.word c.in_ok-operand.operand c.requires.lifting e,
      );
      flows = flows_as m types (emit c.args.inst) _ _ _ _ _ (lift_scalar_code types c.args.ty c.args.inst c.requires.lifting)
          (subst (λ os. Emits m types c.args.inst os (c.in_ok-operand.operand ∷ []) c.args.bindgen.now c.send_one.new.bindgen) (ap (take 1) (sym front)) e);
    }
