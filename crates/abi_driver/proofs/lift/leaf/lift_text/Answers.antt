use Rattle.std.proofs.Common.{◌≡◌, ◌<◌, ◌+◌, List, [], ◌∷◌, ◌++◌, length, drop, take, refl, sym, ap, ◌∙◌, subst, arith}
use Rattle.abi_bindgen.specs.Flow.{emit}
use Rattle.abi_bindgen.specs.Instructions.{Emits}
use Rattle.abi_bindgen.specs.declared.instruction.Instruction.TheVariants.{StringLift}
use Rattle.abi_bindgen.proofs.FlatCode.{lift_text_code}
use Rattle.abi_driver.proofs.LiftSteps.{text_lifts}
use Rattle.abi_bindgen.proofs.Records.{drop-same}
use Rattle.abi_bindgen.proofs.FlowSteps.{flows_as}
use Rattle.abi_driver.proofs.lift.leaf.lift_text.Goals as goal

pub returns : goal.returns
returns g c =
    let m = g.B.Bindgen.meaning in
    let types = c.args.resolve.now.types in
    let operands = c.in_ok-push.ensures.ok ∙ ap (λ (os : List g.row.B-Operand.Denot). os ++ c.in_ok-length.length ∷ []) c.in_ok-operands.ensures in
    let e = subst (λ (os : List g.row.B-Operand.Denot). Emits m types StringLift os (c.in_ok-operand.operand ∷ []) c.args.bindgen.now c.send_one.new.bindgen) operands c.in_ok-operand.ensures in
    let short : c.args.at < length c.args.words.now = omega (arith, c.requires) in
    let shorter : c.args.at + 1 < length c.args.words.now = omega (arith, c.requires) in
    let first = drop-same c.args.words.now c.args.words.now c.args.at c.in_ok-address.address c.index-words-at.result refl short c.index-words-at.is c.in_ok-address.ensures in
    let second = drop-same c.args.words.now c.args.words.now (c.args.at + 1) c.in_ok-length.length c.index-words-at-2.result refl shorter c.index-words-at-2.is c.in_ok-length.ensures in
    let two : c.args.at + 1 + 1 ≡ c.args.at + 2 = omega arith in
    let front = first ∙ ap (λ os. c.in_ok-address.address ∷ os) (second ∙ ap (λ k. c.in_ok-length.length ∷ drop k c.args.words.now) two) in
    record {
      next = refl;
      lifts = (
        c.in_ok-address.address ∷ c.in_ok-length.length ∷ [],
        front,
        text_lifts m g.met.B.Bindgen.sound types _ _ c.in_ok-address.address c.in_ok-length.length c.in_ok-operand.operand e,
      );
      flows = flows_as m types (emit StringLift) _ _ _ _ _ (lift_text_code types)
          (subst (λ os. Emits m types StringLift os (c.in_ok-operand.operand ∷ []) c.args.bindgen.now c.send_one.new.bindgen) (ap (take 2) (sym front)) e);
    }
