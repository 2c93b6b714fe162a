use Rattle.std.proofs.Common.{◌<◌, List, [], ◌∷◌, length, take, refl, sym, ap, subst}
use Rattle.abi_bindgen.specs.Flow.{emit}
use Rattle.abi_bindgen.specs.Instructions.{Emits}
use Rattle.abi_bindgen.specs.declared.instruction.Instruction.TheVariants.{EnumLift}
use Rattle.abi_driver.proofs.EnumSteps.{enum_lifts}
use Rattle.abi_bindgen.proofs.FlatCode.{lift_enum_code}
use Rattle.abi_driver.proofs.LiftSteps.{lifts_as}
use Rattle.abi_bindgen.proofs.Records.{drop-same, enum_shape}
use Rattle.abi_bindgen.proofs.FlowSteps.{flows_as}
use Rattle.wit_model.specs.Reaches.{reaches_itself}
use Rattle.abi_driver.proofs.lift.enums.lift_enum.Goals as goal

pub send_one-requires-clause-ready : goal.send_one-requires-clause-ready
send_one-requires-clause-ready g c = record { built = refl; operands = ap length c.in_ok-operands.ensures; suits = (c.args.members.now, c.requires.here, c.requires.writes c.args.id reaches_itself) }

pub returns : goal.returns
returns g c =
    let m = g.B.Bindgen.meaning in
    let types = c.args.resolve.now.types in
    let here = c.requires.here in
    let e = subst (λ (os : List g.row.B-Operand.Denot). Emits m types (EnumLift c.args.id) os (c.in_ok-operand.operand ∷ []) c.args.bindgen.now c.send_one.new.bindgen) c.in_ok-operands.ensures c.in_ok-operand.ensures in
    let short : c.args.at < length c.args.words.now = c.requires.enough in
    let shape = enum_shape types c.requires.down c.args.id.0 here.entry here.stands c.args.members.now here.kind in
    let front = drop-same c.args.words.now c.args.words.now c.args.at c.in_ok-tag.tag c.index-words-at.result refl short c.index-words-at.is c.in_ok-tag.ensures in
    record {
      next = refl;
      lifts = lifts_as m g.met.B.Bindgen.sound types _ _ _ _ c.args.words.now c.args.at _ _ shape (
        c.in_ok-tag.tag ∷ [],
        front,
        enum_lifts m g.met.B.Bindgen.sound types c.args.id c.args.members.now _ _ c.in_ok-tag.tag c.in_ok-operand.operand here c.requires.few e,
      );
      flows = flows_as m types (emit (EnumLift c.args.id)) _ _ _ _ _ (lift_enum_code types c.requires.down c.args.id here.entry here.stands c.args.members.now here.kind)
          (subst (λ os. Emits m types (EnumLift c.args.id) os (c.in_ok-operand.operand ∷ []) c.args.bindgen.now c.send_one.new.bindgen) (ap (take 1) (sym front)) e);
    }
