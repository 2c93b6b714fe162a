use Rattle.std.proofs.Common.{List, [], ◌∷◌, length, refl, ap, ◌∙◌, subst}
use Rattle.wit_model.specs.Reaches.{reaches_itself}
use Rattle.wit_layout.specs.Extent.{discriminant_grain}
use Rattle.abi_bindgen.specs.Cases.{LiftsEnum}
use Rattle.abi_bindgen.specs.Instructions.{Emits}
use Rattle.abi_bindgen.specs.NumberTouches.{tag_load}
use Rattle.abi_bindgen.specs.declared.instruction.Instruction.{Instruction}
use Rattle.abi_bindgen.specs.declared.instruction.Instruction.TheVariants.{EnumLift}
use Rattle.abi_bindgen.specs.Flow.{emit}
use Rattle.abi_bindgen.proofs.EnumLowers.{enum_cases}
use Rattle.abi_driver.proofs.EnumSteps.{enum_loads}
use Rattle.abi_driver.proofs.LoadSteps.{loads_as}
use Rattle.abi_driver.proofs.MemoryCode.{load_enum_code}
use Rattle.abi_driver.proofs.NumberWords.{number_load_adds}
use Rattle.abi_driver.proofs.Sendable.{makeable_number_load}
use Rattle.abi_bindgen.proofs.Records.{enum_shape}
use Rattle.abi_bindgen.proofs.FlowSteps.{flows_as, flows_then}
use Rattle.abi_driver.proofs.memory.enums.load_enum.Goals as goal

pub load_word-requires : goal.load_word-requires
load_word-requires g c =
    let may = makeable_number_load g.B.Bindgen.meaning c.args.resolve.now c.args.offset c.tag_load-load.result c.args.bindgen.now c.args.address.now (discriminant_grain c.len-cases.result) c.tag_load-load.ensures in
    record { sendable = may.sendable; makes = may.makes }

pub send_one-requires-clause-ready : goal.send_one-requires-clause-ready
send_one-requires-clause-ready g c =
    let m = g.B.Bindgen.meaning in
    let types = c.args.resolve.now.types in
    let members = c.args.members.now in
    let is = c.tag_load-load.ensures ∙ ap (λ n. tag_load n c.args.offset) c.len-cases.ensures in
    let load = subst (λ (i : Instruction). Emits m types i (c.args.address.now ∷ []) (c.in_ok-tag.tag ∷ []) c.args.bindgen.now c.load_word.new.bindgen) is c.in_ok-tag.ensures in
    let adds = number_load_adds m g.met.B.Bindgen.sound types (discriminant_grain (length members)) c.args.offset (c.args.address.now ∷ []) (c.in_ok-tag.tag ∷ []) _ _ load in
    record { built = refl; operands = ap length c.in_ok-operands.ensures; suits = (members, c.requires.here, adds.grows.writes types c.args.id.0 (c.requires.writes c.args.id reaches_itself)) }

pub returns : goal.returns
returns g c =
    let m = g.B.Bindgen.meaning in
    let sound = g.met.B.Bindgen.sound in
    let types = c.args.resolve.now.types in
    let here = c.requires.here in
    let members = c.args.members.now in
    let e = subst (λ (os : List g.row.B-Operand.Denot). Emits m types (EnumLift c.args.id) os (c.in_ok-operand.operand ∷ []) c.load_word.new.bindgen c.send_one.new.bindgen) c.in_ok-operands.ensures c.in_ok-operand.ensures in
    let is = c.tag_load-load.ensures ∙ ap (λ n. tag_load n c.args.offset) c.len-cases.ensures in
    let load = subst (λ (i : Instruction). Emits m types i (c.args.address.now ∷ []) (c.in_ok-tag.tag ∷ []) c.args.bindgen.now c.load_word.new.bindgen) is c.in_ok-tag.ensures in
    let shape = enum_shape types c.requires.down c.args.id.0 here.entry here.stands members here.kind in
    let row = subst (λ ts. LiftsEnum m ts (c.in_ok-tag.tag ∷ []) (c.in_ok-operand.operand ∷ []) c.load_word.new.bindgen c.send_one.new.bindgen) (enum_cases types c.args.id.0 members here) e.row in
    record {
      loads = loads_as m sound types _ _ _ _ c.args.address.now c.in_ok-operand.operand c.args.offset shape (enum_loads m sound types members _ _ _ c.args.address.now c.in_ok-tag.tag c.in_ok-operand.operand c.args.offset load e.adds row);
      flows = flows_as m types _ _ _ _ _ _ (load_enum_code types c.requires.down c.args.id here.entry here.stands c.args.offset members here.kind)
          (flows_then m types (emit (tag_load (length members) c.args.offset)) (emit (EnumLift c.args.id)) (c.args.address.now ∷ []) (c.in_ok-tag.tag ∷ []) (c.in_ok-operand.operand ∷ []) _ _ _ load e);
    }
