use Rattle.std.proofs.Common.{List, [], ◌∷◌, ◌++◌, length, refl, ap, ◌∙◌, subst}
use Rattle.abi_bindgen.specs.Instructions.{Emits}
use Rattle.abi_bindgen.specs.declared.instruction.Instruction.TheVariants.{LengthLoad, PointerLoad, StringLift}
use Rattle.abi_bindgen.specs.Flow.{emit}
use Rattle.abi_bindgen.specs.Code.{load_pair, one_pointer, beyond}
use Rattle.abi_driver.proofs.LeafLoads.{text_loads}
use Rattle.abi_driver.proofs.LiftSteps.{text_lifts}
use Rattle.abi_driver.proofs.MemoryCode.{load_text_code}
use Rattle.abi_driver.proofs.PartOffsets.{behind_at}
use Rattle.abi_bindgen.proofs.FlowSteps.{flows_as, flows_then, flows_both}
use Rattle.abi_driver.proofs.memory.load.load_text.Goals as goal

pub load_word-requires : goal.load_word-requires
load_word-requires g c = record { sendable = record { built = refl; operands = refl; suits = tt }; makes = λ k h. h }

pub load_word-requires-2 : goal.load_word-requires-2
load_word-requires-2 g c = record { sendable = record { built = refl; operands = refl; suits = tt }; makes = λ k h. h }

pub send_one-requires : goal.send_one-requires
send_one-requires g c =
    let operands = c.in_ok-push.ensures.ok ∙ ap (λ (os : List g.row.B-Operand.Denot). os ++ c.in_ok-length.length ∷ []) c.in_ok-operands.ensures in
    record { ready = record { built = refl; operands = ap length operands; suits = tt }; makes = λ k h. h }

pub returns : goal.returns
returns g c =
    let m = g.B.Bindgen.meaning in
    let sound = g.met.B.Bindgen.sound in
    let types = c.args.resolve.now.types in
    let operands = c.in_ok-push.ensures.ok ∙ ap (λ (os : List g.row.B-Operand.Denot). os ++ c.in_ok-length.length ∷ []) c.in_ok-operands.ensures in
    let e = subst (λ (os : List g.row.B-Operand.Denot). Emits m types StringLift os (c.in_ok-operand.operand ∷ []) c.load_word-2.new.bindgen c.send_one.new.bindgen) operands c.in_ok-operand.ensures in
    let beyond_it = c.behind_pointer-behind.result in
    let address = c.args.address.now in
    let load = subst (λ o. Emits m types (LengthLoad o) (address ∷ []) (c.in_ok-length.length ∷ []) c.load_word.new.bindgen c.load_word-2.new.bindgen) c.behind_pointer-behind.ensures c.in_ok-length.ensures in
    let pair = flows_both m types (emit (PointerLoad c.args.offset)) (emit (LengthLoad (beyond c.args.offset one_pointer))) (address ∷ []) (c.in_ok-place.place ∷ []) (c.in_ok-length.length ∷ []) _ _ _ c.in_ok-place.ensures load in
    record {
      loads = text_loads m sound types _ _ _ _ c.args.address.now c.in_ok-place.place c.in_ok-length.length c.in_ok-operand.operand c.args.offset beyond_it (behind_at c.args.offset beyond_it _ c.behind_pointer-behind.ensures) c.in_ok-place.ensures c.in_ok-length.ensures
          (text_lifts m sound types _ _ c.in_ok-place.place c.in_ok-length.length c.in_ok-operand.operand e);
      flows = flows_as m types _ _ _ _ _ _ (load_text_code types c.args.offset)
          (flows_then m types (load_pair c.args.offset) (emit StringLift) (address ∷ []) (c.in_ok-place.place ∷ c.in_ok-length.length ∷ []) (c.in_ok-operand.operand ∷ []) _ _ _ pair e);
    }
