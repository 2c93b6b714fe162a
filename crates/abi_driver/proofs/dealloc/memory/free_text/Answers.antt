use Rattle.std.proofs.Common.{List, [], ◌∷◌, ◌++◌, length, refl, ap, ◌∙◌, subst}
use Rattle.abi_bindgen.specs.Instructions.{Emits}
use Rattle.abi_bindgen.specs.declared.instruction.Instruction.TheVariants.{GuestDeallocateString, LengthLoad, PointerLoad}
use Rattle.abi_bindgen.specs.Flow.{emit}
use Rattle.abi_bindgen.specs.Code.{load_pair, one_pointer, beyond}
use Rattle.abi_driver.proofs.FlatFrees.{text_freed}
use Rattle.abi_driver.proofs.LeafFrees.{text_frees}
use Rattle.abi_driver.proofs.MemoryCode.{free_text_code}
use Rattle.abi_driver.proofs.PartOffsets.{behind_at}
use Rattle.abi_bindgen.proofs.FlowSteps.{flows_as, flows_then, flows_both}
use Rattle.std.proofs.lemmas.List.{nil_from_length}
use Rattle.abi_driver.proofs.dealloc.memory.free_text.Goals as goal

pub load_word-requires : goal.load_word-requires
load_word-requires g c = record { sendable = record { built = refl; operands = refl; suits = tt }; makes = λ k h. h }

pub load_word-requires-2 : goal.load_word-requires-2
load_word-requires-2 g c = record { sendable = record { built = refl; operands = refl; suits = tt }; makes = λ k h. h }

pub send-requires : goal.send-requires
send-requires g c = record { built = refl; operands = ap length c.in_ok-push.ensures.ok ∙ ap (λ (os : List g.row.B-Operand.Denot). length (os ++ c.in_ok-length.length ∷ [])) c.in_ok-operands.ensures; suits = tt }

pub returns : goal.returns
returns g c =
    let m = g.B.Bindgen.meaning in
    let sound = g.met.B.Bindgen.sound in
    let types = c.args.resolve.now.types in
    let operands = c.in_ok-push.ensures.ok ∙ ap (λ (os : List g.row.B-Operand.Denot). os ++ c.in_ok-length.length ∷ []) c.in_ok-operands.ensures in
    let e = subst (λ (os : List g.row.B-Operand.Denot). Emits m types GuestDeallocateString os c.in_ok-_none._none c.load_word-2.new.bindgen c.send.new.bindgen) operands c.in_ok-_none.ensures in
    let flat = text_freed m sound types _ _ c.in_ok-place.place c.in_ok-length.length c.in_ok-_none._none e in
    let beyond_it = c.behind_pointer-behind.result in
    let address = c.args.address.now in
    let load = subst (λ o. Emits m types (LengthLoad o) (address ∷ []) (c.in_ok-length.length ∷ []) c.load_word.new.bindgen c.load_word-2.new.bindgen) c.behind_pointer-behind.ensures c.in_ok-length.ensures in
    let pair = flows_both m types (emit (PointerLoad c.args.offset)) (emit (LengthLoad (beyond c.args.offset one_pointer))) (address ∷ []) (c.in_ok-place.place ∷ []) (c.in_ok-length.length ∷ []) _ _ _ c.in_ok-place.ensures load in
    let none = nil_from_length c.in_ok-_none._none e.results in
    let freed = subst (λ (os : List g.row.B-Operand.Denot). Emits m types GuestDeallocateString (c.in_ok-place.place ∷ c.in_ok-length.length ∷ []) os c.load_word-2.new.bindgen c.send.new.bindgen) none e in
    record {
      frees = text_frees m sound types _ _ _ _ c.args.address.now c.in_ok-place.place c.in_ok-length.length c.args.offset beyond_it (behind_at c.args.offset beyond_it _ c.behind_pointer-behind.ensures) c.in_ok-place.ensures c.in_ok-length.ensures flat;
      flows = flows_as m types _ _ _ _ _ _ (free_text_code types c.args.offset)
          (flows_then m types (load_pair c.args.offset) (emit GuestDeallocateString) (address ∷ []) (c.in_ok-place.place ∷ c.in_ok-length.length ∷ []) [] _ _ _ pair freed);
    }
