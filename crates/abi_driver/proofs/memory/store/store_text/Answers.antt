use Rattle.std.proofs.Common.{[], ◌∷◌, length, refl, ap, arith, List, subst}
use Rattle.abi_bindgen.specs.declared.instruction.Instruction.TheVariants.{LengthStore, PointerStore, StringLower}
use Rattle.abi_bindgen.specs.Flow.{emit, leading, both, ◌>>>◌, behind, Flow}
use Rattle.abi_bindgen.specs.Code.{store_by, behind_address, one_pointer, beyond}
use Rattle.abi_bindgen.specs.Instructions.{Emits}
use Rattle.abi_driver.proofs.LeafStores.{text_stores, two_words}
use Rattle.abi_bindgen.proofs.LowerSteps.{text_lowers}
use Rattle.abi_bindgen.proofs.FlowSteps.{flows_as, flows_then, flows_both}
use Rattle.abi_driver.proofs.MemoryCode.{store_text_code}
use Rattle.abi_driver.proofs.PartOffsets.{behind_at}
use Rattle.abi_driver.proofs.memory.store.store_text.Goals as goal

pub lower_by-requires : goal.lower_by-requires
lower_by-requires g c = record { built = refl; operands = refl; suits = c.requires.side }

pub bounds-as_slice-0 : goal.bounds-as_slice-0
bounds-as_slice-0 g c = omega (arith, ap length c.as_slice.ensures, c.in_ok-words.ensures.results)

pub bounds-as_slice-1 : goal.bounds-as_slice-1
bounds-as_slice-1 g c = omega (arith, ap length c.as_slice-2.ensures, c.in_ok-words.ensures.results)

pub store_word-requires : goal.store_word-requires
store_word-requires g c = record { sendable = record { built = refl; operands = refl; suits = tt }; silent = λ k h. h }

pub store_word-requires-2 : goal.store_word-requires-2
store_word-requires-2 g c = record { sendable = record { built = refl; operands = refl; suits = tt }; silent = λ k h. h }

pub returns : goal.returns
returns g c =
    let m = g.B.Bindgen.meaning in
    let sound = g.met.B.Bindgen.sound in
    let types = c.args.resolve.now.types in
    let flat = text_lowers m sound types c.args.realloc _ _ c.args.value c.in_ok-words.words c.in_ok-words.ensures in
    let pair = two_words c.in_ok-words.words c.as_slice.result.now c.as_slice-2.result.now c.index-as_slice-0.result c.index-as_slice-1.result c.in_ok-place.place c.in_ok-length.length c.in_ok-words.ensures.results c.as_slice.ensures c.as_slice-2.ensures c.index-as_slice-0.is c.index-as_slice-1.is c.in_ok-place.ensures c.in_ok-length.ensures in
    let beyond_it = c.behind_pointer-behind.result in
    let address = c.args.address.now in
    let value = c.args.value in
    let at = c.in_ok-place.place in
    let size = c.in_ok-length.length in
    let lowered = c.lower_by.new.bindgen in
    let stored = c.store_word.new.bindgen in
    let e = subst (λ (os : List g.row.B-Operand.Denot). Emits m types (StringLower c.args.realloc) (value ∷ []) os c.args.bindgen.now lowered) pair c.in_ok-words.ensures in
    let store = subst (λ o. Emits m types (LengthStore o) (size ∷ address ∷ []) [] lowered stored) c.behind_pointer-behind.ensures c.in_ok-store_word.ensures in
    let all = address ∷ at ∷ size ∷ [] in
    let put : Flow = both (store_by (behind 2) (LengthStore (beyond c.args.offset one_pointer))) (store_by (leading 2 >>> behind 1) (PointerStore c.args.offset)) in
    let flow = flows_then m types (behind_address (emit (StringLower c.args.realloc))) put (address ∷ value ∷ []) all [] _ _ _
    (flows_both m types (leading 1) (behind 1 >>> emit (StringLower c.args.realloc)) (address ∷ value ∷ []) (address ∷ []) (at ∷ size ∷ []) _ _ _ (refl, refl)
    (flows_then m types (behind 1) (emit (StringLower c.args.realloc)) (address ∷ value ∷ []) (value ∷ []) (at ∷ size ∷ []) _ _ _ (refl, refl) e))
    (flows_both m types (store_by (behind 2) (LengthStore (beyond c.args.offset one_pointer))) (store_by (leading 2 >>> behind 1) (PointerStore c.args.offset)) all [] [] lowered stored _
    (flows_then m types (both (behind 2) (leading 1)) (emit (LengthStore (beyond c.args.offset one_pointer))) all (size ∷ address ∷ []) [] lowered lowered stored
    (flows_both m types (behind 2) (leading 1) all (size ∷ []) (address ∷ []) lowered lowered lowered (refl, refl) (refl, refl)) store)
    (flows_then m types (both (leading 2 >>> behind 1) (leading 1)) (emit (PointerStore c.args.offset)) all (at ∷ address ∷ []) [] stored stored _
    (flows_both m types (leading 2 >>> behind 1) (leading 1) all (at ∷ []) (address ∷ []) stored stored stored
    (flows_then m types (leading 2) (behind 1) all (address ∷ at ∷ []) (at ∷ []) stored stored stored (refl, refl) (refl, refl)) (refl, refl)) c.in_ok-store_word-2.ensures)) in
    record {
      stores = text_stores m sound types c.args.realloc _ _ _ _ c.args.value c.in_ok-place.place c.in_ok-length.length c.args.address.now c.in_ok-words.words c.args.offset beyond_it (behind_at c.args.offset beyond_it _ c.behind_pointer-behind.ensures) pair flat c.in_ok-store_word.ensures c.in_ok-store_word-2.ensures;
      flows = flows_as m types _ _ _ _ _ _ (store_text_code types c.args.offset c.args.realloc) flow;
    }
