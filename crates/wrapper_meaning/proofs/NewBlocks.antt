-- Blocks that overlap neither one another nor a block of the heap all stand behind the heap's.
use Rattle.std.proofs.Common.{◌≡◌, ℕ, ◌+◌, ◌&&◌, ◌||◌, Bool, true, false, not, List, [], ◌∷◌, ◌++◌, refl, sym, ap, ap₂, ◌∙◌, arith, append_assoc, append-nil, if◌then◌else◌}
use Rattle.std.specs.List.{list_all}
use Rattle.std.proofs.lemmas.Bool.{and_from, and_parts, not-true, or_from, or_parts}
use Rattle.std.proofs.lemmas.Bool.Decides.{nat_tests}
use Rattle.std.proofs.lemmas.List.Folds.{list_any-append}
use Rattle.wrapper_data.specs.Answered.{with_block, with_blocks}
use Rattle.wrapper_data.specs.Heap.{are_apart, is_block, overlaps, overlaps_any}
use Rattle.wrapper_data.specs.declared.block.Block.{Block}
use Rattle.wrapper_data.specs.declared.heap.Heap.{Heap}
use Rattle.wrapper_meaning.specs.Honest.{are_new}
use Rattle.wrapper_data.proofs.FormedHeaps.{either_way}

-- a block that may stand beside these
abbrev is_free : List Block → Block → Bool
is_free blocks b = is_block b && not (overlaps_any b blocks)

-- those that overlap no block and not the next, overlap none of both
still_free : (blocks : List Block) (n : Block) (new : List Block) → list_all (is_free blocks) new ≡ true → overlaps_any n new ≡ false → list_all (is_free (blocks ++ n ∷ [])) new ≡ true
still_free blocks n [] h apart = refl
still_free blocks n (b ∷ new) h apart =
    let all = and_parts (is_free blocks b) (list_all (is_free blocks) new) h in
    let one = and_parts (is_block b) (not (overlaps_any b blocks)) all.0 in
    let away = or_parts (overlaps n b) (overlaps_any n new) apart in
    let none : overlaps_any b (blocks ++ n ∷ []) ≡ false =
    list_any-append (overlaps b) blocks (n ∷ []) ∙ or_from (overlaps_any b blocks) (overlaps_any b (n ∷ [])) (not-true (overlaps_any b blocks) one.1) (or_from (overlaps b n) false (either_way n b away.0) refl) in
    and_from (is_free (blocks ++ n ∷ []) b) (list_all (is_free (blocks ++ n ∷ [])) new) (and_from (is_block b) (not (overlaps_any b (blocks ++ n ∷ []))) one.0 (ap not none)) (still_free blocks n new all.1 away.1)

one_behind : (blocks : List Block) (n : Block) → is_free blocks n ≡ true → with_block blocks n ≡ blocks ++ n ∷ []
unfolding with_block
one_behind blocks n h = ap (λ c. if c then blocks ++ n ∷ [] else blocks) h

all_behind : (blocks new : List Block) → list_all (is_free blocks) new ≡ true → are_apart new ≡ true → with_blocks blocks new ≡ blocks ++ new
all_behind blocks [] h apart = sym (append-nil blocks)
all_behind blocks (n ∷ new) h apart =
    let all = and_parts (is_free blocks n) (list_all (is_free blocks) new) h in
    let away = and_parts (not (overlaps_any n new)) (are_apart new) apart in
    ap (λ bs. with_blocks bs new) (one_behind blocks n all.0)
    ∙ all_behind (blocks ++ n ∷ []) new (still_free blocks n new all.1 (not-true (overlaps_any n new) away.0)) away.1
    ∙ append_assoc blocks (n ∷ []) new

pub new_blocks_behind : (heap : Heap) (new : List Block) → are_new new heap ≡ true → with_blocks heap.blocks new ≡ heap.blocks ++ new
new_blocks_behind heap new h =
    let parts = and_parts (list_all (is_free heap.blocks) new) (are_apart new) h in
    all_behind heap.blocks new parts.0 parts.1
