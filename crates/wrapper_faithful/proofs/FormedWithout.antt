-- A heap stays well formed where a block goes.
use Rattle.std.proofs.Common.{◌≡◌, ℕ, Bool, true, false, not, cond, List, [], ◌∷◌, refl, ap}
use Rattle.std.specs.List.{list_all}
use Rattle.std.proofs.lemmas.Bool.{and_from, and_parts, not-true, or_from, or_parts}
use Rattle.wrapper_data.specs.declared.block.Block.{Block}
use Rattle.wrapper_data.specs.Heap.{are_apart, is_block, overlaps, overlaps_any}
use Rattle.wrapper_data.proofs.FormedHeaps.{AreFormed}
use Rattle.wrapper_run.specs.Memory.{is_at, without}
use Rattle.wrapper_run.proofs.BesideLemmas.{without_apart}

each_without : (address size : ℕ) (blocks : List Block) → list_all is_block blocks ≡ true → list_all is_block (without address size blocks) ≡ true
each_without address size [] h = refl
each_without address size (b ∷ blocks) h = by_test (is_at address size b) (each_without address size blocks (and_parts (is_block b) (list_all is_block blocks) h).1)
  where
    by_test : (t : Bool) → list_all is_block (without address size blocks) ≡ true → list_all is_block (cond t blocks (b ∷ without address size blocks)) ≡ true
    by_test true others = (and_parts (is_block b) (list_all is_block blocks) h).1
    by_test false others = and_from (is_block b) (list_all is_block (without address size blocks)) (and_parts (is_block b) (list_all is_block blocks) h).0 others

apart_without : (address size : ℕ) (blocks : List Block) → are_apart blocks ≡ true → are_apart (without address size blocks) ≡ true
apart_without address size [] h = refl
apart_without address size (b ∷ blocks) h = by_test (is_at address size b) (apart_without address size blocks (and_parts (not (overlaps_any b blocks)) (are_apart blocks) h).1)
  where
    by_test : (t : Bool) → are_apart (without address size blocks) ≡ true → are_apart (cond t blocks (b ∷ without address size blocks)) ≡ true
    by_test true others = (and_parts (not (overlaps_any b blocks)) (are_apart blocks) h).1
    by_test false others =
        let parts = and_parts (not (overlaps_any b blocks)) (are_apart blocks) h in
        and_from (not (overlaps_any b (without address size blocks))) (are_apart (without address size blocks)) (ap not (without_apart b address size blocks (not-true (overlaps_any b blocks) parts.0)))
        others

pub formed_without : (address size : ℕ) (blocks : List Block) → AreFormed blocks → AreFormed (without address size blocks)
formed_without address size blocks f = record { each = each_without address size blocks f.each; apart = apart_without address size blocks f.apart }
