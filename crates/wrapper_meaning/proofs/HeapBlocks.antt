-- Blocks of a well-formed heap: which are live, and that no two stand at one address.
use Rattle.std.proofs.Common.{◌≡◌, ◌≤◌, ◌<◌, ℕ, suc, ◌+◌, ◌^◌, ◌&&◌, Bool, true, false, not, List, [], ◌∷◌, ◌++◌, refl, sym, subst, ◌∙◌, arith, if◌then◌else◌, nat_eq, nat_le, nat_lt, Contains}
use Rattle.std.specs.List.{list_all}
use Rattle.std.proofs.lemmas.Bool.{and_from, and_parts, eqb-true, lt-ltb, ltb-true, not-true, or_parts, true≢false}
use Rattle.std.proofs.lemmas.List.Sorted.{Contains-permutation}
use Rattle.wrapper_data.specs.declared.block.Block.{Block}
use Rattle.wrapper_data.specs.Heap.{are_apart, are_cells, is_block, overlaps, overlaps_any}
use Rattle.wrapper_meaning.specs.Items.{AllIn, SameItems, total}
use Rattle.wrapper_meaning.proofs.Permutations.{same_blocks_are_permuted}

-- 1. Some of the blocks of a heap are live in it

moved_in : (xs ys : List Block) → ((b : Block) → Contains xs b → Contains ys b) → (zs : List Block) → AllIn xs zs → AllIn ys zs
moved_in xs ys h [] all = tt
moved_in xs ys h (z ∷ zs) all = (h z all.0, moved_in xs ys h zs all.1)

pub behind_one : (x b : Block) (xs : List Block) → Contains xs b → Contains (x ∷ xs) b
behind_one x b xs (k, below, at) = (suc k, omega (below, arith), at)

in_front : (xs ys : List Block) → AllIn (xs ++ ys) xs
in_front [] ys = tt
in_front (x ∷ xs) ys = ((0, omega (arith), refl), moved_in (xs ++ ys) (x ∷ (xs ++ ys)) (λ b. behind_one x b (xs ++ ys)) xs (in_front xs ys))

pub still_there : (xs ys : List Block) → SameItems xs ys → (b : Block) → Contains xs b → Contains ys b
still_there xs ys same b h = Contains-permutation xs ys b ((same_blocks_are_permuted xs ys).0 same) h

pub all_in_heap : (heap blocks others : List Block) → SameItems heap (blocks ++ others) → AllIn heap blocks
all_in_heap heap blocks others same = moved_in (blocks ++ others) heap (still_there (blocks ++ others) heap (λ weight. sym (same weight))) blocks (in_front blocks others)

-- 2. No two of them stand at one address

abbrev pub at_address : ℕ → Block → ℕ
at_address a b = if nat_eq b.address a then 1 else 0

pub size_of_block : (b : Block) → is_block b ≡ true → 0 < b.size
size_of_block b h =
    let one = and_parts (nat_lt 0 b.size && nat_lt 0 b.address && nat_le (b.address + b.size) (2 ^ 32)) (are_cells 0 b.size b.cells) h in
    let two = and_parts (nat_lt 0 b.size && nat_lt 0 b.address) (nat_le (b.address + b.size) (2 ^ 32)) one.0 in
    ltb-true 0 b.size (and_parts (nat_lt 0 b.size) (nat_lt 0 b.address) two.0).0

meet : (b c : Block) → b.address ≡ c.address → 0 < b.size → 0 < c.size → overlaps b c ≡ true
meet b c at p q = and_from _ _ (lt-ltb b.address (c.address + c.size) (omega (at, q, arith))) (lt-ltb c.address (b.address + b.size) (omega (at, p, arith)))

-- what overlaps none has an address of its own
no_other : (b : Block) (blocks : List Block) → 0 < b.size → list_all is_block blocks ≡ true → overlaps_any b blocks ≡ false → total (at_address b.address) blocks ≡ 0
no_other b [] p each none = refl
no_other b (c ∷ blocks) p each none =
    by_test (nat_eq c.address b.address) refl (no_other b blocks p (and_parts (is_block c) (list_all is_block blocks) each).1 (or_parts (overlaps b c) (overlaps_any b blocks) none).1)
  where
    by_test : (q : Bool) → nat_eq c.address b.address ≡ q → total (at_address b.address) blocks ≡ 0 → (if q then 1 else 0) + total (at_address b.address) blocks ≡ 0
    by_test true e rest =
        let parts = and_parts (is_block c) (list_all is_block blocks) each in
        let free = or_parts (overlaps b c) (overlaps_any b blocks) none in
        absurd (true≢false (sym (meet b c (sym (eqb-true c.address b.address e)) p (size_of_block c parts.0)) ∙ free.0))
    by_test false e rest = omega (rest, arith)

pub at_most_one : (blocks : List Block) (a : ℕ) → list_all is_block blocks ≡ true → are_apart blocks ≡ true → total (at_address a) blocks ≤ 1
at_most_one [] a each apart = omega (arith)
at_most_one (b ∷ blocks) a each apart =
    by_test (nat_eq b.address a) refl (at_most_one blocks a (and_parts (is_block b) (list_all is_block blocks) each).1 (and_parts (not (overlaps_any b blocks)) (are_apart blocks) apart).1)
  where
    by_test : (q : Bool) → nat_eq b.address a ≡ q → total (at_address a) blocks ≤ 1 → (if q then 1 else 0) + total (at_address a) blocks ≤ 1
    by_test true e rest =
        let parts = and_parts (is_block b) (list_all is_block blocks) each in
        let free = and_parts (not (overlaps_any b blocks)) (are_apart blocks) apart in
        let none = no_other b blocks (size_of_block b parts.0) parts.1 (not-true (overlaps_any b blocks) free.0) in
        let nowhere : total (at_address a) blocks ≡ 0 = subst (λ x. total (at_address x) blocks ≡ 0) (eqb-true b.address a e) none in
        omega (nowhere, arith)
    by_test false e rest = omega (rest, arith)
