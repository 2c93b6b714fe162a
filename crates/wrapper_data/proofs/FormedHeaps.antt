-- What is done to a well-formed heap leaves it well formed: bytes are written, blocks are added that overlap none, blocks go.
use Rattle.std.proofs.Common.{◌≡◌, ◌≤◌, ◌<◌, ℕ, ◌+◌, ◌-◌, ◌^◌, ◌&&◌, Bool, true, false, not, cond, List, [], ◌∷◌, ◌++◌, filter, refl, sym, ap, ap₂, subst, ◌∙◌, arith}
use Rattle.std.specs.Prelude.{nat_lt, nat_le, ◌||◌}
use Rattle.std.specs.List.{list_all}
use Rattle.std.proofs.lemmas.Bool.{and_from, and_parts, le-leb, le-ltb, leb-true, lt-ltb, ltb-false, ltb-true, not-true, or_from, or_parts}
use Rattle.std.proofs.lemmas.Bool.Decides.{nat_tests}
use Rattle.wrapper_data.specs.Answered.{answered, with_block, with_blocks, with_cell, with_writes, written_block, written_byte}
use Rattle.wrapper_data.specs.declared.block.Block.{Block}
use Rattle.wrapper_data.specs.declared.heap.Heap.{Heap}
use Rattle.wrapper_data.specs.Heap.{are_apart, are_cells, covers, is_block, is_heap, overlaps, overlaps_any}

-- 1. Cells

-- the first of ascending cells, and the others
record IsFirst (low size : ℕ) (c : ℕ × ℕ) (cells : List (ℕ × ℕ)) : Type 0 where
  from : low ≤ c.0
  below : c.0 < size
  rest : are_cells (c.0 + 1) size cells ≡ true

first_cell : (low size : ℕ) (c : ℕ × ℕ) (cells : List (ℕ × ℕ)) → are_cells low size (c ∷ cells) ≡ true → IsFirst low size c cells
first_cell low size c cells h =
    let parts = and_parts (nat_le low c.0 && nat_lt c.0 size) (are_cells (c.0 + 1) size cells) h in
    let place = and_parts (nat_le low c.0) (nat_lt c.0 size) parts.0 in
    record { from = leb-true low c.0 place.0; below = ltb-true c.0 size place.1; rest = parts.1 }

with_first : (low size : ℕ) (c : ℕ × ℕ) (cells : List (ℕ × ℕ)) → low ≤ c.0 → c.0 < size → are_cells (c.0 + 1) size cells ≡ true → are_cells low size (c ∷ cells) ≡ true
with_first low size c cells l b rest =
    and_from (nat_le low c.0 && nat_lt c.0 size) (are_cells (c.0 + 1) size cells) (and_from (nat_le low c.0) (nat_lt c.0 size) (le-leb low c.0 l) (lt-ltb c.0 size b)) rest

from_lower : (low lower size : ℕ) (cells : List (ℕ × ℕ)) → lower ≤ low → are_cells low size cells ≡ true → are_cells lower size cells ≡ true
from_lower low lower size [] l h = refl
from_lower low lower size (c ∷ cells) l h =
    let first = first_cell low size c cells h in
    with_first lower size c cells (omega (l, first.from, arith)) first.below first.rest

-- some of ascending cells ascend
some_cells : (passes : ℕ × ℕ → Bool) (low size : ℕ) (cells : List (ℕ × ℕ)) → are_cells low size cells ≡ true → are_cells low size (filter passes cells) ≡ true
some_cells passes low size [] h = refl
some_cells passes low size (c ∷ cells) h = by_test (passes c) (some_cells passes (c.0 + 1) size cells (first_cell low size c cells h).rest)
  where
    by_test : (t : Bool) → are_cells (c.0 + 1) size (filter passes cells) ≡ true → are_cells low size (cond t (c ∷ filter passes cells) (filter passes cells)) ≡ true
    by_test true rest =
        let first = first_cell low size c cells h in
        with_first low size c (filter passes cells) first.from first.below rest
    by_test false rest =
        let first = first_cell low size c cells h in
        from_lower (c.0 + 1) low size (filter passes cells) (omega (first.from, arith)) rest

abbrev is_behind : ℕ → ℕ × ℕ → Bool
is_behind offset c = nat_lt offset c.0

abbrev is_before : ℕ → ℕ × ℕ → Bool
is_before offset c = nat_lt c.0 offset

cells_behind : (offset low size : ℕ) (cells : List (ℕ × ℕ)) → are_cells low size cells ≡ true → are_cells (offset + 1) size (filter (is_behind offset) cells) ≡ true
cells_behind offset low size [] h = refl
cells_behind offset low size (c ∷ cells) h = by_test (nat_lt offset c.0) refl (cells_behind offset (c.0 + 1) size cells (first_cell low size c cells h).rest)
  where
    by_test : (t : Bool) → nat_lt offset c.0 ≡ t → are_cells (offset + 1) size (filter (is_behind offset) cells) ≡ true → are_cells (offset + 1) size (cond t (c ∷ filter (is_behind offset) cells) (filter (is_behind offset) cells)) ≡ true
    by_test true e rest =
        let first = first_cell low size c cells h in
        with_first (offset + 1) size c (filter (is_behind offset) cells) (omega (ltb-true offset c.0 e, arith)) first.below (some_cells (is_behind offset) (c.0 + 1) size cells first.rest)
    by_test false e rest = rest

none_before : (offset low size : ℕ) (cells : List (ℕ × ℕ)) → offset ≤ low → are_cells low size cells ≡ true → filter (is_before offset) cells ≡ []
none_before offset low size [] l h = refl
none_before offset low size (c ∷ cells) l h =
    let first = first_cell low size c cells h in
    ap (λ t. cond t (c ∷ filter (is_before offset) cells) (filter (is_before offset) cells)) (le-ltb c.0 offset (omega (l, first.from, arith)))
    ∙ none_before offset (c.0 + 1) size cells (omega (l, first.from, arith)) first.rest

-- a cell at its place among ascending ones
cell_added : (offset byte low size : ℕ) (cells : List (ℕ × ℕ)) → low ≤ offset → offset < size → are_cells low size cells ≡ true → are_cells low size (with_cell cells offset byte) ≡ true
cell_added offset byte low size [] l b h = with_first low size (offset, byte) [] l b refl
cell_added offset byte low size (c ∷ cells) l b h =
    by_test (nat_lt c.0 offset) refl (λ less. cell_added offset byte (c.0 + 1) size cells (omega (less, arith)) b (first_cell low size c cells h).rest)
  where
    by_test : (t : Bool) → nat_lt c.0 offset ≡ t → (c.0 < offset → are_cells (c.0 + 1) size (with_cell cells offset byte) ≡ true) → are_cells low size (with_cell (c ∷ cells) offset byte) ≡ true
    by_test true e later =
        let first = first_cell low size c cells h in
        let less = ltb-true c.0 offset e in
        let is : with_cell (c ∷ cells) offset byte ≡ c ∷ with_cell cells offset byte =
        ap₂ (λ s t. cond s (c ∷ filter (is_before offset) cells) (filter (is_before offset) cells) ++ (offset, byte) ∷ cond t (c ∷ filter (is_behind offset) cells) (filter (is_behind offset) cells)) e (le-ltb offset c.0 (omega (less, arith))) in
        subst (λ cs. are_cells low size cs ≡ true) (sym is)
        (with_first low size c (with_cell cells offset byte) first.from first.below (later less))
    by_test false e later =
        let first = first_cell low size c cells h in
        let more = ltb-false c.0 offset e in
        let none : filter (is_before offset) (c ∷ cells) ≡ [] = none_before offset offset size (c ∷ cells) (omega (arith)) (with_first offset size c cells more first.below first.rest) in
        subst (λ cs. are_cells low size (cs ++ (offset, byte) ∷ filter (is_behind offset) (c ∷ cells)) ≡ true) (sym none)
        (with_first low size (offset, byte) (filter (is_behind offset) (c ∷ cells)) l b (cells_behind offset low size (c ∷ cells) h))

-- 2. Blocks

pub record AreFormed (blocks : List Block) : Type 0 where
  pub each : list_all is_block blocks ≡ true
  pub apart : are_apart blocks ≡ true

pub formed : (heap : Heap) → is_heap heap ≡ true → AreFormed heap.blocks
formed heap h =
    let parts = and_parts (list_all is_block heap.blocks) (are_apart heap.blocks) h in
    record { each = parts.0; apart = parts.1 }

pub is_formed : (heap : Heap) → AreFormed heap.blocks → is_heap heap ≡ true
is_formed heap f = and_from (list_all is_block heap.blocks) (are_apart heap.blocks) f.each f.apart

-- bytes are written

block_written : (b : Block) (address byte : ℕ) → is_block b ≡ true → covers address b ≡ true → is_block (written_block b address byte) ≡ true
unfolding written_block
block_written b address byte h there =
    let parts = and_parts (nat_lt 0 b.size && nat_lt 0 b.address && nat_le (b.address + b.size) (2 ^ 32)) (are_cells 0 b.size b.cells) h in
    let place = and_parts (nat_le b.address address) (nat_lt address (b.address + b.size)) there in
    let low = leb-true b.address address place.0 in
    let high = ltb-true address (b.address + b.size) place.1 in
    and_from (nat_lt 0 b.size && nat_lt 0 b.address && nat_le (b.address + b.size) (2 ^ 32)) (are_cells 0 b.size (with_cell b.cells (address - b.address) byte)) parts.0
    (cell_added (address - b.address) byte 0 b.size b.cells (omega (arith)) (omega (low, high, arith)) parts.1)

each_written : (blocks : List Block) (address byte : ℕ) → list_all is_block blocks ≡ true → list_all is_block (written_byte blocks address byte) ≡ true
each_written [] address byte h = refl
each_written (b ∷ blocks) address byte h = by_test (covers address b) refl (each_written blocks address byte (and_parts (is_block b) (list_all is_block blocks) h).1)
  where
    by_test : (t : Bool) → covers address b ≡ t → list_all is_block (written_byte blocks address byte) ≡ true → list_all is_block (cond t (written_block b address byte ∷ blocks) (b ∷ written_byte blocks address byte)) ≡ true
    by_test true e others =
        let parts = and_parts (is_block b) (list_all is_block blocks) h in
        and_from (is_block (written_block b address byte)) (list_all is_block blocks) (block_written b address byte parts.0 e) parts.1
    by_test false e others =
        let parts = and_parts (is_block b) (list_all is_block blocks) h in
        and_from (is_block b) (list_all is_block (written_byte blocks address byte)) parts.0 others

-- each block stands where it stood
overlaps_written : (x : Block) (blocks : List Block) (address byte : ℕ) → overlaps_any x (written_byte blocks address byte) ≡ overlaps_any x blocks
unfolding written_block
overlaps_written x [] address byte = refl
overlaps_written x (b ∷ blocks) address byte = by_test (covers address b) (overlaps_written x blocks address byte)
  where
    by_test : (t : Bool) → overlaps_any x (written_byte blocks address byte) ≡ overlaps_any x blocks → overlaps_any x (cond t (written_block b address byte ∷ blocks) (b ∷ written_byte blocks address byte)) ≡ overlaps_any x (b ∷ blocks)
    by_test true others = refl
    by_test false others = ap (λ o. overlaps x b || o) others

apart_written : (blocks : List Block) (address byte : ℕ) → are_apart (written_byte blocks address byte) ≡ are_apart blocks
unfolding written_block
apart_written [] address byte = refl
apart_written (b ∷ blocks) address byte = by_test (covers address b) (apart_written blocks address byte)
  where
    by_test : (t : Bool) → are_apart (written_byte blocks address byte) ≡ are_apart blocks → are_apart (cond t (written_block b address byte ∷ blocks) (b ∷ written_byte blocks address byte)) ≡ are_apart (b ∷ blocks)
    by_test true others = refl
    by_test false others = ap₂ (λ o a. not o && a) (overlaps_written b blocks address byte) others

pub formed_written : (blocks : List Block) (writes : List (ℕ × ℕ)) → AreFormed blocks → AreFormed (with_writes blocks writes)
formed_written blocks [] f = f
formed_written blocks (w ∷ writes) f =
    formed_written (written_byte blocks w.0 w.1) writes (record { each = each_written blocks w.0 w.1 f.each; apart = apart_written blocks w.0 w.1 ∙ f.apart })

-- a block is added that overlaps none

each_added : (blocks : List Block) (b : Block) → list_all is_block blocks ≡ true → is_block b ≡ true → list_all is_block (blocks ++ b ∷ []) ≡ true
each_added [] b h one = and_from (is_block b) true one refl
each_added (c ∷ blocks) b h one =
    let parts = and_parts (is_block c) (list_all is_block blocks) h in
    and_from (is_block c) (list_all is_block (blocks ++ b ∷ [])) parts.0 (each_added blocks b parts.1 one)

pub either_way : (a b : Block) → overlaps a b ≡ false → overlaps b a ≡ false
either_way a b h = grind (arith, nat_tests)

overlaps_added : (c : Block) (blocks : List Block) (b : Block) → overlaps_any c blocks ≡ false → overlaps c b ≡ false → overlaps_any c (blocks ++ b ∷ []) ≡ false
overlaps_added c [] b h one = or_from (overlaps c b) false one refl
overlaps_added c (d ∷ blocks) b h one =
    let parts = or_parts (overlaps c d) (overlaps_any c blocks) h in
    or_from (overlaps c d) (overlaps_any c (blocks ++ b ∷ [])) parts.0 (overlaps_added c blocks b parts.1 one)

apart_added : (blocks : List Block) (b : Block) → are_apart blocks ≡ true → overlaps_any b blocks ≡ false → are_apart (blocks ++ b ∷ []) ≡ true
apart_added [] b h none = refl
apart_added (c ∷ blocks) b h none =
    let parts = and_parts (not (overlaps_any c blocks)) (are_apart blocks) h in
    let free = or_parts (overlaps b c) (overlaps_any b blocks) none in
    and_from (not (overlaps_any c (blocks ++ b ∷ []))) (are_apart (blocks ++ b ∷ [])) (ap not (overlaps_added c blocks b (not-true (overlaps_any c blocks) parts.0) (either_way b c free.0)))
    (apart_added blocks b parts.1 free.1)

pub formed_added : (blocks : List Block) (b : Block) → AreFormed blocks → is_block b ≡ true → overlaps_any b blocks ≡ false → AreFormed (blocks ++ b ∷ [])
formed_added blocks b f one none = record { each = each_added blocks b f.each one; apart = apart_added blocks b f.apart none }

formed_with : (blocks : List Block) (b : Block) → AreFormed blocks → AreFormed (with_block blocks b)
unfolding with_block
formed_with blocks b f = by_test (is_block b && not (overlaps_any b blocks)) refl
  where
    by_test : (t : Bool) → (is_block b && not (overlaps_any b blocks)) ≡ t → AreFormed (cond t (blocks ++ b ∷ []) blocks)
    by_test true e =
        let parts = and_parts (is_block b) (not (overlaps_any b blocks)) e in
        formed_added blocks b f parts.0 (not-true (overlaps_any b blocks) parts.1)
    by_test false e = f

formed_with_all : (blocks new : List Block) → AreFormed blocks → AreFormed (with_blocks blocks new)
formed_with_all blocks [] f = f
formed_with_all blocks (b ∷ new) f = formed_with_all (with_block blocks b) new (formed_with blocks b f)

pub formed_answered : (heap : Heap) (new : List Block) (writes : List (ℕ × ℕ)) → AreFormed heap.blocks → AreFormed (answered new writes heap).blocks
formed_answered heap new writes f = formed_written (with_blocks heap.blocks new) writes (formed_with_all heap.blocks new f)
