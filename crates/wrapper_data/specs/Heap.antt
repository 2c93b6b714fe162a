-- When a block and a heap are well formed.
use Rattle.std.specs.Prelude.{ℕ, ◌+◌, ◌^◌, Bool, true, not, ◌&&◌, nat_lt, nat_le, List, [], ◌∷◌}
use Rattle.std.specs.List.{list_any, list_all}
use Rattle.wrapper_data.specs.declared.block.Block.{Block}
use Rattle.wrapper_data.specs.declared.heap.Heap.{Heap}

-- cells at strictly ascending offsets, from `low` on and below `size`
abbrev pub are_cells : ℕ → ℕ → List (ℕ × ℕ) → Bool
are_cells low size [] = true
are_cells low size (cell ∷ cells) = nat_le low cell.0 && nat_lt cell.0 size && are_cells (cell.0 + 1) size cells

abbrev pub is_block : Block → Bool
is_block block =
    nat_lt 0 block.size && nat_lt 0 block.address && nat_le (block.address + block.size) (2 ^ 32) && are_cells 0 block.size block.cells

-- whether an address lies in a block
abbrev pub covers : ℕ → Block → Bool
covers address block = nat_le block.address address && nat_lt address (block.address + block.size)

-- whether each of two blocks begins before the other ends
abbrev pub overlaps : Block → Block → Bool
overlaps a b = nat_lt a.address (b.address + b.size) && nat_lt b.address (a.address + a.size)

abbrev pub overlaps_any : Block → List Block → Bool
overlaps_any block blocks = list_any (overlaps block) blocks

-- no two of these blocks overlap
abbrev pub are_apart : List Block → Bool
are_apart [] = true
are_apart (block ∷ blocks) = not (overlaps_any block blocks) && are_apart blocks

abbrev pub is_heap : Heap → Bool
is_heap heap = list_all is_block heap.blocks && are_apart heap.blocks
