-- What the peer of an import does to a heap: it adds its blocks, and then writes its bytes.
use Rattle.std.specs.Prelude.{ℕ, ◌-◌, not, ◌&&◌, nat_lt, if◌then◌else◌, List, [], ◌∷◌, ◌++◌, filter}
use Rattle.wrapper_data.specs.declared.block.Block.{Block}
use Rattle.wrapper_data.specs.declared.heap.Heap.{Heap}
use Rattle.wrapper_data.specs.Heap.{is_block, covers, overlaps_any}

-- a block behind the others, or left out where it is none or overlaps one of them
unfoldable pub with_block : List Block → Block → List Block
with_block blocks block = if is_block block && not (overlaps_any block blocks) then blocks ++ block ∷ [] else blocks

abbrev pub with_blocks : List Block → List Block → List Block
with_blocks blocks [] = blocks
with_blocks blocks (new ∷ later) = with_blocks (with_block blocks new) later

-- the cells below an offset, its cell, and those above it
abbrev pub with_cell : List (ℕ × ℕ) → ℕ → ℕ → List (ℕ × ℕ)
with_cell cells offset byte = filter (λ cell. nat_lt cell.0 offset) cells ++ (offset, byte) ∷ filter (λ cell. nat_lt offset cell.0) cells

-- a block that covers an address, with a byte there
unfoldable pub written_block : Block → ℕ → ℕ → Block
written_block block address byte = record block { cells = with_cell block.cells (address - block.address) byte }

-- a byte in the first block that covers its address, or left out where there is none
abbrev pub written_byte : List Block → ℕ → ℕ → List Block
written_byte [] address byte = []
written_byte (block ∷ blocks) address byte =
    if covers address block then written_block block address byte ∷ blocks else block ∷ written_byte blocks address byte

abbrev pub with_writes : List Block → List (ℕ × ℕ) → List Block
with_writes blocks [] = blocks
with_writes blocks (write ∷ writes) = with_writes (written_byte blocks write.0 write.1) writes

abbrev pub answered : List Block → List (ℕ × ℕ) → Heap → Heap
answered blocks writes heap = record heap { blocks = with_writes (with_blocks heap.blocks blocks) writes }
