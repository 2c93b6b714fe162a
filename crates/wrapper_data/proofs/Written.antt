-- The write of a byte as a write at the place of the first block that covers its address.
use Rattle.std.proofs.Common.{◌≡◌, ◌≤◌, ℕ, Bool, true, false, List, [], ◌∷◌, Some, None, get_or, set, refl, ap, arith}
use Rattle.std.proofs.Math.Numerals.{one-add}
use Rattle.std.specs.List.{position, position_or_len}
use Rattle.std.proofs.lemmas.Grind.{common_steps}
use Rattle.std.proofs.lemmas.List.{set_past}
use Rattle.std.proofs.lemmas.List.Quantifiers.{position-Some}
use Rattle.wrapper_data.specs.declared.block.Block.{Block}
use Rattle.wrapper_data.specs.Heap.{covers}
use Rattle.wrapper_data.specs.Answered.{written_block, written_byte}

abbrev IsWrittenAtFirst : List Block → ℕ → ℕ → Block → Type 0
IsWrittenAtFirst blocks address byte d =
    let at = position_or_len (covers address) blocks in
    written_byte blocks address byte ≡ set blocks at (written_block (get_or blocks at d) address byte)

written_behind : (block : Block) (blocks : List Block) (address byte : ℕ) (d : Block) (here : Bool) → covers address block ≡ here → IsWrittenAtFirst blocks address byte d → IsWrittenAtFirst (block ∷ blocks) address byte d
written_behind block blocks address byte d true covered_here behind = rw covered_here refl
written_behind block blocks address byte d false not_here behind = rw (not_here, one-add) (ap (λ bs. block ∷ bs) behind)

written_at_first : (blocks : List Block) (address byte : ℕ) (d : Block) → IsWrittenAtFirst blocks address byte d
written_at_first [] address byte d = refl
written_at_first (block ∷ blocks) address byte d =
    written_behind block blocks address byte d (covers address block) refl (written_at_first blocks address byte d)

no_block : Block
no_block = record { address = 0; size = 0; cells = [] }

pub written_some : (blocks : List Block) (address byte at : ℕ) (d : Block) → position (covers address) blocks ≡ Some at → written_byte blocks address byte ≡ set blocks at (written_block (get_or blocks at d) address byte)
written_some blocks address byte at d found = grind (arith, common_steps, written_at_first blocks address byte d)

pub written_none : (blocks : List Block) (address byte : ℕ) → position (covers address) blocks ≡ None → written_byte blocks address byte ≡ blocks
written_none blocks address byte missed =
    grind (arith, common_steps, set_past {X = Block}, written_at_first blocks address byte no_block)

pub covered : (blocks : List Block) (address at : ℕ) (d : Block) → position (covers address) blocks ≡ Some at → (get_or blocks at d).address ≤ address
covered blocks address at d found = grind (arith, common_steps, position-Some (covers address) blocks at d found)
