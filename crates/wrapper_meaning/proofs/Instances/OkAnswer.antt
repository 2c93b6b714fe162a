-- The answer `ok` of an honest peer, by an area at 4096: the bytes that it writes there, and the block that it brings.
use Rattle.std.proofs.Common.{◌≤◌, ◌+◌, ℕ, true, List, [], ◌∷◌, length, codes, refl, arith}
use Rattle.std.specs.List.{enumerate_from}
use Rattle.wrapper_data.specs.declared.block.Block.{Block}
use Rattle.wrapper_meaning.specs.Buffer.{IsBuffer}
use Rattle.wrapper_meaning.specs.Direction.{take}
use Rattle.wrapper_meaning.specs.Honest.{WritesIn}
use Rattle.wrapper_meaning.specs.InMemory.{TextHolds, text_extent}
use Rattle.wrapper_meaning.specs.Represents.{Begins}
use Rattle.wrapper_meaning.specs.Shape.Shape.{text}
use Rattle.wrapper_meaning.proofs.Instances.Forms.{block_at, pair, text_taken}

abbrev pub ok : Block
ok = block_at 8192 (codes "ok")

pub ok_taken : IsBuffer take true 8192 2 text_extent (TextHolds (codes "ok")) (ok ∷ [])
ok_taken = text_taken ok 111 (107 ∷ []) refl (omega (arith)) refl

-- the address and the length of `ok`
abbrev pub names_ok : List ℕ
names_ok = pair 8192 2

-- an area of this size, in which these bytes are written
abbrev pub area_of : ℕ → List ℕ → Block
area_of size bytes = record { address = 4096; size = size; cells = enumerate_from 0 bytes }

abbrev pub written : List ℕ → List (ℕ × ℕ)
written bytes = enumerate_from 4096 bytes

-- they are written in a record that has as many bytes
pub lies_inside : (size : ℕ) (bytes : List ℕ) → length bytes ≤ size → WritesIn 4096 size (written bytes)
lies_inside size bytes room = from_place 4096 bytes (omega (arith)) (omega (room, arith))
  where
    from_place : (place : ℕ) (bytes : List ℕ) → 4096 ≤ place → place + length bytes ≤ 4096 + size → WritesIn 4096 size (enumerate_from place bytes)
    from_place place [] low high = tt
    from_place place (b ∷ bytes) low high = ((low, omega (high, arith)), from_place (place + 1) bytes (omega (low, arith)) (omega (high, arith)))

pub ok_begins : (size : ℕ) → 8 ≤ size → Begins 2 take text (codes "ok") (area_of size names_ok) (ok ∷ [])
ok_begins size room = record { aligned = refl; room = omega (room, arith); holds = record { address = 8192; pointer = (omega (arith), refl); counted = (omega (arith), refl); buffer = ok_taken } }
