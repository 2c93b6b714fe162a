-- Which numbers of bytes are those of a size that has so many bytes and so many pointers.
use Rattle.std.specs.Prelude.{◌≡◌, ℕ, ◌-◌, ◌*◌, ◌%◌, ◌==◌, ◌≤◌, if◌then◌else◌}
use Rattle.wit_layout.specs.declared.spread.Spread.{Spread}

-- the bytes where a pointer has 2 ^ w, which is 4 or 8
abbrev pub bytes_of : ℕ → Spread → ℕ
bytes_of w s = if w == 2 then s.at4 else s.at8

-- a pointer of 8 bytes makes a size at most twice as great
abbrev pub Grows : Spread → Type 0
Grows s = (s.at4 ≤ s.at8) × (s.at8 ≤ 2 * s.at4)

-- and each pointer adds 4 bytes
abbrev pub IsSize : Spread → Type 0
IsSize s = (s.at4 ≤ s.at8) × (s.at8 ≤ 2 * s.at4) × ((s.at8 - s.at4) % 4 ≡ 0)
