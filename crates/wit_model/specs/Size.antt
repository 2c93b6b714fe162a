-- How many bytes a size or an alignment is at a pointer width, and which of two is the greater.
use Rattle.std.specs.Prelude.{ℕ, ◌+◌, ◌-◌, ◌*◌, ◌/◌, Bool, ◌&&◌, nat_le, max, if◌then◌else◌}
use Rattle.wit_model.specs.declared.size.ArchitectureSize.{ArchitectureSize}
use Rattle.wit_model.specs.declared.size.Alignment.{Alignment}
use Rattle.wit_model.specs.declared.size.Alignment.TheVariants.{Pointer, Bytes}

-- the bytes of a size at a pointer width
abbrev pub bytes_at : ArchitectureSize → ℕ → ℕ
bytes_at s width = s.bytes + s.pointers * width

-- the size of these many bytes at width 4 and at width 8
abbrev pub paired : ℕ → ℕ → ArchitectureSize
paired at4 at8 = record { bytes = 2 * at4 - at8; pointers = (at8 - at4) / 4 }

-- n at the next multiple of m
abbrev pub rounded_up : ℕ → ℕ → ℕ
rounded_up m n = (n + (m - 1)) / m * m

-- at both widths at least as many bytes
abbrev pub is_at_least : ArchitectureSize → ArchitectureSize → Bool
is_at_least a b = nat_le (bytes_at b 4) (bytes_at a 4) && nat_le (bytes_at b 8) (bytes_at a 8)

-- one of the two that is at least the other at both widths, or else a size that is at least both
abbrev pub greater_size : ArchitectureSize → ArchitectureSize → ArchitectureSize
greater_size a b =
    if is_at_least a b then a
    else (if is_at_least b a then b
    else paired (rounded_up 4 (max (bytes_at a 4) (bytes_at b 4))) (rounded_up 8 (max (bytes_at a 8) (bytes_at b 8))))

-- an alignment in bytes at a pointer width
abbrev pub alignment_at : Alignment → ℕ → ℕ
alignment_at Pointer width = width
alignment_at (Bytes n) width = n

-- a pointer's alignment is above 4 bytes and below 8
abbrev pub greater_alignment : Alignment → Alignment → Alignment
greater_alignment Pointer Pointer = Pointer
greater_alignment Pointer (Bytes n) = if nat_le n 4 then Pointer else Bytes n
greater_alignment (Bytes n) Pointer = if nat_le n 4 then Pointer else Bytes n
greater_alignment (Bytes m) (Bytes n) = Bytes (max m n)
