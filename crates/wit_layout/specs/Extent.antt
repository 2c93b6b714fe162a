-- How many bytes parts take in memory, and where each of them stands: in a record, in a variant, and flags.
use Rattle.std.specs.Prelude.{ℕ, ◌+◌, ◌*◌, ◌/◌, ◌^◌, nat_le, max, if◌then◌else◌, List, [], ◌∷◌}
use Rattle.wit_model.specs.Size.{rounded_up}

-- an alignment, as an exponent of 2, and a number of bytes
pub record Extent : Type 0 where
  pub grain : ℕ
  pub bytes : ℕ

abbrev pub extent : ℕ → ℕ → Extent
extent grain bytes = record { grain = grain; bytes = bytes }

-- where a part stands that comes behind so many bytes
abbrev pub place : Extent → ℕ → ℕ
place part behind = rounded_up (2 ^ part.grain) behind

-- where each of some parts stands, of which the first comes behind so many bytes
abbrev pub places : List Extent → ℕ → List ℕ
places [] behind = []
places (part ∷ parts) behind = place part behind ∷ places parts (place part behind + part.bytes)

-- where the last of them ends
abbrev pub end : List Extent → ℕ → ℕ
end [] behind = behind
end (part ∷ parts) behind = end parts (place part behind + part.bytes)

-- the greater alignment and the greater number of bytes
abbrev pub greater : Extent → Extent → Extent
greater a b = extent (max a.grain b.grain) (max a.bytes b.bytes)

abbrev pub greatest : List Extent → Extent
greatest [] = extent 0 0
greatest (part ∷ parts) = greater part (greatest parts)

-- a record has the greatest alignment of its parts, and ends at a multiple of it
abbrev pub record_of_grain : ℕ → ℕ → Extent
record_of_grain grain last = extent grain (rounded_up (2 ^ grain) last)

abbrev pub record_extent : List Extent → Extent
record_extent parts = record_of_grain (greatest parts).grain (end parts 0)

-- so many elements one after another
abbrev pub fixed_extent : Extent → ℕ → Extent
fixed_extent element n = extent element.grain (n * element.bytes)

-- the discriminant of so many cases has 1 byte, 2 or 4, as the Canonical ABI's `discriminant_type`
abbrev pub discriminant_grain : ℕ → ℕ
discriminant_grain cases = if nat_le cases 256 then 0 else (if nat_le cases 65536 then 1 else 2)

-- the payload of each of so many cases stands behind the discriminant, at the greatest alignment of the payloads
abbrev pub payload_place : ℕ → Extent → ℕ
payload_place cases payload = place payload (2 ^ discriminant_grain cases)

abbrev pub variant_extent : ℕ → Extent → Extent
variant_extent cases payload =
    record_of_grain (max (discriminant_grain cases) payload.grain) (payload_place cases payload + payload.bytes)

-- so many flags have one byte, or two, or a word of four bytes for each 32
abbrev pub flag_words : ℕ → ℕ
flag_words flags = (flags + 31) / 32

abbrev pub flags_extent : ℕ → Extent
flags_extent flags =
    if nat_le flags 8 then extent 0 1 else (if nat_le flags 16 then extent 1 2 else extent 2 (4 * flag_words flags))
