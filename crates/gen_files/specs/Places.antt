-- Where an entry with a name stands, or would stand, and what more bytes at a place make of the entries.
use Rattle.std.specs.Prelude.{ℕ, zero, suc, Bool, false, List, [], ◌∷◌, ◌++◌, slice_get}
use Rattle.std.specs.Option.{option_map_or}
use Rattle.std.specs.List.{prefix_len}
use Rattle.std.specs.Ordering.{nat_cmp, is_lt}
use Rattle.std.specs.Cmp.Lexicographic.{slice_cmp}
use Rattle.std.specs.Str.{bytes_eq}
use Rattle.wit_model.specs.Bytes.{Bytes}
use Rattle.gen_files.specs.Entries.{Entry}

-- an entry comes before a name
abbrev pub is_before : Bytes → Entry → Bool
is_before name entry = is_lt (slice_cmp nat_cmp entry.0 name)

-- how many entries come before a name
unfoldable pub place_of : List Entry → Bytes → ℕ
place_of entries name = prefix_len (is_before name) entries

-- the entry at a place has a name
unfoldable pub has_name_at : List Entry → ℕ → Bytes → Bool
has_name_at entries at name = option_map_or (λ entry. bytes_eq entry.0 name) (slice_get entries at) false

-- the entries with more bytes behind those at a place
unfoldable pub with_bytes_at : List Entry → ℕ → Bytes → List Entry
with_bytes_at [] at bytes = []
with_bytes_at (entry ∷ entries) zero bytes = (entry.0, entry.1 ++ bytes) ∷ entries
with_bytes_at (entry ∷ entries) (suc at) bytes = entry ∷ with_bytes_at entries at bytes
