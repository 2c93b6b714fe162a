-- What a set of named files holds under each name, and what it holds after more bytes come under a name.
use Rattle.std.specs.Prelude.{List, [], ◌∷◌, ◌++◌, Option, map, find}
use Rattle.std.specs.Option.{option_map}
use Rattle.std.specs.Ordering.{nat_cmp, match_ordering}
use Rattle.std.specs.Cmp.Lexicographic.{slice_cmp}
use Rattle.std.specs.Str.{bytes_eq}
use Rattle.std.specs.List.Sorted.{IsStrictlySortedBy}
use Rattle.wit_model.specs.Bytes.{Bytes}

-- a name, and the bytes under it
abbrev pub Entry : Type 0
Entry = Bytes × Bytes

-- each name comes before the later ones in byte order, so that no name stands twice
abbrev pub IsAscending : List Entry → Type 0
IsAscending entries = IsStrictlySortedBy (slice_cmp nat_cmp) (map (λ entry. entry.0) entries)

-- the bytes under a name, if there are any
abbrev pub entry_of : List Entry → Bytes → Option Bytes
entry_of entries name = option_map (λ entry. entry.1) (find (λ entry. bytes_eq entry.0 name) entries)

-- the entries with more bytes under a name: behind those that it has, or in an entry of its own in its place
unfoldable pub with_pushed : List Entry → Bytes → Bytes → List Entry
with_pushed [] name bytes = (name, bytes) ∷ []
with_pushed (entry ∷ entries) name bytes =
    match_ordering (slice_cmp nat_cmp entry.0 name) (entry ∷ with_pushed entries name bytes) ((entry.0, entry.1 ++ bytes) ∷ entries) ((name, bytes) ∷ entry ∷ entries)
