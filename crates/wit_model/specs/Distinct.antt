-- Whether no text of a list stands in it twice.
use Rattle.std.specs.Prelude.{ℕ, Bool, true, not, ◌&&◌, List, [], ◌∷◌}
use Rattle.std.specs.List.{list_any}
use Rattle.std.specs.Str.{bytes_eq}

abbrev pub is_distinct : List (List ℕ) → Bool
is_distinct [] = true
is_distinct (t ∷ ts) = not (list_any (λ u. bytes_eq u t) ts) && is_distinct ts
