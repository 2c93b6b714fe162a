-- Whether a name is written as WIT writes it.
use Rattle.std.specs.Prelude.{ℕ, Bool, true, false, ◌&&◌, ◌||◌, ◌==◌, List, [], ◌∷◌}
use Rattle.std.specs.Char.{is_ascii_alphabetic, is_ascii_digit}
use Rattle.std.specs.List.{list_all}

abbrev pub is_nonempty : List ℕ → Bool
is_nonempty [] = false
is_nonempty (_ ∷ _) = true

-- an ASCII letter, a digit or `-`
abbrev pub is_name_char : ℕ → Bool
is_name_char c = is_ascii_alphabetic c || is_ascii_digit c || (c == 45)

abbrev pub is_wit_form : List ℕ → Bool
is_wit_form t = is_nonempty t && list_all is_name_char t
