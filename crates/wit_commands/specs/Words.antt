-- Which words are a command.
use Rattle.std.specs.Prelude.{ℕ, Bool, false, List, [], ◌∷◌, codes}
use Rattle.std.specs.Str.{bytes_eq}

-- the one command: the word `generate` alone
unfoldable pub is_generate : List (List ℕ) → Bool
is_generate [] = false
is_generate (word ∷ []) = bytes_eq word (codes "generate")
is_generate (_ ∷ _ ∷ _) = false
