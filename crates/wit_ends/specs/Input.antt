-- What do reads take from the bytes that are left, where these are told?
use Rattle.std.specs.Prelude.{◌≡◌, ℕ, ◌≤◌, List, length, ◌++◌, Option}
use Rattle.std.specs.Io.KnownBytes.{prepend_known}

-- so many bytes came off the front
abbrev pub Loses : Option (List ℕ) → Option (List ℕ) → ℕ → Type 0
Loses old new n = (bs : List ℕ) × (length bs ≡ n) × (old ≡ prepend_known bs new)

-- at most so many bytes came off the front
abbrev pub LosesAtMost : Option (List ℕ) → Option (List ℕ) → ℕ → Type 0
LosesAtMost old new n = (bs : List ℕ) × (length bs ≤ n) × (old ≡ prepend_known bs new)

-- the bytes that came off the front were put behind others, and are so many
abbrev pub Moves : Option (List ℕ) → Option (List ℕ) → List ℕ → List ℕ → ℕ → Type 0
Moves old new earlier later n =
    (bs : List ℕ) × (length bs ≡ n) × (old ≡ prepend_known bs new) × (later ≡ earlier ++ bs)
