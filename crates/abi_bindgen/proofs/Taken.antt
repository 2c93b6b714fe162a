-- An address that was taken last is taken.
use Rattle.std.proofs.Common.{◌≡◌, ℕ, Bool, true, false, ◌||◌, nat_eq, List, [], ◌∷◌, ◌++◌, refl, ap}
use Rattle.std.proofs.lemmas.Bool.{eq-eqb}
use Rattle.abi_bindgen.specs.Account.{is_taken}

pub last_taken : (a : ℕ) (taken : List ℕ) → is_taken a (taken ++ a ∷ []) ≡ true
last_taken a [] = ap (λ t. t || false) (eq-eqb a a refl)
last_taken a (t ∷ taken) = by (nat_eq t a) (last_taken a taken)
  where
    by : (c : Bool) → is_taken a (taken ++ a ∷ []) ≡ true → (c || is_taken a (taken ++ a ∷ [])) ≡ true
    by true h = refl
    by false h = h
