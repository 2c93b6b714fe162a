-- Elements of lists by their places.
use Rattle.std.proofs.Common.{◌≡◌, ℕ, zero, suc, ◌+◌, ◌<◌, ◌⊎◌, inl, inr, List, [], ◌∷◌, ◌++◌, drop, get_or, length, Some, refl, ap, ◌∙◌, arith}
use Rattle.std.proofs.Math.Seq.{drop-cons}
use Rattle.std.proofs.lemmas.Option.{get_or_from_slice_get, slice_get_within}
use Rattle.std.specs.List.{slice_get}

-- an element of a list with one more is one of before, or the last
pub at_end : {A : Type 0} (xs : List A) (x : A) (k : ℕ) (y : A) → slice_get (xs ++ x ∷ []) k ≡ Some y
    → (slice_get xs k ≡ Some y) ⊎ ((k ≡ length xs) × (x ≡ y))
at_end [] x zero y e = inr (refl, cc)
at_end [] x (suc k) y e = cc
at_end (z ∷ xs) x zero y e = inl e
at_end (z ∷ xs) x (suc k) y e =
    elim (at_end xs x k y e) [ inl before ↦ inl before | inr last ↦ inr (ap suc last.0, last.1) ]

-- what is left from a place on is what stands there, and what is left behind it
pub drop_at : {A : Type 0} (xs : List A) (n : ℕ) (x : A) → slice_get xs n ≡ Some x → drop n xs ≡ x ∷ drop (n + 1) xs
drop_at xs n x e =
    let within : n < length xs = slice_get_within xs n x e in
    let at : get_or xs n x ≡ x = get_or_from_slice_get xs n x x e in
    let next : n + 1 ≡ suc n = omega arith in
    rw next (drop-cons xs n x within ∙ ap (λ y. y ∷ drop (suc n) xs) at)
