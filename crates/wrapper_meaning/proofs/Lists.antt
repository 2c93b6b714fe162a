-- The first element of a list, and those behind it.
use Rattle.std.proofs.Common.{◌≡◌, ◌<◌, ℕ, zero, suc, Bool, false, List, [], ◌∷◌, ◌++◌, Option, Some, None, length, slice_index_or, sym, ap, subst, arith, ◌∙◌, append_assoc}
use Rattle.std.specs.List.{list_any}
use Rattle.std.proofs.lemmas.Bool.{or_parts}

abbrev pub first_or : {A : Type 0} → A → List A → A
first_or d [] = d
first_or d (x ∷ xs) = x

abbrev pub later : {A : Type 0} → List A → List A
later [] = []
later (x ∷ xs) = xs

abbrev pub some_or : {A : Type 0} → A → Option A → A
some_or d None = d
some_or d (Some a) = a

pub some_same : {A : Type 0} (a b : A) → Some a ≡ Some b → a ≡ b
some_same a b e = ap (some_or a) e

-- two splits of one list, by what comes behind them
pub append_both : {A : Type 0} (xs f g r ys f' g' s : List A) → xs ≡ f ++ g → ys ≡ f' ++ g' → xs ++ r ≡ ys ++ s → f ++ (g ++ r) ≡ f' ++ (g' ++ s)
append_both xs f g r ys f' g' s xu yv e = sym (append_assoc f g r) ∙ ap (λ x. x ++ r) (sym xu) ∙ e ∙ ap (λ y. y ++ s) yv ∙ append_assoc f' g' s

-- what no element passes, the element at a place does not pass
pub none_at : {A : Type 0} (p : A → Bool) (xs : List A) (j : ℕ) (c : A) → list_any p xs ≡ false → j < length xs → slice_index_or xs j c ≡ c → p c ≡ false
none_at p [] j c h l e = absurd (omega (l, arith))
none_at p (x ∷ xs) zero c h l e = subst (λ y. p y ≡ false) e (or_parts (p x) (list_any p xs) h).0
none_at p (x ∷ xs) (suc j) c h l e = none_at p xs j c (or_parts (p x) (list_any p xs) h).1 (omega (l, arith)) e
