-- A test of all elements of a list, by their places.
use Rattle.std.proofs.Common.{◌≡◌, ℕ, ◌+◌, ◌∙◌, Bool, true, false, List, take, get_or, Some, ap, subst}
use Rattle.std.specs.List.{list_all, slice_get}
use Rattle.std.proofs.lemmas.Bool.{and_from}
use Rattle.std.proofs.lemmas.List.Folds.{list_all_more, list_all_at}
use Rattle.std.proofs.lemmas.List.Sums.{AllPass-from_list_all}
use Rattle.std.proofs.lemmas.Option.{slice_get_within, get_or_from_slice_get}

-- what holds of all holds of the one at a place
pub all_at : {A : Type 0} (p : A → Bool) (xs : List A) (k : ℕ) (x : A) → list_all p xs ≡ true → slice_get xs k ≡ Some x → p x ≡ true
all_at p xs k x h e =
    subst (λ y. p y ≡ true) (get_or_from_slice_get xs k x x e) (AllPass-from_list_all p xs h k x (slice_get_within xs k x e))

-- with the next element that passes, the front of a list still passes
pub all_more : {A : Type 0} (p : A → Bool) (xs : List A) (i : ℕ) (x : A) → slice_get xs i ≡ Some x → list_all p (take i xs) ≡ true → p x ≡ true
    → list_all p (take (i + 1) xs) ≡ true
all_more p xs i x e front passes =
    list_all_more p xs i x (slice_get_within xs i x e)
    ∙ and_from (list_all p (take i xs)) (p (get_or xs i x)) front (ap p (get_or_from_slice_get xs i x x e) ∙ passes)

-- a list does not pass where one of its elements does not
pub all_but : {A : Type 0} (p : A → Bool) (xs : List A) (i : ℕ) (x : A) → slice_get xs i ≡ Some x → p x ≡ false → list_all p xs ≡ false
all_but p xs i x e fails = list_all_at p xs i x (slice_get_within xs i x e) (ap p (get_or_from_slice_get xs i x x e) ∙ fails)
