-- A list that is cut at one of its elements.
use Rattle.std.proofs.Common.{◌≡◌, ℕ, suc, ◌+◌, ◌<◌, ◌∙◌, Bool, ◌&&◌, List, [], ◌∷◌, ◌++◌, drop, get_or, length, take, Some, sym, ap, arith}
use Rattle.std.specs.List.{list_all, slice_get}
use Rattle.std.proofs.Math.Seq.{take-suc}
use Rattle.std.proofs.lemmas.Option.{slice_get_within, get_or_from_slice_get}
use Rattle.wit_model.proofs.ListLemmas.{drop_at}

pub take_at : {A : Type 0} (xs : List A) (n : ℕ) (x : A) → slice_get xs n ≡ Some x → take (n + 1) xs ≡ take n xs ++ x ∷ []
take_at xs n x e =
    let within : n < length xs = slice_get_within xs n x e in
    let at : get_or xs n x ≡ x = get_or_from_slice_get xs n x x e in
    let next : n + 1 ≡ suc n = omega arith in
    rw next (take-suc xs n x within ∙ ap (λ y. take n xs ++ y ∷ []) at)

-- a test of what is left is one of the next element, and of the rest
pub all_at_cut : {A : Type 0} (test : A → Bool) (xs : List A) (n : ℕ) (x : A) {passed : Bool} → slice_get xs n ≡ Some x → passed ≡ test x
    → list_all test (drop n xs) ≡ (passed && list_all test (drop (n + 1) xs))
all_at_cut test xs n x e p = ap (list_all test) (drop_at xs n x e) ∙ ap (λ b. b && list_all test (drop (n + 1) xs)) (sym p)
