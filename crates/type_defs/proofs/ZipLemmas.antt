-- Two lists that are related place by place, with one more pair behind them.
use Rattle.std.proofs.Common.{ℕ, ◌+◌, ◌<◌, List, [], ◌∷◌, ◌++◌, length, get_or, take, sym, subst}
use Rattle.std.specs.List.{AllZip}
use Rattle.std.proofs.lemmas.List.{take_more}

pub AllZip-more : {A B : Type 0} (R : A → B → Type 0) (xs : List A) (ys : List B) (x : A) (y : B) → AllZip R xs ys → R x y → AllZip R (xs ++ x ∷ []) (ys ++ y ∷ [])
AllZip-more R [] [] x y z r = (r, tt)
AllZip-more R [] (b ∷ ys) x y z r = absurd z
AllZip-more R (a ∷ xs) [] x y z r = absurd z
AllZip-more R (a ∷ xs) (b ∷ ys) x y z r = (z.0, AllZip-more R xs ys x y z.1 r)

pub zip-more : {A B : Type 0} (R : A → B → Type 0) (xs : List A) (i : ℕ) (otherwise : A) (ys : List B) (y : B) → i < length xs → AllZip R (take i xs) ys → R (get_or xs i otherwise) y
    → AllZip R (take (i + 1) xs) (ys ++ y ∷ [])
zip-more R xs i otherwise ys y inside z r =
    subst (λ zs. AllZip R zs (ys ++ y ∷ [])) (sym (take_more xs i otherwise inside)) (AllZip-more R (take i xs) ys (get_or xs i otherwise) y z r)
