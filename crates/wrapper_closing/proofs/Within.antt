-- When each item of one list is one of another.
use Rattle.std.proofs.Common.{◌≡◌, ℕ, zero, suc, ◌+◌, List, [], ◌∷◌, ◌++◌, ◌⊎◌, inl, inr, refl, sym, subst, arith}
use Rattle.std.specs.Prelude.{drop, take}
use Rattle.std.specs.List.{Contains, flat_map}
use Rattle.std.proofs.lemmas.List.Elements.{Contains-append_cases, Contains-append_left, Contains-append_right}
use Rattle.wrapper_meaning.specs.Items.{AllIn}

pub record Within {A : Type 0} (xs ys : List A) : Type 0 where
  pub each : (x : A) → Contains xs x → Contains ys x

pub within_self : {A : Type 0} (xs : List A) → Within xs xs
within_self xs = record { each = λ x c. c }

pub within_none : {A : Type 0} (ys : List A) → Within [] ys
within_none ys = record { each = λ x c. absurd (none_in x c) }
  where
    none_in : {A : Type 0} (x : A) → Contains [] x → ⊥
    none_in x (k, below, e) = omega arith

pub within_as : {A : Type 0} (xs ys : List A) → xs ≡ ys → Within xs ys
within_as xs ys e = subst (Within xs) e (within_self xs)

pub within_then : {A : Type 0} {xs ys zs : List A} → Within xs ys → Within ys zs → Within xs zs
within_then f g = record { each = λ x c. g.each x (f.each x c) }

pub within_to : {A : Type 0} {xs : List A} (ys zs : List A) → ys ≡ zs → Within xs ys → Within xs zs
within_to {A} {xs} ys zs e f = subst (Within xs) e f

pub within_from : {A : Type 0} {zs : List A} (xs ys : List A) → xs ≡ ys → Within ys zs → Within xs zs
within_from {A} {zs} xs ys e f = subst (λ (us : List A). Within us zs) (sym e) f

pub within_left : {A : Type 0} {xs : List A} (ys zs : List A) → Within xs ys → Within xs (ys ++ zs)
within_left ys zs f = record { each = λ x c. Contains-append_left ys zs x (f.each x c) }

pub within_right : {A : Type 0} {xs : List A} (ys zs : List A) → Within xs zs → Within xs (ys ++ zs)
within_right ys zs f = record { each = λ x c. Contains-append_right ys zs x (f.each x c) }

pub within_both : {A : Type 0} {zs : List A} (xs ys : List A) → Within xs zs → Within ys zs → Within (xs ++ ys) zs
within_both {A} {zs} xs ys f g = record { each = λ x c. by x (Contains-append_cases xs ys x c) }
  where
    by : (x : A) → Contains xs x ⊎ Contains ys x → Contains zs x
    by x (inl c) = f.each x c
    by x (inr c) = g.each x c

-- part by part
pub within_pairs : {A : Type 0} (xs ys us vs : List A) → Within xs us → Within ys vs → Within (xs ++ ys) (us ++ vs)
within_pairs xs ys us vs f g = within_both xs ys (within_left us vs f) (within_right us vs g)

pub in_left : {A : Type 0} (xs ys : List A) → Within xs (xs ++ ys)
in_left xs ys = within_left xs ys (within_self xs)

pub in_right : {A : Type 0} (xs ys : List A) → Within ys (xs ++ ys)
in_right xs ys = within_right xs ys (within_self ys)

-- what some of a list have all of it has
module _ {A B : Type 0} (f : A → List B) where
  pub within_taken : (n : ℕ) (xs : List A) → Within (flat_map f (take n xs)) (flat_map f xs)
  within_taken zero xs = within_none (flat_map f xs)
  within_taken (suc n) [] = within_none []
  within_taken (suc n) (x ∷ xs) = within_pairs (f x) (flat_map f (take n xs)) (f x) (flat_map f xs) (within_self (f x)) (within_taken n xs)

  pub within_behind : (n : ℕ) (xs : List A) → Within (flat_map f (drop n xs)) (flat_map f xs)
  within_behind zero xs = within_self (flat_map f xs)
  within_behind (suc n) [] = within_none []
  within_behind (suc n) (x ∷ xs) = within_right (f x) (flat_map f xs) (within_behind n xs)

pub all_in : {A : Type 0} (xs ys : List A) → Within xs ys → AllIn ys xs
all_in [] ys f = tt
all_in (x ∷ xs) ys f = (f.each x (0, omega arith, refl), all_in xs ys (within_then (in_right (x ∷ []) xs) f))
