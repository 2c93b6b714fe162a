-- What holds of all that two lists have, and of all that each of them has.
use Rattle.std.proofs.Common.{List, [], ◌∷◌, ◌++◌}
use Rattle.std.specs.List.{AllByRecursion}
use Rattle.wrapper_meaning.specs.Items.{AllIn}

pub all_both : {A : Type 0} (P : A → Type 0) (xs ys : List A) → AllByRecursion P xs → AllByRecursion P ys → AllByRecursion P (xs ++ ys)
all_both P [] ys h k = k
all_both P (x ∷ xs) ys h k = (h.0, all_both P xs ys h.1 k)

pub all_left : {A : Type 0} (P : A → Type 0) (xs ys : List A) → AllByRecursion P (xs ++ ys) → AllByRecursion P xs
all_left P [] ys h = tt
all_left P (x ∷ xs) ys h = (h.0, all_left P xs ys h.1)

pub all_right : {A : Type 0} (P : A → Type 0) (xs ys : List A) → AllByRecursion P (xs ++ ys) → AllByRecursion P ys
all_right P [] ys h = h
all_right P (x ∷ xs) ys h = all_right P xs ys h.1

pub in_left : {A : Type 0} (whole xs ys : List A) → AllIn whole (xs ++ ys) → AllIn whole xs
in_left whole [] ys h = tt
in_left whole (x ∷ xs) ys h = (h.0, in_left whole xs ys h.1)

pub in_right : {A : Type 0} (whole xs ys : List A) → AllIn whole (xs ++ ys) → AllIn whole ys
in_right whole [] ys h = h
in_right whole (x ∷ xs) ys h = in_right whole xs ys h.1
