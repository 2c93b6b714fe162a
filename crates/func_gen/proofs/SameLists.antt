-- What is known of the parts of lists that are equal.
use Rattle.std.proofs.Common.{◌≡◌, ◌+◌, List, [], ◌∷◌, ◌++◌, length, map, reverse, refl, sym, ap, ap₂, ◌∙◌, arith}
use Rattle.std.proofs.lemmas.List.{length-append, map-append, reverse-append}

module _ {A : Type 0} where
  abbrev first_or : A → List A → A
  first_or d [] = d
  first_or d (x ∷ xs) = x

  abbrev behind_first : List A → List A
  behind_first [] = []
  behind_first (x ∷ xs) = xs

  pub first_same : (x y : A) (xs ys : List A) → x ∷ xs ≡ y ∷ ys → x ≡ y
  first_same x y xs ys e = ap (first_or x) e

  pub others_same : (x y : A) (xs ys : List A) → x ∷ xs ≡ y ∷ ys → xs ≡ ys
  others_same x y xs ys e = ap behind_first e

  -- of as many
  pub parts_same : (xs ys later more : List A) → length xs ≡ length ys → xs ++ later ≡ ys ++ more → (xs ≡ ys) × (later ≡ more)
  parts_same [] [] later more many e = (refl, e)
  parts_same [] (y ∷ ys) later more many e = absurd (omega (arith, many))
  parts_same (x ∷ xs) [] later more many e = absurd (omega (arith, many))
  parts_same (x ∷ xs) (y ∷ ys) later more many e =
      let rest = parts_same xs ys later more (omega (arith, many)) (others_same x y (xs ++ later) (ys ++ more) e) in
      (ap₂ (λ z zs. z ∷ zs) (first_same x y (xs ++ later) (ys ++ more) e) rest.0, rest.1)

  -- and the last one
  pub last_same : (xs ys : List A) (x y : A) → xs ++ x ∷ [] ≡ ys ++ y ∷ [] → (xs ≡ ys) × (x ≡ y)
  last_same xs ys x y e =
      let many = ap length e in
      let left = length-append xs (x ∷ []) in
      let right = length-append ys (y ∷ []) in
      let parts = parts_same xs ys (x ∷ []) (y ∷ []) (omega (arith, many, left, right)) e in
      (parts.0, first_same x y [] [] parts.1)

-- what is done to each is done to each of those the other way round
pub map_reversed : {A B : Type 0} (f : A → B) (xs : List A) → map f (reverse xs) ≡ reverse (map f xs)
map_reversed f [] = refl
map_reversed f (x ∷ xs) =
    ap (map f) (reverse-append (x ∷ []) xs) ∙ map-append f (reverse xs) (x ∷ []) ∙ ap (λ zs. zs ++ f x ∷ []) (map_reversed f xs) ∙ sym (reverse-append (f x ∷ []) (map f xs))
