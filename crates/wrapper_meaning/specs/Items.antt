-- When a list is a permutation of another, with the same items, each as often, in any order; and when it has no more than another.
use Rattle.std.specs.Prelude.{◌≡◌, ℕ, ◌+◌, ◌≤◌, List, [], ◌∷◌, Contains}

-- what a list weighs, by what an item weighs
abbrev pub total : {A : Type 0} → (A → ℕ) → List A → ℕ
total weight [] = 0
total weight (x ∷ xs) = weight x + total weight xs

-- a permutation: whatever the items weigh, both lists weigh the same
abbrev pub SameItems : {A : Type 0} → List A → List A → Type 0
SameItems {A} xs ys = (weight : A → ℕ) → total weight xs ≡ total weight ys

-- no item more often than in the other: whatever the items weigh, this list weighs no more
abbrev pub AtMost : {A : Type 0} → List A → List A → Type 0
AtMost {A} xs ys = (weight : A → ℕ) → total weight xs ≤ total weight ys

-- each of these is one of those
abbrev pub AllIn : {A : Type 0} → List A → List A → Type 0
AllIn whole [] = Unit {0}
AllIn whole (x ∷ xs) = Contains whole x × AllIn whole xs
