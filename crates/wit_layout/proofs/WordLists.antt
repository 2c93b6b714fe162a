-- The first words of lists that stand one after another, and of those that share slots.
use Rattle.std.proofs.Common.{◌≡◌, ℕ, zero, suc, ◌+◌, ◌-◌, ◌≤◌, ◌<◌, min, List, [], ◌∷◌, ◌++◌, length, take, drop, replicate, None, Some, refl, sym, ap, ap₂, ◌∙◌, arith, append_assoc}
use Rattle.std.specs.List.{slice_get}
use Rattle.std.proofs.lemmas.List.{append-nil, drop_more, take_all, take-take, take-append-le, drop_all}
use Rattle.std.proofs.lemmas.Option.{slice_get_within, get_or_from_slice_get}
use Rattle.wit_model.specs.declared.wasm_type.WasmType.{WasmType}
use Rattle.wit_layout.specs.Join.{join}
use Rattle.wit_layout.specs.Flat.{joined}
use Rattle.wit_model.proofs.ListLemmas.{drop_at}

abbrev Words : Type 0
Words = List WasmType

-- the first words of what stands behind words that may be cut
pub take_front : (r m : ℕ) (xs ys : Words) → r ≤ m → take r (take m xs ++ ys) ≡ take r (xs ++ ys)
take_front zero m xs ys le = refl
take_front (suc r) zero xs ys le = absurd (omega arith)
take_front (suc r) (suc m) [] ys le = refl
take_front (suc r) (suc m) (x ∷ xs) ys le = ap (λ zs. x ∷ zs) (take_front r m xs ys (omega arith))

-- what is cut behind words, where they and the cut are long enough
pub take_back : (r m : ℕ) (xs ys : Words) → r ≤ length xs + m → take r (xs ++ take m ys) ≡ take r (xs ++ ys)
take_back r m [] ys le = take-take r m ys (omega arith)
take_back zero m (x ∷ xs) ys le = refl
take_back (suc r) m (x ∷ xs) ys le = ap (λ zs. x ∷ zs) (take_back r m xs ys (omega arith))

-- where there is no room left, what stands behind counts for nothing
pub take_none_left : (r : ℕ) (xs ys : Words) → length xs ≤ r → r - length xs ≡ 0 → xs ≡ take r (xs ++ ys)
take_none_left r xs ys le none =
    let same : r ≡ length xs = omega arith in
    let far : r ≤ length xs = omega arith in
    sym (take-append-le r xs ys far ∙ take_all r xs le)

-- one step: words that were put behind others, and the rest
pub take_then : (r s : ℕ) (before after more rest all : Words) → s ≡ r → after ≡ take s (before ++ more) → take r (before ++ (more ++ rest)) ≡ all → take r (after ++ rest) ≡ all
take_then r s before after more rest all same put h =
    ap (λ ws. take r (ws ++ rest)) (put ∙ ap (λ k. take k (before ++ more)) same) ∙ take_front r r (before ++ more) rest (omega arith) ∙ ap (take r) (append_assoc before more rest) ∙ h

-- the last step, behind which nothing is left
pub take_settled : (r : ℕ) (xs all : Words) → length xs ≤ r → take r (xs ++ []) ≡ all → xs ≡ all
take_settled r xs all le h = sym (ap (take r) (append-nil xs) ∙ take_all r xs le) ∙ h

joined-none : (xs : Words) → joined xs [] ≡ xs
joined-none [] = refl
joined-none (x ∷ xs) = refl

pub take_joined : (r : ℕ) (xs ys : Words) → take r (joined (take r xs) (take r ys)) ≡ take r (joined xs ys)
take_joined zero xs ys = refl
take_joined (suc r) [] ys = take-take (suc r) (suc r) ys (omega arith)
take_joined (suc r) (x ∷ xs) [] = ap (λ zs. x ∷ zs) (take-take r r xs (omega arith))
take_joined (suc r) (x ∷ xs) (y ∷ ys) = ap (λ zs. join x y ∷ zs) (take_joined r xs ys)

past : (xs : Words) (i : ℕ) → slice_get xs i ≡ None → length xs ≤ i
past [] i e = omega arith
past (x ∷ xs) zero e = cc
past (x ∷ xs) (suc i) e = omega (arith, past xs i e)

gone : (xs : Words) (i : ℕ) → slice_get xs i ≡ None → drop i xs ≡ []
gone xs i e = drop_all i xs (past xs i e)

gone_next : (xs : Words) (i : ℕ) → slice_get xs i ≡ None → drop (i + 1) xs ≡ []
gone_next xs i e = drop_all (i + 1) xs (omega (arith, past xs i e))

-- the next slot of two lists of words, in either, both or none of which it is
module _ (xs ys : Words) (i : ℕ) where
  pub both_at : (a b : WasmType) → slice_get xs i ≡ Some a → slice_get ys i ≡ Some b → joined (drop i xs) (drop i ys) ≡ join a b ∷ joined (drop (i + 1) xs) (drop (i + 1) ys)
  both_at a b e f = ap₂ joined (drop_at xs i a e) (drop_at ys i b f)

  pub first_at : (a : WasmType) → slice_get xs i ≡ Some a → slice_get ys i ≡ None → joined (drop i xs) (drop i ys) ≡ a ∷ joined (drop (i + 1) xs) (drop (i + 1) ys)
  first_at a e f =
      ap₂ joined (drop_at xs i a e) (gone ys i f) ∙ sym (ap (λ zs. a ∷ zs) (ap (joined (drop (i + 1) xs)) (gone_next ys i f) ∙ joined-none (drop (i + 1) xs)))

  pub second_at : (b : WasmType) → slice_get xs i ≡ None → slice_get ys i ≡ Some b → joined (drop i xs) (drop i ys) ≡ b ∷ joined (drop (i + 1) xs) (drop (i + 1) ys)
  second_at b e f =
      ap₂ joined (gone xs i e) (drop_at ys i b f) ∙ sym (ap (λ zs. b ∷ joined zs (drop (i + 1) ys)) (gone_next xs i e))

  pub none_at : slice_get xs i ≡ None → slice_get ys i ≡ None → joined (drop i xs) (drop i ys) ≡ joined (drop (i + 1) xs) (drop (i + 1) ys)
  none_at e f = ap₂ joined (gone xs i e) (gone ys i f) ∙ sym (ap₂ joined (gone_next xs i e) (gone_next ys i f))

pub replicate_step : (n i : ℕ) (c : WasmType) → i < n → replicate (n - i) c ≡ c ∷ replicate (n - (i + 1)) c
replicate_step n i c l = let more : n - i ≡ suc (n - (i + 1)) = omega arith in ap (λ k. replicate k c) more

-- the first so many of the first words
pub first_of : (n c : ℕ) (xs : Words) → take n (take c xs) ≡ take (min c n) xs
first_of zero c xs = let none : 0 ≡ min c 0 = omega arith in ap (λ k. take k xs) none
first_of (suc n) zero xs = let none : 0 ≡ min 0 (suc n) = omega arith in ap (λ k. take k xs) none
first_of (suc n) (suc c) [] = sym (take_all (min (suc c) (suc n)) [] (omega arith))
first_of (suc n) (suc c) (x ∷ xs) = let more : suc (min c n) ≡ min (suc c) (suc n) = omega arith in ap (λ zs. x ∷ zs) (first_of n c xs) ∙ ap (λ k. take k (x ∷ xs)) more

-- what stands behind no words
pub from_none : (r s : ℕ) (none after more : Words) → none ≡ [] → s ≡ r → after ≡ take s (none ++ more) → after ≡ take r more
from_none r s none after more is same put = put ∙ ap₂ (λ k ws. take k (ws ++ more)) same is
