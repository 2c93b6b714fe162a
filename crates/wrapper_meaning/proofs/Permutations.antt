-- Two lists weigh the same, whatever their items weigh, exactly where one is a permutation of the other; and one weighs no more exactly
-- where it is a part of one.
use Rattle.std.proofs.Common.{◌≡◌, ◌⊎◌, ◌<◌, ℕ, Bool, true, false, ◌&&◌, List, [], ◌∷◌, ◌++◌, refl, sym, ap, ap₂, subst, arith, ◌∙◌, if◌then◌else◌}
use Rattle.std.specs.Prelude.{nat_eq}
use Rattle.std.specs.Coded.{Coded}
use Rattle.std.specs.List.{sum_by}
use Rattle.std.specs.List.Sorted.{IsPermutation}
use Rattle.std.proofs.lemmas.Bool.{and_from, and_parts, cases_Bool}
use Rattle.std.proofs.lemmas.Bool.Decides.{nat_tests}
use Rattle.std.proofs.lemmas.List.Sorted.{IsPermutation-refl, IsPermutation-cons, IsPermutation-trans, IsPermutation-sym, IsPermutation-middle, sum_by-IsPermutation}
use Rattle.std.proofs.lemmas.List.Sums.{sum_by-cons}
use base.Stored.{Gv, gnil, gnum, gcons}
use mathlib.Core.Logic.{inl, inr}
use Rattle.wrapper_data.specs.contracts.block.Block as block
use Rattle.wrapper_data.specs.contracts.choice.Request as request
use Rattle.wrapper_meaning.specs.Items.{AtMost, SameItems, total}
use Rattle.wrapper_meaning.specs.Laws.{FewerAreAPart, SameBlocksArePermuted, SameRequestsArePermuted}
use Rattle.wrapper_meaning.proofs.PostReturn.{total-append}

-- a test of codes, by which two items are told apart

same_code : Gv → Gv → Bool
same_code gnil gnil = true
same_code (gnum n) (gnum k) = nat_eq n k
same_code (gcons a b) (gcons c d) = same_code a c && same_code b d
same_code _ _ = false

same_is : (a b : Gv) → same_code a b ≡ true → a ≡ b
unfolding same_code
same_is gnil gnil h = refl
same_is gnil (gnum n) h = absurd cc
same_is gnil (gcons c d) h = absurd cc
same_is (gnum n) gnil h = absurd cc
same_is (gnum n) (gnum k) h = let e : n ≡ k = grind (arith, nat_tests) in ap gnum e
same_is (gnum n) (gcons c d) h = absurd cc
same_is (gcons a b) gnil h = absurd cc
same_is (gcons a b) (gnum n) h = absurd cc
same_is (gcons a b) (gcons c d) h = let both = and_parts (same_code a c) (same_code b d) h in ap₂ gcons (same_is a c both.0) (same_is b d both.1)

itself : (a : Gv) → same_code a a ≡ true
unfolding same_code
itself gnil = refl
itself (gnum n) = grind (arith, nat_tests)
itself (gcons a b) = and_from (same_code a a) (same_code b b) (itself a) (itself b)

module _ {A : Type 0} (c : Coded A) where
  -- an item weighs 1 where it is this one
  weighs : A → A → ℕ
  weighs x y = if same_code (c.code y) (c.code x) then 1 else 0

  abbrev SplitAt : A → List A → Type 0
  SplitAt x ys = (us : List A) × (vs : List A) × (ys ≡ us ++ x ∷ vs)

  split : (x : A) (ys : List A) → 0 < total (weighs x) ys → SplitAt x ys
  unfolding weighs
  split x [] l = absurd (omega (l, arith))
  split x (y ∷ ys) l = by_test (cases_Bool (same_code (c.code y) (c.code x))) (split x ys)
    where
      by_test : (same_code (c.code y) (c.code x) ≡ true) ⊎ (same_code (c.code y) (c.code x) ≡ false) → (0 < total (weighs x) ys → SplitAt x ys) → SplitAt x (y ∷ ys)
      by_test (inl h) next = ([], ys, ap (λ z. z ∷ ys) (c.inj y x (same_is (c.code y) (c.code x) h)))
      by_test (inr h) next =
          let rest = next (omega (l, ap {B = ℕ} (λ t. if t then 1 else 0) h, arith)) in
          (y ∷ rest.0, rest.1, ap (λ zs. y ∷ zs) rest.2)

  weighs_itself : (x : A) → weighs x x ≡ 1
  unfolding weighs
  weighs_itself x = ap {B = ℕ} (λ t. if t then 1 else 0) (itself (c.code x))

  pub to_permutation : (xs ys : List A) → SameItems xs ys → IsPermutation xs ys
  to_permutation [] [] same = IsPermutation-refl []
  to_permutation [] (y ∷ ys) same = absurd (omega (same (λ z. 1), arith))
  to_permutation (x ∷ xs) ys same =
      let r = split x ys (omega (same (weighs x), weighs_itself x, arith)) in
      let us = r.0 in
      let vs = r.1 in
      let rest = to_permutation xs (us ++ vs) (λ f. omega (arith, same f, ap (total f) r.2, total-append f us (x ∷ vs), total-append f us vs)) in
      subst (IsPermutation (x ∷ xs)) (sym r.2)
      (IsPermutation-trans (x ∷ xs) (x ∷ (us ++ vs)) (us ++ x ∷ vs) (IsPermutation-cons x xs (us ++ vs) rest) (IsPermutation-sym (us ++ x ∷ vs) (x ∷ (us ++ vs)) (IsPermutation-middle us x vs)))

  pub to_part : (xs ys : List A) → AtMost xs ys → (rest : List A) × SameItems (xs ++ rest) ys
  to_part [] ys fewer = (ys, λ f. refl)
  to_part (x ∷ xs) ys fewer =
      let r = split x ys (omega (fewer (weighs x), weighs_itself x, arith)) in
      let us = r.0 in
      let vs = r.1 in
      let others = to_part xs (us ++ vs) (λ f. omega (arith, fewer f, ap (total f) r.2, total-append f us (x ∷ vs), total-append f us vs)) in
      (others.0, λ f. omega (arith, others.1 f, ap (total f) r.2, total-append f us (x ∷ vs), total-append f us vs))

from_part : {A : Type 0} (xs ys : List A) → ((rest : List A) × SameItems (xs ++ rest) ys) → AtMost xs ys
from_part xs ys (rest, same) f = omega (same f, total-append f xs rest, arith)

total-sum_by : {A : Type 0} (f : A → ℕ) (xs : List A) → total f xs ≡ sum_by f xs
total-sum_by f [] = refl
total-sum_by f (x ∷ xs) = omega (arith, total-sum_by f xs, sum_by-cons f x xs)

from_permutation : {A : Type 0} (xs ys : List A) → IsPermutation xs ys → SameItems xs ys
from_permutation xs ys h f = total-sum_by f xs ∙ sym (sum_by-IsPermutation f xs ys h) ∙ sym (total-sum_by f ys)

pub same_blocks_are_permuted : SameBlocksArePermuted
same_blocks_are_permuted xs ys = (to_permutation block.the_row.coded xs ys, from_permutation xs ys)

pub same_requests_are_permuted : SameRequestsArePermuted
same_requests_are_permuted xs ys = (to_permutation request.the_row.coded xs ys, from_permutation xs ys)

pub fewer_are_a_part : FewerAreAPart
fewer_are_a_part xs ys = (to_part request.the_row.coded xs ys, from_part xs ys)
