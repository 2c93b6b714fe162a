-- Finished blocks that are there: so many, and with so many results each. Those that are used up are the first of them.
use Rattle.std.proofs.Common.{◌≡◌, ℕ, zero, suc, ◌≤◌, ◌++◌, ◌&&◌, Bool, true, List, [], ◌∷◌, length, replicate, reverse, take, Option, None, Some, refl, sym, ap, ap₂, ◌∙◌, subst, arith}
use Rattle.std.specs.Prelude.{option_to_list}
use Rattle.std.specs.List.{AllByRecursion, list_all}
use Rattle.std.proofs.lemmas.Bool.{and_parts}
use Rattle.std.proofs.lemmas.List.{length-map, length-reverse, reverse-append}
use Rattle.std.proofs.lemmas.List.Folds.{list_all-append}
use Rattle.std.proofs.Math.Seq.{take-append_seam}
use Rattle.wit_model.specs.declared.types.WitType.{WitType}
use Rattle.abi_bindgen.specs.Blocks.{AreFinished}
use Rattle.abi_bindgen.specs.Cases.{payload_counts, result_counts}
use Rattle.abi_bindgen.specs.Instructions.{HasBlocks}
use Rattle.func_gen.specs.declared.function_bindgen.FinishedBlock.{FinishedBlock}
use Rattle.func_gen.specs.declared.function_bindgen.FunctionBindgen.{FunctionBindgen}
use Rattle.func_gen.specs.declared.operand.ExprOperand.{ExprOperand}
use Rattle.func_gen.specs.LiftedCases.{are_few, is_liftable}
use Rattle.func_gen.specs.Meaning.{func_meaning}
use Rattle.func_gen.specs.Uses.{Uses}

-- 1. Lists backwards

module _ {A : Type 0} (P : A → Type 0) where
  all_both : (xs ys : List A) → AllByRecursion P xs → AllByRecursion P ys → AllByRecursion P (xs ++ ys)
  all_both [] ys p q = q
  all_both (x ∷ xs) ys p q = (p.0, all_both xs ys p.1 q)

  pub all_back : (xs : List A) → AllByRecursion P xs → AllByRecursion P (reverse xs)
  all_back [] p = tt
  all_back (x ∷ xs) p = subst (AllByRecursion P) (sym (reverse-append (x ∷ []) xs)) (all_both (reverse xs) (x ∷ []) (all_back xs p.1) (p.0, tt))

pub list_all_back : {A : Type 0} (p : A → Bool) (xs : List A) → list_all p xs ≡ true → list_all p (reverse xs) ≡ true
list_all_back p [] h = refl
list_all_back p (x ∷ xs) h =
    let two = and_parts (p x) (list_all p xs) h in
    ap (list_all p) (reverse-append (x ∷ []) xs) ∙ list_all-append p (reverse xs) (x ∷ []) ∙ ap₂ (λ b c. b && (c && true)) (list_all_back p xs two.1) two.0

-- of blocks that can be lifted the first one can, and the others
pub split_few : (block : FinishedBlock) (others : List FinishedBlock) → list_all is_liftable (reverse (block ∷ others)) ≡ true → (is_liftable block ≡ true) × (list_all is_liftable (reverse others) ≡ true)
split_few block others h =
    let two = and_parts (list_all is_liftable (reverse others)) (is_liftable block && true) (sym (ap (list_all is_liftable) (reverse-append (block ∷ []) others) ∙ list_all-append is_liftable (reverse others) (block ∷ [])) ∙ h) in
    ((and_parts (is_liftable block) true two.1).0, two.0)

-- 2. Blocks that are there

module _ (b : FunctionBindgen) where
  are_there : (ks : List ℕ) (blocks : List FinishedBlock) → AreFinished func_meaning b ks blocks → length ks ≤ length blocks
  are_there [] blocks h = omega arith
  are_there (k ∷ ks) [] h = absurd h
  are_there (k ∷ ks) (x ∷ blocks) h = let more = are_there ks blocks h.2 in omega (arith, more)

  pub blocks_there : (ks : List ℕ) → HasBlocks func_meaning ks b → length ks ≤ length b.finished
  blocks_there ks h = let many = are_there ks (reverse b.finished) h in omega (arith, many, length-reverse b.finished)

  have_many : (n k : ℕ) (blocks : List FinishedBlock) → AreFinished func_meaning b (replicate n k) blocks → AllByRecursion (λ (x : FinishedBlock). length x.results ≡ k) (take n blocks)
  have_many zero k blocks h = tt
  have_many (suc n) k [] h = absurd h
  have_many (suc n) k (x ∷ blocks) h = (h.0, have_many n k blocks h.2)

  few_are : (os : List ExprOperand) (k : ℕ) → length os ≡ k → k ≤ 1 → are_few os ≡ true
  few_are [] k e few = refl
  few_are (o ∷ []) k e few = refl
  few_are (o ∷ p ∷ os) k e few = absurd (omega (arith, e, few))

  have_few : (ks : List ℕ) (blocks : List FinishedBlock) → AllByRecursion (λ k. k ≤ 1) ks → AreFinished func_meaning b ks blocks → list_all is_liftable (take (length ks) blocks) ≡ true
  have_few [] blocks few h = refl
  have_few (k ∷ ks) [] few h = absurd h
  have_few (k ∷ ks) (x ∷ blocks) few h = ap₂ (λ b c. b && c) (few_are x.results k h.0 few.0) (have_few ks blocks few.1 h.2)

few_counts : (payloads : List (Option WitType)) → AllByRecursion (λ k. k ≤ 1) (result_counts payloads)
few_counts [] = tt
few_counts (None ∷ payloads) = (omega arith, few_counts payloads)
few_counts (Some ty ∷ payloads) = (omega arith, few_counts payloads)

pub counts_many : (payloads : List (Option WitType)) → length (payload_counts payloads) ≡ length payloads
counts_many payloads = length-reverse (result_counts payloads) ∙ length-map payloads (λ ty. length (option_to_list ty))

-- blocks for the cases of these payloads
module _ (b : FunctionBindgen) (payloads : List (Option WitType)) (n : ℕ) (many : length payloads ≡ n) (has : HasBlocks func_meaning (payload_counts payloads) b) where
  pub cases_there : n ≤ length b.finished
  cases_there = let there = blocks_there b (payload_counts payloads) has in omega (arith, there, counts_many payloads, many)

  pub cases_few : list_all is_liftable (take n (reverse b.finished)) ≡ true
  cases_few = subst (λ k. list_all is_liftable (take k (reverse b.finished)) ≡ true) (counts_many payloads ∙ many) (have_few b (payload_counts payloads) (reverse b.finished) (all_back (λ k. k ≤ 1) (result_counts payloads) (few_counts payloads)) has)

-- 3. Those that are used up

module _ (used : List FinishedBlock) (n : ℕ) (old mid : FunctionBindgen) (u : Uses used n old mid) where
  first_used : take n (reverse old.finished) ≡ used
  first_used = ap (λ k. take k (reverse old.finished)) (sym u.many) ∙ ap (take (length used)) u.taken ∙ take-append_seam used (reverse mid.finished)

  pub used_few : list_all is_liftable (take n (reverse old.finished)) ≡ true → list_all is_liftable (reverse used) ≡ true
  used_few h = list_all_back is_liftable used (ap (list_all is_liftable) (sym first_used) ∙ h)

  pub used_many : (k : ℕ) → HasBlocks func_meaning (replicate n k) old → AllByRecursion (λ (x : FinishedBlock). length x.results ≡ k) used
  used_many k has = subst (AllByRecursion (λ (x : FinishedBlock). length x.results ≡ k)) first_used (have_many old n k (reverse old.finished) has)

  -- they give nothing
  pub none_used : HasBlocks func_meaning (replicate n 0) old → AllByRecursion (λ (x : FinishedBlock). x.results ≡ []) used
  none_used has = have_none used (used_many 0 has)
    where
      no_results : (os : List ExprOperand) → length os ≡ 0 → os ≡ []
      no_results [] e = refl
      no_results (o ∷ os) e = absurd (omega (arith, e))

      have_none : (xs : List FinishedBlock) → AllByRecursion (λ (x : FinishedBlock). length x.results ≡ 0) xs → AllByRecursion (λ (x : FinishedBlock). x.results ≡ []) xs
      have_none [] h = tt
      have_none (x ∷ xs) h = (no_results x.results h.0, have_none xs h.1)
