-- Which arm of a match by numbers serves a word.
use Rattle.std.proofs.Common.{◌≡◌, ◌+◌, ◌<◌, ◌≤◌, ℕ, zero, suc, ℤ, pos, negsuc, Bool, true, false, nat_eq, List, [], ◌∷◌, length, Some, refl, ap, ◌∙◌, subst, arith}
use Rattle.std.specs.Prelude.{slice_get}
use Rattle.std.proofs.lemmas.Bool.Decides.{nat_tests}
use Rattle.rust_tree.specs.declared.pattern.ArmPattern.TheVariants as arm
use Rattle.wrapper_data.specs.declared.word.Word.TheVariants as core
use Rattle.wrapper_values.specs.declared.state.Val.{Val}
use Rattle.wrapper_values.specs.declared.state.Val.TheVariants as val
use Rattle.wrapper_values.specs.Act.{Act}
use Rattle.wrapper_values.specs.Matches.{is_number, takes}
use Rattle.wrapper_values.specs.Setting.{Setting}
use Rattle.wrapper_run.specs.Arms.{ArmAct, run_arm, run_arms}
use Rattle.wrapper_run.specs.Blocks.{in_scope}
use Rattle.wrapper_run.proofs.VariantSteps.{arm_passed, arm_taken}

-- arms of these acts by their numbers, from one on, and another arm behind them
abbrev pub numbered : ℕ → List (Act (List Val)) → ArmAct → List ArmAct
numbered k [] other = other ∷ []
numbered k (act ∷ acts) other = (arm.Number k, act) ∷ numbered (suc k) acts other

-- a number is none of so many from one on
abbrev pub IsNoNumber : (k n : ℕ) → ℤ → Type 0
IsNoNumber k n z = (i : ℕ) → i < n → is_number (k + i) z ≡ false

module _ (w : Setting) where
  abbrev pub number_val : ℤ → Val
  number_val z = val.Word (core.I32 z)

  takes_number : (k : ℕ) (z : ℤ) (b : Bool) → is_number k z ≡ b → takes w.items (arm.Number k) (number_val z) ≡ Some b
  unfolding takes
  takes_number k z b e = ap (λ x. Some x) e

  same_number : (k : ℕ) → is_number k (pos k) ≡ true
  same_number k = grind (arith, nat_tests)

  later_number : (k j : ℕ) → is_number k (pos (suc k + j)) ≡ false
  later_number k j = grind (arith, nat_tests)

  -- the arm of a number serves it
  pub serves_number : (k i n : ℕ) (acts : List (Act (List Val))) (other : ArmAct) (act : Act (List Val)) → n ≡ k + i → slice_get acts i ≡ Some act → run_arms w (number_val (pos n)) (numbered k acts other) ≡ in_scope w act
  serves_number k i n [] other act is at = absurd cc
  serves_number k zero n (a ∷ acts) other act is at =
      let here : n ≡ k = omega (arith, is) in
      let same : a ≡ act = cc in
      arm_taken w (number_val (pos n)) (arm.Number k, a) (numbered (suc k) acts other) (takes_number k (pos n) true (ap (λ m. is_number k (pos m)) here ∙ same_number k)) ∙ ap (in_scope w) same
  serves_number k (suc j) n (a ∷ acts) other act is at =
      let there : n ≡ suc k + j = omega (arith, is) in
      arm_passed w (number_val (pos n)) (arm.Number k, a) (numbered (suc k) acts other) (takes_number k (pos n) false (ap (λ m. is_number k (pos m)) there ∙ later_number k j)) ∙ serves_number (suc k) j n acts other act there at

  -- and the arm behind them serves every other number
  pub serves_other : (k : ℕ) (z : ℤ) (acts : List (Act (List Val))) (other : ArmAct) → IsNoNumber k (length acts) z → takes w.items other.0 (number_val z) ≡ Some true → run_arms w (number_val z) (numbered k acts other) ≡ run_arm w (number_val z) other
  serves_other k z [] other none taken = arm_taken w (number_val z) other [] taken
  serves_other k z (a ∷ acts) other none taken =
      let here : is_number k z ≡ false = subst (λ m. is_number m z ≡ false) (let e : k + 0 ≡ k = omega arith in e) (none 0 (omega arith)) in
      let later : IsNoNumber (suc k) (length acts) z = λ i l. subst (λ m. is_number m z ≡ false) (let e : k + suc i ≡ suc k + i = omega arith in e) (none (suc i) (omega (arith, l))) in
      arm_passed w (number_val z) (arm.Number k, a) (numbered (suc k) acts other) (takes_number k z false here) ∙ serves_other (suc k) z acts other later taken

-- a number behind them is none of them, and no negative one is
pub none_behind : (n i : ℕ) → n ≤ i → IsNoNumber 0 n (pos i)
none_behind n i behind j l = go j (omega (arith, l, behind))
  where
    go : (j : ℕ) → j < i → nat_eq i (0 + j) ≡ false
    go j l = grind (arith, nat_tests)

pub none_negative : (n m : ℕ) → IsNoNumber 0 n (negsuc m)
none_negative n m j l = refl
