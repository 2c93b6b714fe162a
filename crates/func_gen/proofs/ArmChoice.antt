-- Which arm of a match a value takes: the arms before it do not take the value.
use Rattle.std.proofs.Common.{◌≡◌, ℕ, zero, suc, ◌+◌, Bool, true, false, List, [], ◌∷◌, ◌++◌, Some, refl, ap, ◌∙◌, subst, arith}
use Rattle.std.specs.Prelude.{nat_eq, slice_get}
use Rattle.std.proofs.lemmas.Bool.{eq-eqb, eqb-true}
use Rattle.wrapper_values.specs.declared.state.Val.{Val}
use Rattle.wrapper_values.specs.Matches.{takes}
use Rattle.wrapper_values.specs.Setting.{Setting}
use Rattle.wrapper_run.specs.Arms.{ArmAct, run_arm, run_arms}
use Rattle.wrapper_run.proofs.VariantSteps.{arm_passed, arm_taken}

-- 1. None of some arms takes a value

abbrev pub Leave : Setting → Val → List ArmAct → Type 0
Leave w v [] = Unit {0}
Leave w v (a ∷ arms) = (takes w.items a.0 v ≡ Some false) × Leave w v arms

pub left_to : (w : Setting) (v : Val) (arms more : List ArmAct) → Leave w v arms → run_arms w v (arms ++ more) ≡ run_arms w v more
left_to w v [] more h = refl
left_to w v (a ∷ arms) more h = arm_passed w v a (arms ++ more) h.0 ∙ left_to w v arms more h.1

-- 2. Arms by the numbers of values

-- an arm takes the value of one number, and of no other
abbrev pub TakesNumber : Setting → (ℕ → Val) → ℕ → ArmAct → Type 0
TakesNumber w value n a = (m : ℕ) → takes w.items a.0 (value m) ≡ Some (nat_eq n m)

-- of the numbers from one on
abbrev pub TakeNumbers : Setting → (ℕ → Val) → ℕ → List ArmAct → Type 0
TakeNumbers w value n [] = Unit {0}
TakeNumbers w value n (a ∷ arms) = TakesNumber w value n a × TakeNumbers w value (suc n) arms

same_number : (n : ℕ) → nat_eq n n ≡ true
same_number n = eq-eqb n n refl

less_number : (n i : ℕ) → nat_eq n (n + suc i) ≡ false
less_number n i = go (nat_eq n (n + suc i)) refl
  where
    go : (b : Bool) → nat_eq n (n + suc i) ≡ b → b ≡ false
    go false e = refl
    go true e = absurd (omega (arith, eqb-true n (n + suc i) e))

-- the value of an arm's number takes it
pub chosen : (w : Setting) (value : ℕ → Val) (n i : ℕ) (arms more : List ArmAct) (a : ArmAct) → TakeNumbers w value n arms → slice_get arms i ≡ Some a → run_arms w (value (n + i)) (arms ++ more) ≡ run_arm w (value (n + i)) a
chosen w value n i [] more a h e = absurd cc
chosen w value n zero (b ∷ arms) more a h e =
    let is : b ≡ a = cc in
    let here : n + zero ≡ n = omega (arith) in
    arm_taken w (value (n + zero)) b (arms ++ more) (h.0 (n + zero) ∙ ap (λ m. Some (nat_eq n m)) here ∙ ap (λ b. Some b) (same_number n)) ∙ ap (run_arm w (value (n + zero))) is
chosen w value n (suc i) (b ∷ arms) more a h e =
    let on : suc n + i ≡ n + suc i = omega (arith) in
    arm_passed w (value (n + suc i)) b (arms ++ more) (h.0 (n + suc i) ∙ ap (λ b. Some b) (less_number n i))
    ∙ subst (λ m. run_arms w (value m) (arms ++ more) ≡ run_arm w (value m) a) on (chosen w value (suc n) i arms more a h.1 e)
