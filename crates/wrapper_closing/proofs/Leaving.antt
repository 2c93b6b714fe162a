-- The end of a scope in which no local owns a block, or one does.
use Rattle.std.proofs.Common.{◌≡◌, ℕ, Bool, true, false, cond, nat_eq, List, [], ◌∷◌, ◌++◌, Some, refl, ap, ◌∙◌, arith}
use Rattle.std.specs.List.{flat_map}
use Rattle.std.proofs.lemmas.Bool.Decides.{nat_tests}
use Rattle.wrapper_data.specs.declared.block.Block.{Block}
use Rattle.wrapper_meaning.specs.Items.{SameItems}
use Rattle.wrapper_values.specs.declared.state.Local.{Local}
use Rattle.wrapper_values.specs.declared.state.State.{State}
use Rattle.wrapper_values.specs.Act.{Done, Outcome, Stopped, and_then, pure}
use Rattle.wrapper_values.specs.Owning.{owned_in}
use Rattle.wrapper_values.specs.Setting.{Setting}
use Rattle.wrapper_run.specs.Blocks.{drop_local, drop_locals, free, free_all, keep_locals, leave_to, owned_block, without_block}
use Rattle.wrapper_run.proofs.TakeLemmas.{frees_one}
use Rattle.wrapper_faithful.proofs.NoHandles.{apart}

abbrev owns_in : List Local → List ℕ
owns_in locals = flat_map (λ (l : Local). owned_in l.value) locals

-- 1. Short lists

pub no_items : {A : Type 0} (xs : List A) → SameItems xs [] → xs ≡ []
no_items [] h = refl
no_items (x ∷ xs) h = absurd (omega (arith, h (λ y. 1)))

is_other : ℕ → ℕ → ℕ
is_other a x = cond (nat_eq x a) 0 1

other_none : (a x : ℕ) → is_other a x ≡ 0 → x ≡ a
unfolding is_other
other_none a x h = go (nat_eq x a) refl h
  where
    go : (c : Bool) → nat_eq x a ≡ c → cond {A = ℕ} c 0 1 ≡ 0 → x ≡ a
    go true e k = grind (arith, nat_tests)
    go false e k = absurd (omega (arith, k))

same_is_no_other : (a : ℕ) → is_other a a ≡ 0
unfolding is_other
same_is_no_other a = go (nat_eq a a) refl
  where
    go : (c : Bool) → nat_eq a a ≡ c → cond {A = ℕ} c 0 1 ≡ 0
    go true e = refl
    go false e = absurd (grind (arith, nat_tests))

-- 2. Drops

drops_nothing : (w : Setting) (locals : List Local) (s : State) → owns_in locals ≡ [] → drop_locals w locals s ≡ Done tt s
drops_nothing w [] s h = refl
drops_nothing w (l ∷ locals) s h =
    let both = apart (owned_in l.value) (owns_in locals) h in
    ap (λ o. and_then o (λ u. drop_local w l.value)) (drops_nothing w locals s both.1) ∙ ap (λ xs. free_all w xs s) both.0

-- of two lists that are one item together, one has it
one_of_two : (xs ys : List ℕ) (a : ℕ) (P : Type 0) → xs ++ ys ≡ a ∷ [] → (xs ≡ [] → ys ≡ a ∷ [] → P) → (xs ≡ a ∷ [] → ys ≡ [] → P) → P
one_of_two [] ys a P h none one = none refl h
one_of_two (x ∷ xs) ys a P h none one =
    let first : x ≡ a = cc in
    let rest : xs ++ ys ≡ [] = cc in
    let both = apart xs ys rest in
    one (ap (λ z. z ∷ xs) first ∙ ap (λ zs. a ∷ zs) both.0) both.1

freed : (w : Setting) (a : ℕ) (s : State) → free_all w (a ∷ []) s ≡ free w a s
freed w a s = go (free w a s)
  where
    go : (o : Outcome (Unit {0})) → and_then o (λ u. pure tt) ≡ o
    go (Done u t) = refl
    go (Stopped e t) = refl

after_all : (w : Setting) (o : Outcome (Unit {0})) → and_then o (λ u. free_all w []) ≡ o
after_all w (Done u t) = refl
after_all w (Stopped e t) = refl

drops_only : (w : Setting) (locals : List Local) (a : ℕ) (s : State) → owns_in locals ≡ a ∷ [] → drop_locals w locals s ≡ free w a s
drops_only w [] a s h = absurd cc
drops_only w (l ∷ locals) a s h =
    one_of_two (owned_in l.value) (owns_in locals) a (drop_locals w (l ∷ locals) s ≡ free w a s) h
    (λ none later.
    ap (λ o. and_then o (λ u. drop_local w l.value)) (drops_only w locals a s later) ∙ ap (λ xs. and_then (free w a s) (λ u. free_all w xs)) none ∙ after_all w (free w a s))
    (λ one none. ap (λ o. and_then o (λ u. drop_local w l.value)) (drops_nothing w locals s none) ∙ ap (λ xs. free_all w xs s) one ∙ freed w a s)

-- 3. The end of all locals

pub leaves_nothing : (w : Setting) (s : State) → owns_in s.locals ≡ [] → leave_to w 0 s ≡ Done tt (record s { locals = [] })
unfolding leave_to
leaves_nothing w s h = ap (λ o. and_then o (λ u. keep_locals [])) (drops_nothing w s.locals (record s { locals = [] }) h)

pub leaves_block : (w : Setting) (s : State) (a : ℕ) (b : Block) → owns_in s.locals ≡ a ∷ [] → owned_block a s ≡ Some b → leave_to w 0 s ≡ Done tt (without_block (a, b.size) (record s { locals = [] }))
unfolding leave_to
leaves_block w s a b h there =
    ap (λ o. and_then o (λ u. keep_locals [])) (drops_only w s.locals a (record s { locals = [] }) h ∙ frees_one w a b (record s { locals = [] }) there)
