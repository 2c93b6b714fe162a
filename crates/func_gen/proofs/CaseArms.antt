-- The arms of cases that are lowered: the one of a value's case runs its block with the payload.
use Rattle.std.proofs.Common.{◌≡◌, ◌+◌, ◌++◌, ◌&&◌, ℕ, zero, suc, true, List, [], ◌∷◌, length, map, Option, Some, refl, sym, ap, ◌∙◌, subst, arith, append-nil}
use Rattle.std.specs.Prelude.{nat_eq, slice_get}
use Rattle.std.specs.List.{list_all}
use Rattle.std.proofs.lemmas.Bool.{and_parts, eqb-true}
use Rattle.rust_tree.specs.declared.item.Item.{Item}
use Rattle.wrapper_data.specs.declared.value.RustValue.{RustValue, out-RustValue}
use Rattle.wrapper_data.specs.declared.value.RustValue.TheVariants as value
use Rattle.wrapper_meaning.proofs.RustValues.{out-case}
use Rattle.wrapper_values.specs.declared.state.State.{State}
use Rattle.wrapper_values.specs.declared.state.Val.{Val}
use Rattle.wrapper_values.specs.declared.state.Val.TheVariants as val
use Rattle.wrapper_values.specs.Act.{Done, ◌>>◌, all}
use Rattle.wrapper_values.specs.Matches.{enter_arm, same_case, takes}
use Rattle.wrapper_values.specs.Owning.{owned}
use Rattle.wrapper_values.specs.Setting.{Setting}
use Rattle.wrapper_values.specs.Variants.{case_number, number_of_level}
use Rattle.wrapper_run.specs.Arms.{ArmAct, run_arm, run_arms}
use Rattle.wrapper_run.specs.Inward.{CallsNothing, is_inward}
use Rattle.wrapper_run.specs.OuterLocals.{RunsBehind}
use Rattle.wrapper_run.specs.Results.{run_results}
use Rattle.wrapper_run.specs.Run.{arm_act, eval, run_stmts}
use Rattle.wrapper_run.proofs.InwardWalk.{walks_given}
use Rattle.wrapper_run.proofs.OuterLemmas.{behind_within}
use Rattle.wrapper_run.proofs.InwardCalls.{body_quiet}
use Rattle.abi_bindgen.specs.Meaning.{Bound, the_payload, with_nothing, with_payload}
use Rattle.func_gen.specs.declared.case_form.CaseForm.{CaseForm}
use Rattle.func_gen.specs.declared.case_form.CaseForm.TheVariants as form
use Rattle.func_gen.specs.declared.function_bindgen.FinishedBlock.{FinishedBlock}
use Rattle.func_gen.specs.declared.operand.ExprOperand.{ExprOperand}
use Rattle.func_gen.specs.Entered.{bindings}
use Rattle.func_gen.specs.Finished.{results_act}
use Rattle.func_gen.specs.MatchForms.{case_path, case_pattern, is_lowerable, lowered_arm, lowered_arms, lowered_body}
use Rattle.func_gen.specs.Operand.{is_operand}
use Rattle.func_gen.specs.PartForms.{are_operands, exprs_of}
use Rattle.func_gen.specs.Slot.{slot_name}
use Rattle.func_gen.proofs.ArmChoice.{TakeNumbers, TakesNumber, chosen}
use Rattle.func_gen.proofs.ArmResults.{AllOperands, arm-made, enters_case, enters_left_out, enters_payload, gives-results}

-- 1. Which arm

-- the cases have the numbers from one on
abbrev pub AreNumbered : List Item → ℕ → List CaseForm → Type 0
AreNumbered items n [] = Unit {0}
AreNumbered items n (c ∷ cases) = (case_number items (case_path c) ≡ Some n) × AreNumbered items (suc n) cases

case_taken : (items : List Item) (c : CaseForm) (n k m : ℕ) (payload : Option RustValue) → case_number items (case_path c) ≡ Some n → takes items (case_pattern c k) (val.Value (value.Case m payload)) ≡ Some (nat_eq n m)
unfolding takes
case_taken items (form.Bare path) n k m payload h = ap (λ o. same_case o (number_of_level (out-RustValue (value.Case m payload)))) h ∙ ap (λ l. same_case (Some n) (number_of_level l)) (out-case m payload)
case_taken items (form.Full path) n k m payload h = ap (λ o. same_case o (number_of_level (out-RustValue (value.Case m payload)))) h ∙ ap (λ l. same_case (Some n) (number_of_level l)) (out-case m payload)
case_taken items (form.LeftOut path) n k m payload h = ap (λ o. same_case o (number_of_level (out-RustValue (value.Case m payload)))) h ∙ ap (λ l. same_case (Some n) (number_of_level l)) (out-case m payload)

module _ (w : Setting) (payload : Option RustValue) where
  abbrev case_value : ℕ → Val
  case_value m = val.Value (value.Case m payload)

  abbrev acts : List CaseForm → List FinishedBlock → List ArmAct
  acts cases blocks = map (arm_act w) (lowered_arms cases blocks)

  abbrev act_of : CaseForm → FinishedBlock → ArmAct
  act_of c b = (case_pattern c b.number, run_results w (lowered_body b))

  arm_is : (c : CaseForm) (b : FinishedBlock) → arm_act w (lowered_arm c b) ≡ act_of c b
  arm_is c b = arm-made w (case_pattern c b.number) (lowered_body b)

  all_numbered : (n : ℕ) (cases : List CaseForm) (blocks : List FinishedBlock) → AreNumbered w.items n cases → TakeNumbers w case_value n (acts cases blocks)
  all_numbered n [] blocks h = tt
  all_numbered n (c ∷ cases) [] h = tt
  all_numbered n (c ∷ cases) (b ∷ blocks) h =
      (subst (TakesNumber w case_value n) (sym (arm_is c b)) (λ m. case_taken w.items c n b.number m payload h.0), all_numbered (suc n) cases blocks h.1)

  arm_at : (i : ℕ) (cases : List CaseForm) (blocks : List FinishedBlock) (c : CaseForm) (b : FinishedBlock) → slice_get cases i ≡ Some c → slice_get blocks i ≡ Some b → slice_get (acts cases blocks) i ≡ Some (act_of c b)
  arm_at i [] blocks c b h k = absurd cc
  arm_at i (x ∷ cases) [] c b h k = absurd cc
  arm_at zero (x ∷ cases) (y ∷ blocks) c b h k =
      let one : x ≡ c = cc in
      let two : y ≡ b = cc in
      ap (λ a. Some a) (arm_is x y) ∙ ap (λ z. Some (act_of z y)) one ∙ ap (λ z. Some (act_of c z)) two
  arm_at (suc i) (x ∷ cases) (y ∷ blocks) c b h k = arm_at i cases blocks c b h k

  -- the value of a case takes its arm
  pub case_chosen : (i : ℕ) (cases : List CaseForm) (blocks : List FinishedBlock) (c : CaseForm) (b : FinishedBlock) → AreNumbered w.items 0 cases → slice_get cases i ≡ Some c → slice_get blocks i ≡ Some b
      → run_arms w (case_value i) (acts cases blocks) ≡ run_arm w (case_value i) (act_of c b)
  case_chosen i cases blocks c b numbers h k =
      let place : 0 + i ≡ i = omega arith in
      ap (run_arms w (case_value i)) (sym (append-nil (acts cases blocks)))
      ∙ subst (λ m. run_arms w (case_value m) (acts cases blocks ++ []) ≡ run_arm w (case_value m) (act_of c b)) place
      (chosen w case_value 0 i (acts cases blocks) [] (act_of c b) (all_numbered 0 cases blocks numbers) (arm_at i cases blocks c b h k))

-- 2. Where it begins

-- what a block is run with for a value of the case
abbrev pub Brings : CaseForm → ℕ → Option RustValue → Bound RustValue → Type 0
Brings (form.Full path) n payload with = (r : RustValue) × (payload ≡ Some r) × (with ≡ with_payload r)
Brings _ n payload with = (owned (val.Value (value.Case n payload)) ≡ []) × (with ≡ with_nothing)

pub case_enters : (w : Setting) (c : CaseForm) (k n : ℕ) (payload : Option RustValue) (with : Bound RustValue) (s : State) → Brings c n payload with
    → enter_arm w (case_pattern c k) (val.Value (value.Case n payload)) s ≡ Done tt (record s { locals = s.locals ++ ([] ++ bindings k with) })
case_enters w (form.Full path) k n payload with s (r, is, brought) =
    ap (λ p. enter_arm w (case_pattern (form.Full path) k) (val.Value (value.Case n p)) s) is ∙ enters_payload w path (slot_name the_payload k) n r s
    ∙ ap (λ (b : Bound RustValue). Done tt (record s { locals = s.locals ++ bindings k b })) (sym brought)
case_enters w (form.Bare path) k n payload with s (none, brought) =
    enters_case w path (val.Value (value.Case n payload)) s none ∙ ap (λ ls. Done tt (record s { locals = ls })) (sym (append-nil s.locals))
    ∙ ap (λ (b : Bound RustValue). Done tt (record s { locals = s.locals ++ bindings k b })) (sym brought)
case_enters w (form.LeftOut path) k n payload with s (none, brought) =
    enters_left_out w path (val.Value (value.Case n payload)) s none ∙ ap (λ ls. Done tt (record s { locals = ls })) (sym (append-nil s.locals))
    ∙ ap (λ (b : Bound RustValue). Done tt (record s { locals = s.locals ++ bindings k b })) (sym brought)

-- 3. What it gives

all_operands : (os : List ExprOperand) → are_operands os ≡ true → AllOperands (exprs_of os)
all_operands [] h = tt
all_operands (o ∷ os) h = let two = and_parts (is_operand o.expr) (are_operands os) h in (two.0, all_operands os two.1)

pub each_evaluated : (w : Setting) (os : List ExprOperand) → map (λ (o : ExprOperand). eval w o.expr) os ≡ map (eval w) (exprs_of os)
each_evaluated w [] = refl
each_evaluated w (o ∷ os) = ap (λ acts. eval w o.expr ∷ acts) (each_evaluated w os)

pub record Lowerable (w : Setting) (n : ℕ) (b : FinishedBlock) : Type 0 where
  pub many : length b.results ≡ n
  pub gives : run_results w (lowered_body b) ≡ results_act w b
  pub behind : RunsBehind (results_act w b)
  pub quiet : CallsNothing (results_act w b)

pub is_lowered : (w : Setting) (n : ℕ) (b : FinishedBlock) → is_lowerable n b ≡ true → Lowerable w n b
is_lowered w n b h =
    let two = and_parts (nat_eq (length b.results) n) (is_inward (lowered_body b) && are_operands b.results) h in
    let last = and_parts (is_inward (lowered_body b)) (are_operands b.results) two.1 in
    let same : run_results w (lowered_body b) ≡ results_act w b =
    gives-results w b.stmts (exprs_of b.results) (all_operands b.results last.1) ∙ ap (λ acts. run_stmts w b.stmts >> all acts) (sym (each_evaluated w b.results)) in
    record {
      many = eqb-true (length b.results) n two.0;
      gives = same;
      behind = subst RunsBehind same (walks_given w (λ A act. RunsBehind act) (behind_within w) (lowered_body b) last.0);
      quiet = subst CallsNothing same (body_quiet w (lowered_body b) last.0);
    }

pub fit_at : (n i : ℕ) (blocks : List FinishedBlock) (b : FinishedBlock) → list_all (is_lowerable n) blocks ≡ true → slice_get blocks i ≡ Some b → is_lowerable n b ≡ true
fit_at n i [] b h k = absurd cc
fit_at n zero (x ∷ blocks) b h k = let one : x ≡ b = cc in ap (is_lowerable n) (sym one) ∙ (and_parts (is_lowerable n x) (list_all (is_lowerable n) blocks) h).0
fit_at n (suc i) (x ∷ blocks) b h k = fit_at n i blocks b (and_parts (is_lowerable n x) (list_all (is_lowerable n) blocks) h).1 k
