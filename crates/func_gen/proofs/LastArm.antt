-- The last arm of a variant: it has the number under a name, and tests it in the debug form.
use Rattle.std.proofs.Common.{◌≡◌, ℕ, ℤ, Bool, true, false, cond, ◌&&◌, List, [], ◌∷◌, ◌++◌, length, map, Option, None, Some, refl, sym, ap, ◌∙◌}
use Rattle.std.specs.Prelude.{option_and_then}
use Rattle.wit_model.specs.Bytes.{Bytes}
use Rattle.rust_tree.specs.declared.expr.Expr.{Expr}
use Rattle.rust_tree.specs.declared.pattern.ArmPattern.TheVariants as arm_by
use Rattle.rust_tree.specs.declared.stmt.Arm.{Arm}
use Rattle.rust_tree.specs.declared.stmt.Block.{Block, Block-F}
use Rattle.rust_tree.specs.declared.stmt.Stmt.{Stmt, Stmt-F, fold-roll-Stmt}
use Rattle.rust_tree.specs.declared.stmt.Stmt.TheVariants as stmt
use Rattle.rust_tree.specs.declared.stmt.Stmt.TheVariants.{rolls-AssertLast}
use Rattle.wrapper_data.specs.declared.form.Form.{Form}
use Rattle.wrapper_data.specs.declared.form.Form.TheVariants as form
use Rattle.wrapper_data.specs.declared.run.Stop.TheVariants as stop_of
use Rattle.wrapper_data.specs.declared.run.TrapKind.TheVariants as trap
use Rattle.wrapper_data.specs.declared.word.Word.TheVariants as core
use Rattle.wrapper_values.specs.declared.state.State.{State}
use Rattle.wrapper_values.specs.declared.state.Val.{Val}
use Rattle.wrapper_values.specs.declared.state.Val.TheVariants as val
use Rattle.wrapper_values.specs.Act.{Act, Outcome, Done, Stopped, ◌>>◌, all, and_then, or_stop, pure}
use Rattle.wrapper_values.specs.Locals.{bind, lend_local}
use Rattle.wrapper_values.specs.Matches.{assert_last, expect_number, is_number}
use Rattle.wrapper_values.specs.Owning.{lent}
use Rattle.wrapper_values.specs.Setting.{Setting, stuck}
use Rattle.wrapper_run.specs.Arms.{run_arm}
use Rattle.wrapper_run.specs.Blocks.{in_scope, leave_to}
use Rattle.wrapper_run.specs.Code.{code_of}
use Rattle.wrapper_run.specs.Inward.{StmtTest, are_inward, inward_arm_step, inward_block_step, inward_stmt_step, is_inward, is_inward_tail, plain, stmt_test}
use Rattle.wrapper_run.specs.LastParts.{results}
use Rattle.wrapper_run.specs.Results.{run_results}
use Rattle.wrapper_run.specs.Run.{eval, run_stmt, run_stmts}
use Rattle.wrapper_run.proofs.LocalLemmas.{reads-new}
use Rattle.wrapper_run.proofs.StmtSteps.{code-opened, run-assert}
use Rattle.func_gen.proofs.ArmResults.{gives, gives-code}
use Rattle.func_gen.proofs.Lasting.{with_local}

-- 1. The test is inward

test-assert : (n : Bytes) (k : ℕ) → stmt_test (stmt.AssertLast n k) ≡ plain true
test-assert n k = ap stmt_test (sym (rolls-AssertLast n k)) ∙ fold-roll-Stmt StmtTest Bool Bool inward_stmt_step inward_arm_step inward_block_step (Stmt-F.AssertLast n k)

inward_code : (stmts : List Stmt) (tail : Option Expr) → is_inward (code_of stmts tail) ≡ (are_inward None (map stmt_test stmts) && is_inward_tail tail)
inward_code stmts tail = ap (λ (l : Block-F Stmt Arm Block). are_inward None (map stmt_test l.stmts) && is_inward_tail l.tail) (code-opened stmts tail)

-- behind it stands code that is inward where it is with it
pub inward_behind : (n : Bytes) (k : ℕ) (stmts : List Stmt) (tail : Option Expr) → is_inward (code_of (stmt.AssertLast n k ∷ stmts) tail) ≡ true → is_inward (code_of stmts tail) ≡ true
inward_behind n k stmts tail h =
    inward_code stmts tail ∙ ap (λ t. are_inward None (t ∷ map stmt_test stmts) && is_inward_tail tail) (sym (test-assert n k)) ∙ sym (inward_code (stmt.AssertLast n k ∷ stmts) tail) ∙ h

-- 2. How it runs

module _ (w : Setting) (n : Bytes) (k : ℕ) (z : ℤ) (stmts : List Stmt) (tail : Option Expr) (s : State) where
  abbrev pub number : Val
  number = val.Word (core.I32 z)

  abbrev pub named : State
  named = with_local s n number

  tested : run_stmt w (stmt.AssertLast n k) named ≡ expect_number w.form (stuck w) k (Some z) named
  unfolding lend_local
  tested =
      ap (λ (act : Act (Unit {0})). act named) (run-assert w n k)
      ∙ ap (λ o. and_then (or_stop (stuck w) (option_and_then lent o) named) (assert_last w k)) (reads-new n (Some number) s.locals)

  abbrev test : Act (Unit {0})
  test = run_stmt w (stmt.AssertLast n k)

  behind_test : (o : Outcome (Unit {0})) (es : List Expr) → and_then (and_then o (λ _. run_stmts w stmts)) (λ _. all (map (eval w) es)) ≡ and_then o (λ _. gives w stmts es)
  behind_test (Done u t) es = refl
  behind_test (Stopped x t) es = refl

  whole_runs : run_results w (code_of (stmt.AssertLast n k ∷ stmts) tail) named ≡ and_then (test named) (λ _. run_results w (code_of stmts tail))
  whole_runs =
      ap (λ (act : Act (List Val)). act named) (gives-code w (stmt.AssertLast n k ∷ stmts) tail) ∙ behind_test (test named) (results tail)
      ∙ ap (λ (act : Act (List Val)). and_then (test named) (λ _. act)) (sym (gives-code w stmts tail))

  abbrev pub last_arm : Act (List Val)
  last_arm = run_arm w number (arm_by.Name n, run_results w (code_of (stmt.AssertLast n k ∷ stmts) tail))

  -- the name is bound, and the number is tested
  abbrev pub enter : Act (Unit {0})
  enter = bind n number >> test

  abbrev leaving : Outcome (List Val) → Outcome (List Val)
  leaving o = and_then o (λ a. leave_to w (length s.locals) >> pure a)

  begins : last_arm s ≡ leaving (and_then (test named) (λ _. run_results w (code_of stmts tail)))
  unfolding bind
  begins = ap leaving whole_runs

  -- the arm runs its code once it is entered so
  pub as_entered : last_arm s ≡ in_scope w (enter >> run_results w (code_of stmts tail)) s
  unfolding bind
  as_entered = begins

  -- a number that passes
  pub enters : expect_number w.form (stuck w) k (Some z) named ≡ Done tt named → enter s ≡ Done tt (record s { locals = s.locals ++ record { name = n; value = Some number } ∷ [] })
  unfolding bind
  enters h = tested ∙ h

  -- one that does not
  pub stops : expect_number w.form (stuck w) k (Some z) named ≡ Stopped (stop_of.Trap trap.Discriminant) named → last_arm s ≡ Stopped (stop_of.Trap trap.Discriminant) named
  stops h = begins ∙ ap (λ o. leaving (and_then o (λ _. run_results w (code_of stmts tail)))) (tested ∙ h)

-- 3. Which numbers pass

pub passes_last : (f : Form) (w : Setting) (k : ℕ) (z : ℤ) (s : State) → is_number k z ≡ true → expect_number f (stuck w) k (Some z) s ≡ Done tt s
passes_last form.Release w k z s h = refl
passes_last form.Debug w k z s h = ap (λ b. (let act : Act (Unit {0}) = cond b (pure tt) (λ t. Stopped (stop_of.Trap trap.Discriminant) t) in act) s) h

pub fails_last : (w : Setting) (k : ℕ) (z : ℤ) (s : State) → is_number k z ≡ false → expect_number form.Debug (stuck w) k (Some z) s ≡ Stopped (stop_of.Trap trap.Discriminant) s
fails_last w k z s h = ap (λ b. (let act : Act (Unit {0}) = cond b (pure tt) (λ t. Stopped (stop_of.Trap trap.Discriminant) t) in act) s) h
