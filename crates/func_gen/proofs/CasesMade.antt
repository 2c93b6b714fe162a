-- The code of a block, and the case that is made of what it gives: it ends as the block does, and gives the case.
use Rattle.std.proofs.Common.{◌≡◌, ℕ, ◌≤◌, Bool, true, false, List, [], ◌∷◌, length, map, None, Some, refl, sym, ap, ◌∙◌, subst, arith, rules}
use Rattle.std.specs.Option.{option_map}
use Rattle.rust_tree.specs.declared.expr.Expr.{Expr, Expr-F, out-Expr, the_lemmas}
use Rattle.rust_tree.specs.declared.expr.Expr.TheVariants as expr
use Rattle.rust_tree.specs.declared.path.Path.{Path}
use Rattle.rust_tree.specs.declared.stmt.Arm.{Arm}
use Rattle.rust_tree.specs.declared.stmt.Block.{Block, Block-F}
use Rattle.rust_tree.specs.declared.stmt.Stmt.{Stmt}
use Rattle.wrapper_data.specs.declared.value.RustValue.{RustValue}
use Rattle.wrapper_data.specs.declared.value.RustValue.TheVariants as value
use Rattle.wrapper_values.specs.declared.state.State.{State}
use Rattle.wrapper_values.specs.declared.state.Val.{Val}
use Rattle.wrapper_values.specs.declared.state.Val.TheVariants as val
use Rattle.wrapper_values.specs.Act.{Act, Outcome, Done, Stopped, ◌>>=◌, ◌>>◌, all, and_then, or_stop, pure, stop}
use Rattle.wrapper_values.specs.Effect.{rust_of}
use Rattle.wrapper_values.specs.Setting.{Setting, stuck}
use Rattle.wrapper_values.specs.Variants.{bare_case, case_number, full_case, with_payload}
use Rattle.wrapper_run.specs.LastParts.{results, results_in}
use Rattle.wrapper_run.specs.Results.{run_results}
use Rattle.wrapper_run.specs.Run.{call, eval, make_case, run_stmts}
use Rattle.wrapper_run.specs.Inward.{CallsNothing}
use Rattle.wrapper_run.proofs.StepLemmas.{eval-call}
use Rattle.wrapper_run.proofs.StmtSteps.{code-opened}
use Rattle.wrapper_run.proofs.VariantSteps.{eval-bare, eval-unit}
use Rattle.wrapper_run.proofs.QuietActs.{quiet_or_stop, quiet_pure, quiet_stop, quiet_then}
use Rattle.func_gen.specs.LiftedCases.{case_body, case_expr}

-- one value as the only one
abbrev pub alone : Act Val → Act (List Val)
alone act = act >>= (λ x. pure (x ∷ []))

-- 1. What stands last

call_opened : (path : Path) (es : List Expr) → out-Expr (expr.Call path es) ≡ Expr-F.Call path es
call_opened path es = search (rules, the_lemmas)

bare_opened : (path : Path) → out-Expr (expr.Case path) ≡ Expr-F.Case path
bare_opened path = search (rules, the_lemmas)

case_results : (unit : Bool) (path : Path) (es : List Expr) → results (Some (case_expr unit path es)) ≡ case_expr unit path es ∷ []
case_results true path [] = ap (results_in (expr.Call path (expr.Unit ∷ []))) (call_opened path (expr.Unit ∷ []))
case_results false path [] = ap (results_in (expr.Case path)) (bare_opened path)
case_results unit path (e ∷ es) = ap (results_in (expr.Call path (e ∷ []))) (call_opened path (e ∷ []))

module _ (w : Setting) where
  -- statements, and then these expressions
  abbrev pub given : List Stmt → List Expr → Act (List Val)
  given stmts es = run_stmts w stmts >> all (map (eval w) es)

  abbrev pub empty_of : (unit : Bool) → Path → Act Val
  empty_of true path = call w path (val.Value value.Unit ∷ [])
  empty_of false path = or_stop (stuck w) (bare_case w.items path)

  -- the case of what was given: of one value, or of none
  abbrev pub case_of : (unit : Bool) → Path → List Val → Act Val
  case_of unit path [] = empty_of unit path
  case_of unit path (v ∷ []) = call w path (v ∷ [])
  case_of unit path (v ∷ u ∷ vs) = stop (stuck w)

  body_runs : (unit : Bool) (path : Path) (stmts : List Stmt) (es : List Expr) (s : State) → run_results w (case_body unit path stmts es) s ≡ and_then (run_stmts w stmts s) (λ _. alone (eval w (case_expr unit path es)))
  body_runs unit path stmts es s =
      ap (λ (l : Block-F Stmt Arm Block). and_then (run_stmts w l.stmts s) (λ _. all (map (eval w) (results l.tail)))) (code-opened stmts (Some (case_expr unit path es)))
      ∙ ap (λ rs. and_then (run_stmts w stmts s) (λ _. all (map (eval w) rs))) (case_results unit path es)

  unit_called : (path : Path) → eval w (expr.Call path (expr.Unit ∷ [])) ≡ call w path (val.Value value.Unit ∷ [])
  unit_called path = eval-call w path (expr.Unit ∷ []) ∙ ap (λ act. all (act ∷ []) >>= (λ vs. call w path vs)) (eval-unit w)

  -- where nothing is given, it is made behind the statements
  no_values : (act : List Val → Act (List Val)) (o : Outcome (Unit {0})) → and_then o (λ _. act []) ≡ and_then (and_then o (λ _. all [])) act
  no_values act (Done u t) = refl
  no_values act (Stopped e t) = refl

  one_value : (unit : Bool) (path : Path) (e : Expr) (o : Outcome (Unit {0})) → and_then o (λ _. alone (all (eval w e ∷ []) >>= (λ vs. call w path vs))) ≡ and_then (and_then o (λ _. all (eval w e ∷ []))) (λ vs. alone (case_of unit path vs))
  one_value unit path e (Stopped x t) = refl
  one_value unit path e (Done u t) = go (eval w e t)
    where
      go : (q : Outcome Val) → and_then (and_then (and_then q (λ x. pure [] >>= (λ xs. pure (x ∷ xs)))) (λ vs. call w path vs)) (λ x. pure (x ∷ [])) ≡ and_then (and_then q (λ x. pure [] >>= (λ xs. pure (x ∷ xs)))) (λ vs. alone (case_of unit path vs))
      go (Done v z) = refl
      go (Stopped x z) = refl

  pub makes_case : (unit : Bool) (path : Path) (stmts : List Stmt) (es : List Expr) (s : State) → length es ≤ 1 → run_results w (case_body unit path stmts es) s ≡ and_then (given stmts es s) (λ vs. alone (case_of unit path vs))
  makes_case true path stmts [] s few =
      body_runs true path stmts [] s ∙ ap (λ act. and_then (run_stmts w stmts s) (λ _. alone act)) (unit_called path) ∙ no_values (λ vs. alone (case_of true path vs)) (run_stmts w stmts s)
  makes_case false path stmts [] s few =
      body_runs false path stmts [] s ∙ ap (λ act. and_then (run_stmts w stmts s) (λ _. alone act)) (eval-bare w path) ∙ no_values (λ vs. alone (case_of false path vs)) (run_stmts w stmts s)
  makes_case unit path stmts (e ∷ []) s few =
      body_runs unit path stmts (e ∷ []) s ∙ ap (λ act. and_then (run_stmts w stmts s) (λ _. alone act)) (eval-call w path (e ∷ [])) ∙ one_value unit path e (run_stmts w stmts s)
  makes_case unit path stmts (e ∷ e2 ∷ es) s few = absurd (omega (arith, few))

  -- 2. The case

  -- a path is that of the case of this number
  pub record IsCaseOf (path : Path) (n : ℕ) : Type 0 where
    pub number : case_number w.items path ≡ Some n
    pub makes : (vs : List Val) → call w path vs ≡ make_case w (Some n) vs

  pub full_made : (unit : Bool) (path : Path) (n : ℕ) (v : Val) (r : RustValue) (s : State) → IsCaseOf path n → rust_of v ≡ Some r → case_of unit path (v ∷ []) s ≡ Done (val.Value (value.Case n (Some r))) s
  unfolding full_case
  full_made unit path n v r s is h = ap (λ act. act s) (is.makes (v ∷ [])) ∙ ap (λ o. or_stop (stuck w) (with_payload o n) s) h

  pub unit_made : (path : Path) (n : ℕ) (s : State) → IsCaseOf path n → case_of true path [] s ≡ Done (val.Value (value.Case n (Some value.Unit))) s
  unfolding full_case
  unit_made path n s is = ap (λ act. act s) (is.makes (val.Value value.Unit ∷ []))

  pub bare_made : (path : Path) (n : ℕ) (s : State) → IsCaseOf path n → case_of false path [] s ≡ Done (val.Value (value.Case n None)) s
  unfolding bare_case
  bare_made path n s is = ap (λ o. or_stop (stuck w) (option_map (λ n. val.Value (value.Case n None)) o) s) is.number

  -- it is made without a call
  pub quiet_case : (unit : Bool) (path : Path) (n : ℕ) (vs : List Val) → IsCaseOf path n → CallsNothing (alone (case_of unit path vs))
  quiet_case unit path n vs is = quiet_then (case_of unit path vs) (λ x. pure (x ∷ [])) (go unit vs) (λ x. quiet_pure (x ∷ []))
    where
      go : (unit : Bool) (vs : List Val) → CallsNothing (case_of unit path vs)
      go unit (v ∷ []) = subst CallsNothing (sym (is.makes (v ∷ []))) (quiet_or_stop (stuck w) (full_case (Some n) v))
      go true [] = subst CallsNothing (sym (is.makes (val.Value value.Unit ∷ []))) (quiet_or_stop (stuck w) (full_case (Some n) (val.Value value.Unit)))
      go false [] = quiet_or_stop (stuck w) (bare_case w.items path)
      go unit (v ∷ u ∷ vs) = quiet_stop (stuck w)
