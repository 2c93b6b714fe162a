-- What the code of an arm gives: the results of the block of which it was made, or what is made of them.
use Rattle.std.proofs.Common.{◌≡◌, ◌++◌, ℕ, Bool, true, List, [], ◌∷◌, map, Option, Some, refl, sym, ap, ◌∙◌, rules}
use Rattle.std.specs.Option.{option_map}
use Rattle.wit_model.specs.Bytes.{Bytes}
use Rattle.rust_tree.specs.declared.expr.Expr.{Expr, Expr-F, fold-roll-Expr, map-Expr, out-Expr, roll-out-Expr, the_lemmas}
use Rattle.rust_tree.specs.declared.expr.Expr.TheVariants as expr
use Rattle.rust_tree.specs.declared.path.Path.{Path}
use Rattle.rust_tree.specs.declared.pattern.ArmPattern.{ArmPattern}
use Rattle.rust_tree.specs.declared.pattern.ArmPattern.TheVariants as arm
use Rattle.rust_tree.specs.declared.stmt.Arm.{Arm, Arm-F, out-roll-Arm}
use Rattle.rust_tree.specs.declared.stmt.Block.{Block as Code, Block-F}
use Rattle.rust_tree.specs.declared.stmt.Stmt.{Stmt}
use Rattle.wrapper_data.specs.declared.value.RustValue.{RustValue}
use Rattle.wrapper_data.specs.declared.value.RustValue.TheVariants as value
use Rattle.wrapper_values.specs.declared.state.State.{State}
use Rattle.wrapper_values.specs.declared.state.Val.{Val}
use Rattle.wrapper_values.specs.declared.state.Val.TheVariants as val
use Rattle.wrapper_values.specs.Act.{Act, Done, ◌>>=◌, ◌>>◌, all, or_stop}
use Rattle.wrapper_values.specs.Locals.{bind}
use Rattle.wrapper_values.specs.Matches.{enter_arm, left_out}
use Rattle.wrapper_values.specs.Owning.{owned}
use Rattle.wrapper_values.specs.Setting.{Setting, stuck}
use Rattle.wrapper_values.specs.Variants.{payload_of_level}
use Rattle.wrapper_run.specs.Arms.{ArmAct}
use Rattle.wrapper_run.specs.Code.{code_of}
use Rattle.wrapper_run.specs.LastParts.{results, results_in}
use Rattle.wrapper_run.specs.Results.{run_results}
use Rattle.wrapper_run.specs.Run.{arm_act, eval, run_stmts}
use Rattle.wrapper_run.proofs.StmtSteps.{arm-acts, code-opened}
use Rattle.wrapper_meaning.proofs.RustValues.{out-case}
use Rattle.func_gen.specs.MatchForms.{arm_of, open_arm, tail_of}
use Rattle.func_gen.specs.Operand.{is_operand, operand_step}

-- 1. Where an arm begins

-- a payload gets its name
pub enters_payload : (w : Setting) (path : Path) (name : Bytes) (n : ℕ) (r : RustValue) (s : State)
    → enter_arm w (arm.Payload path name) (val.Value (value.Case n (Some r))) s ≡ Done tt (record s { locals = s.locals ++ record { name = name; value = Some (val.Value r) } ∷ [] })
unfolding bind
enters_payload w path name n r s = ap (λ l. (or_stop (stuck w) (option_map val.Value (payload_of_level l)) >>= bind name) s) (out-case n (Some r))

-- a value that owns nothing is left, with or without a payload
pub enters_case : (w : Setting) (path : Path) (v : Val) (s : State) → owned v ≡ [] → enter_arm w (arm.Case path) v s ≡ Done tt s
enters_case w path v s h = ap (λ o. left_out w o s) h

pub enters_left_out : (w : Setting) (path : Path) (v : Val) (s : State) → owned v ≡ [] → enter_arm w (arm.LeftOut path) v s ≡ Done tt s
enters_left_out w path v s h = ap (λ o. left_out w o s) h

-- 2. What an arm does

pub arm-made : (w : Setting) (p : ArmPattern) (body : Code) → arm_act w (arm_of p body) ≡ (p, run_results w body)
arm-made w p body = arm-acts w (arm_of p body) ∙ ap (λ (l : Arm-F Stmt Arm Code). (let a : ArmAct = (l.pattern, run_results w l.body) in a)) (out-roll-Arm (open_arm p body))

-- statements, and then the values of these
abbrev pub gives : Setting → List Stmt → List Expr → Act (List Val)
gives w stmts es = run_stmts w stmts >> all (map (eval w) es)

pub gives-code : (w : Setting) (stmts : List Stmt) (tail : Option Expr) → run_results w (code_of stmts tail) ≡ gives w stmts (results tail)
gives-code w stmts tail = ap (λ (l : Block-F Stmt Arm Code). gives w l.stmts (results l.tail)) (code-opened stmts tail)

-- 3. The results themselves

one_result : (e : Expr) (l : Expr-F Expr) → operand_step (map-Expr Expr Bool is_operand l) ≡ true → results_in e l ≡ e ∷ []
one_result e (Expr-F.Tuple (first ∷ second ∷ more)) h = absurd cc
one_result e _ h = refl

-- an operand is no tuple
pub operand_result : (e : Expr) → is_operand e ≡ true → results (Some e) ≡ e ∷ []
operand_result e ok = one_result e (out-Expr e) (sym (fold-roll-Expr Bool operand_step (out-Expr e)) ∙ ap is_operand (roll-out-Expr e) ∙ ok)

abbrev pub AllOperands : List Expr → Type 0
AllOperands [] = Unit {0}
AllOperands (e ∷ es) = (is_operand e ≡ true) × AllOperands es

pub tail_results : (es : List Expr) → AllOperands es → results (tail_of es) ≡ es
tail_results [] ok = refl
tail_results (e ∷ []) ok = operand_result e ok.0
tail_results (first ∷ second ∷ more) ok =
    let opened : out-Expr (expr.Tuple (first ∷ second ∷ more)) ≡ Expr-F.Tuple (first ∷ second ∷ more) = search (rules, the_lemmas) in
    ap (results_in (expr.Tuple (first ∷ second ∷ more))) opened

-- the code of a block and its results, which stand last
pub gives-results : (w : Setting) (stmts : List Stmt) (es : List Expr) → AllOperands es → run_results w (code_of stmts (tail_of es)) ≡ gives w stmts es
gives-results w stmts es ok = gives-code w stmts (tail_of es) ∙ ap (gives w stmts) (tail_results es ok)

-- 4. What is made of them

pub call_result : (path : Path) (es : List Expr) → results (Some (expr.Call path es)) ≡ expr.Call path es ∷ []
call_result path es =
    let opened : out-Expr (expr.Call path es) ≡ Expr-F.Call path es = search (rules, the_lemmas) in
    ap (results_in (expr.Call path es)) opened
