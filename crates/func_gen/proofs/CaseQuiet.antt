-- A match whose arms are inward makes no call.
use Rattle.std.proofs.Common.{◌≡◌, true, ℕ, List, [], ◌∷◌}
use Rattle.std.specs.List.{list_all}
use Rattle.wit_model.specs.Bytes.{Bytes}
use Rattle.rust_tree.specs.declared.expr.Expr.{Expr}
use Rattle.rust_tree.specs.declared.pattern.ArmPattern.{ArmPattern}
use Rattle.rust_tree.specs.declared.stmt.Block.{Block}
use Rattle.rust_tree.specs.declared.stmt.MatchNames.{MatchNames}
use Rattle.rust_tree.specs.declared.stmt.Stmt.TheVariants as stmt
use Rattle.wrapper_values.specs.Setting.{Setting}
use Rattle.wrapper_run.specs.Inward.{CallsNothing, is_inward}
use Rattle.wrapper_run.specs.Run.{run_stmts}
use Rattle.wrapper_run.proofs.InwardCalls.{stmts_quiet}
use Rattle.func_gen.specs.declared.case_form.CaseForm.{CaseForm}
use Rattle.func_gen.specs.declared.function_bindgen.FinishedBlock.{FinishedBlock}
use Rattle.func_gen.specs.LiftedCases.{number_arms}
use Rattle.func_gen.specs.MatchForms.{arm_of, is_lowerable, lowered_arms, match_names, match_of}
use Rattle.func_gen.specs.Operand.{is_operand}
use Rattle.func_gen.proofs.InwardArms.{lowered_inward, number_inward}
use Rattle.func_gen.proofs.InwardForms.{match_inward, operand_inward}

pub quiet_match : (w : Setting) (n : ℕ) (names : List Bytes) (e : Expr) (forms : List CaseForm) (blocks : List FinishedBlock) → is_operand e ≡ true → list_all (is_lowerable n) blocks ≡ true → CallsNothing (run_stmts w (match_of names e (lowered_arms forms blocks) ∷ []))
quiet_match w n names e forms blocks ok fit = stmts_quiet w (match_of names e (lowered_arms forms blocks) ∷ []) (match_inward e (operand_inward e ok) (match_names names) (lowered_arms forms blocks) (lowered_inward n forms blocks fit))

-- by numbers
pub quiet_numbers : (w : Setting) (names : MatchNames) (e : Expr) (bodies : List Block) (other : ArmPattern) (last : Block) → is_operand e ≡ true → list_all is_inward bodies ≡ true → is_inward last ≡ true
    → CallsNothing (run_stmts w (stmt.Match names e (number_arms 0 bodies (arm_of other last)) ∷ []))
quiet_numbers w names e bodies other last ok inward inward_last =
    let arms = number_arms 0 bodies (arm_of other last) in
    stmts_quiet w (stmt.Match names e arms ∷ []) (match_inward e (operand_inward e ok) names arms (number_inward 0 bodies other last inward inward_last))
