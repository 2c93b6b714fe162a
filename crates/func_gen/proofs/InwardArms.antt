-- Finished blocks become inward arms.
use Rattle.std.proofs.Common.{◌≡◌, ℕ, suc, Bool, true, false, ◌&&◌, List, [], ◌∷◌, length, Option, None, Some, refl, sym, ap, ◌∙◌}
use Rattle.std.specs.Prelude.{codes, nat_eq}
use Rattle.std.specs.List.{list_all}
use Rattle.std.proofs.lemmas.Bool.{and_from, and_parts}
use Rattle.std.proofs.lemmas.List.Folds.{list_all-append}
use Rattle.wit_model.specs.Bytes.{Bytes}
use Rattle.wit_model.specs.declared.types.Case.{Case}
use Rattle.wit_model.specs.declared.types.WitType.{WitType}
use Rattle.rust_tree.specs.declared.expr.Expr.{Expr, Expr-F, fold-roll-Expr}
use Rattle.rust_tree.specs.declared.expr.Expr.TheVariants as expr
use Rattle.rust_tree.specs.declared.expr.Expr.TheVariants.{rolls-Case, rolls-Unit}
use Rattle.rust_tree.specs.declared.path.Path.{Path}
use Rattle.rust_tree.specs.declared.pattern.ArmPattern.{ArmPattern}
use Rattle.rust_tree.specs.declared.pattern.ArmPattern.TheVariants as pattern
use Rattle.rust_tree.specs.declared.stmt.Arm.{Arm, Arm-F, out-roll-Arm}
use Rattle.rust_tree.specs.declared.stmt.Block.{Block}
use Rattle.rust_tree.specs.declared.stmt.Stmt.{Stmt}
use Rattle.wrapper_run.specs.Inward.{is_inward, is_inward_expr, is_inward_tail, inward_step}
use Rattle.func_gen.specs.declared.case_form.CaseForm.{CaseForm}
use Rattle.func_gen.specs.declared.case_form.CaseForm.TheVariants as form
use Rattle.func_gen.specs.declared.function_bindgen.FinishedBlock.{FinishedBlock}
use Rattle.func_gen.specs.CaseForms.{member_form, member_forms, option_forms, result_forms, side_form}
use Rattle.func_gen.specs.InwardCode.{is_inward_arm, names_no_import}
use Rattle.func_gen.specs.LiftedCases.{case_expr, is_inward_case, number_arms, numbered_arms}
use Rattle.func_gen.specs.MatchForms.{arm_of, case_pattern, is_lowerable, lowered_arms, lowered_body, open_arm, tail_of}
use Rattle.func_gen.specs.Operand.{is_operand}
use Rattle.func_gen.specs.PartForms.{are_operands}
use Rattle.func_gen.proofs.InwardForms.{absolute_no_import, call_inward, member_no_import, one_inward, operand_inward, tuple_inward}

-- 1. What stands last

pub tail_inward : (es : List Expr) → list_all is_operand es ≡ true → is_inward_tail (tail_of es) ≡ true
tail_inward [] h = refl
tail_inward (e ∷ []) h = operand_inward e (and_parts (is_operand e) true h).0
tail_inward (e ∷ e2 ∷ es) h = tuple_inward (e ∷ e2 ∷ es) h

unit_inward : is_inward_expr expr.Unit ≡ true
unit_inward = ap is_inward_expr (sym rolls-Unit) ∙ fold-roll-Expr Bool inward_step Expr-F.Unit

pub case_inward : (unit : Bool) (path : Path) (es : List Expr) → names_no_import path ≡ true → list_all is_inward_expr es ≡ true → is_inward_expr (case_expr unit path es) ≡ true
case_inward true path [] h k = call_inward path (expr.Unit ∷ []) h (one_inward expr.Unit unit_inward)
case_inward false path [] h k = ap is_inward_expr (sym (rolls-Case path)) ∙ fold-roll-Expr Bool inward_step (Expr-F.Case path)
case_inward unit path (e ∷ es) h k = call_inward path (e ∷ []) h (one_inward e (and_parts (is_inward_expr e) (list_all is_inward_expr es) k).0)

-- 2. Arms

pub arm_inward : (p : ArmPattern) (b : Block) → is_inward b ≡ true → is_inward_arm (arm_of p b) ≡ true
arm_inward p b h = ap (λ (l : Arm-F Stmt Arm Block). is_inward l.body) (out-roll-Arm (open_arm p b)) ∙ h

pub lowered_inward : (n : ℕ) (cases : List CaseForm) (blocks : List FinishedBlock) → list_all (is_lowerable n) blocks ≡ true → list_all is_inward_arm (lowered_arms cases blocks) ≡ true
lowered_inward n [] blocks h = refl
lowered_inward n (c ∷ cases) [] h = refl
lowered_inward n (c ∷ cases) (b ∷ blocks) h =
    let two = and_parts (is_lowerable n b) (list_all (is_lowerable n) blocks) h in
    let fits = and_parts (nat_eq (length b.results) n) (is_inward (lowered_body b) && are_operands b.results) two.0 in
    let inward = (and_parts (is_inward (lowered_body b)) (are_operands b.results) fits.1).0 in
    and_from _ _ (arm_inward (case_pattern c b.number) (lowered_body b) inward) (lowered_inward n cases blocks two.1)

numbered_inward : (k : ℕ) (bodies : List Block) → list_all is_inward bodies ≡ true → list_all is_inward_arm (numbered_arms k bodies) ≡ true
numbered_inward k [] h = refl
numbered_inward k (b ∷ bodies) h =
    let two = and_parts (is_inward b) (list_all is_inward bodies) h in
    and_from _ _ (arm_inward (pattern.Number k) b two.0) (numbered_inward (suc k) bodies two.1)

-- those by numbers, and another one behind them
pub number_inward : (k : ℕ) (bodies : List Block) (other : ArmPattern) (last : Block) → list_all is_inward bodies ≡ true → is_inward last ≡ true → list_all is_inward_arm (number_arms k bodies (arm_of other last)) ≡ true
number_inward k bodies other last h l =
    list_all-append is_inward_arm (numbered_arms k bodies) (arm_of other last ∷ [])
    ∙ and_from _ _ (numbered_inward k bodies h) (and_from (is_inward_arm (arm_of other last)) true (arm_inward other last l) refl)

-- 3. The paths of cases name no import

pub option_inward : list_all is_inward_case option_forms ≡ true
option_inward = and_from _ _ (absolute_no_import _) (and_from _ true (absolute_no_import _) refl)

side_inward : (case : Bytes) (payload : Option WitType) → is_inward_case (side_form case payload) ≡ true
side_inward case None = absolute_no_import _
side_inward case (Some ty) = absolute_no_import _

pub result_inward : (ok err : Option WitType) → list_all is_inward_case (result_forms ok err) ≡ true
result_inward ok err = and_from _ _ (side_inward (codes "Ok") ok) (and_from _ true (side_inward (codes "Err") err) refl)

member_inward : (ty name : Bytes) (payload : Option WitType) → is_inward_case (member_form ty name payload) ≡ true
member_inward ty name None = member_no_import ty name
member_inward ty name (Some p) = member_no_import ty name

pub members_inward : (ty : Bytes) (names : List Bytes) (members : List Case) → list_all is_inward_case (member_forms ty names members) ≡ true
members_inward ty [] members = refl
members_inward ty (n ∷ names) [] = refl
members_inward ty (n ∷ names) (c ∷ members) = and_from _ _ (member_inward ty n c.ty) (members_inward ty names members)
