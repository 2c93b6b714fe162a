-- One level of whether code is inward.
use Rattle.std.proofs.Common.{◌≡◌, ℕ, Bool, ◌&&◌, List, [], ◌∷◌, map, refl, sym, ap, ◌∙◌}
use Rattle.std.specs.List.{list_all}
use Rattle.std.proofs.lemmas.List.Folds.{list_all-map}
use Rattle.wit_model.specs.Bytes.{Bytes}
use Rattle.rust_tree.specs.declared.expr.Expr.{Expr, Expr-F, fold-roll-Expr}
use Rattle.rust_tree.specs.declared.expr.Expr.TheVariants as expr
use Rattle.rust_tree.specs.declared.expr.Expr.TheVariants.{rolls-Call, rolls-FlagsOfWords, rolls-Record, rolls-Tuple}
use Rattle.rust_tree.specs.declared.path.Path.{Path}
use Rattle.rust_tree.specs.declared.repr.Repr.{Repr}
use Rattle.rust_tree.specs.declared.stmt.Arm.{Arm, fold-Arm, fold-roll-Arm, out-Arm, roll-out-Arm}
use Rattle.rust_tree.specs.declared.stmt.Block.{Block, fold-Block, fold-roll-Block, out-Block, roll-out-Block}
use Rattle.rust_tree.specs.declared.stmt.MatchNames.{MatchNames}
use Rattle.rust_tree.specs.declared.stmt.Stmt.{Stmt-F, fold-roll-Stmt}
use Rattle.rust_tree.specs.declared.stmt.Stmt.TheVariants as stmt
use Rattle.rust_tree.specs.declared.stmt.Stmt.TheVariants.{rolls-Match}
use Rattle.wrapper_run.specs.Inward.{StmtTest, inward_arm_step, inward_block_step, inward_step, inward_stmt_step, is_inward, is_inward_expr, plain, stmt_test}
use Rattle.func_gen.specs.InwardCode.{is_inward_arm, names_no_import}

-- 1. Statements

abbrev pub arm_test : Arm → Bool
arm_test = fold-Arm StmtTest Bool Bool inward_stmt_step inward_arm_step inward_block_step

abbrev pub block_test : Block → Bool
block_test = fold-Block StmtTest Bool Bool inward_stmt_step inward_arm_step inward_block_step

inward-block : (b : Block) → block_test b ≡ is_inward b
inward-block b = ap block_test (sym (roll-out-Block b)) ∙ fold-roll-Block StmtTest Bool Bool inward_stmt_step inward_arm_step inward_block_step (out-Block b)

inward-arm : (a : Arm) → arm_test a ≡ is_inward_arm a
inward-arm a = ap arm_test (sym (roll-out-Arm a)) ∙ fold-roll-Arm StmtTest Bool Bool inward_stmt_step inward_arm_step inward_block_step (out-Arm a) ∙ inward-block (out-Arm a).body

arms-same : (arms : List Arm) → list_all arm_test arms ≡ list_all is_inward_arm arms
arms-same [] = refl
arms-same (a ∷ arms) = ap (λ b. b && list_all arm_test arms) (inward-arm a) ∙ ap (λ b. is_inward_arm a && b) (arms-same arms)

pub test-match : (names : MatchNames) (e : Expr) (arms : List Arm) → stmt_test (stmt.Match names e arms) ≡ plain (is_inward_expr e && list_all is_inward_arm arms)
test-match names e arms =
    ap stmt_test (sym (rolls-Match names e arms)) ∙ fold-roll-Stmt StmtTest Bool Bool inward_stmt_step inward_arm_step inward_block_step (Stmt-F.Match names e arms)
    ∙ ap (λ b. plain (is_inward_expr e && b)) (list_all-map (λ b. b) arm_test arms ∙ arms-same arms)

-- 2. Expressions

pub inward-call : (path : Path) (es : List Expr) → is_inward_expr (expr.Call path es) ≡ (names_no_import path && list_all is_inward_expr es)
inward-call path es =
    ap is_inward_expr (sym (rolls-Call path es)) ∙ fold-roll-Expr Bool inward_step (Expr-F.Call path es) ∙ ap (λ b. names_no_import path && b) (list_all-map (λ b. b) is_inward_expr es)

pub inward-tuple : (es : List Expr) → is_inward_expr (expr.Tuple es) ≡ list_all is_inward_expr es
inward-tuple es = ap is_inward_expr (sym (rolls-Tuple es)) ∙ fold-roll-Expr Bool inward_step (Expr-F.Tuple es) ∙ list_all-map (λ b. b) is_inward_expr es

seconds : {K : Type 0} (fields : List (K × Expr)) → list_all (λ (f : K × Bool). f.1) (map (λ f. (f.0, is_inward_expr f.1)) fields) ≡ list_all (λ f. is_inward_expr f.1) fields
seconds [] = refl
seconds (f ∷ fields) = ap (λ b. is_inward_expr f.1 && b) (seconds fields)

pub inward-record : (path : Path) (fields : List (Bytes × Expr)) → is_inward_expr (expr.Record path fields) ≡ list_all (λ f. is_inward_expr f.1) fields
inward-record path fields = ap is_inward_expr (sym (rolls-Record path fields)) ∙ fold-roll-Expr Bool inward_step (Expr-F.Record path fields) ∙ seconds fields

pub inward-words : (path : Path) (repr : Repr) (words : List (ℕ × Expr)) → is_inward_expr (expr.FlagsOfWords path repr words) ≡ list_all (λ f. is_inward_expr f.1) words
inward-words path repr words = ap is_inward_expr (sym (rolls-FlagsOfWords path repr words)) ∙ fold-roll-Expr Bool inward_step (Expr-F.FlagsOfWords path repr words) ∙ seconds words
