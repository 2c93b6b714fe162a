-- One level of statements, arms and blocks: their text, their names, and what they name of `_rt`.
use Rattle.std.proofs.Common.{◌≡◌, Bool, ◌&&◌, List, ◌++◌, sym, ap, ◌∙◌}
use Rattle.std.specs.List.{flat_map, list_all}
use Rattle.std.proofs.lemmas.List.Folds.{flat_map-map, list_all-map}
use Rattle.wit_model.specs.Bytes.{Bytes}
use Rattle.rust_tree.specs.declared.expr.Expr.{Expr}
use Rattle.rust_tree.specs.declared.runtime_item.RuntimeItem.{RuntimeItem}
use Rattle.rust_tree.specs.declared.stmt.Arm.{Arm, fold_out-Arm}
use Rattle.rust_tree.specs.declared.stmt.Block.{Block, fold_out-Block}
use Rattle.rust_tree.specs.declared.stmt.MatchNames.{MatchNames}
use Rattle.rust_tree.specs.declared.stmt.Stmt.{Stmt-F, fold-roll-Stmt}
use Rattle.rust_tree.specs.declared.stmt.Stmt.TheVariants as stmt
use Rattle.rust_tree.specs.declared.stmt.Stmt.TheVariants.{rolls-Match}
use Rattle.rust_tree.specs.Asked.{asked_arm_step, asked_block_step, asked_by_arm, asked_by_arm_pattern, asked_by_block, asked_by_expr, asked_by_stmt, asked_by_tail, asked_stmt_step}
use Rattle.rust_tree.specs.CodeText.{arm_open_text, arm_step, arm_text, block_step, block_text, match_close_text, match_open_text, stmt_step, stmt_text, tail_text}
use Rattle.rust_tree.specs.WellNamed.{are_match_names, is_absent_or, is_named_arm, is_named_arm_pattern, is_named_block, is_named_expr, is_named_stmt, named_arm_step, named_block_step, named_stmt_step}
use Rattle.rust_tree.specs.declared.print.word.matches.MatchWord.TheVariants.{CloseArm}
use Rattle.rust_tree.specs.Word.{match_word}

-- text

pub text-match : (bound : MatchNames) (e : Expr) (arms : List Arm) → stmt_text (stmt.Match bound e arms) ≡ match_open_text bound e ++ flat_map arm_text arms ++ match_close_text bound
text-match bound e arms =
    ap stmt_text (sym (rolls-Match bound e arms)) ∙ fold-roll-Stmt Bytes Bytes Bytes stmt_step arm_step block_step (Stmt-F.Match bound e arms)
    ∙ ap (λ t. match_open_text bound e ++ t ++ match_close_text bound) (flat_map-map (λ a. a) arm_text arms)

pub text-arm : (a : Arm) → arm_text a ≡ arm_open_text a.pattern ++ block_text a.body ++ match_word CloseArm
text-arm a = fold_out-Arm Bytes Bytes Bytes stmt_step arm_step block_step a

pub text-block : (b : Block) → block_text b ≡ flat_map stmt_text b.stmts ++ tail_text b.tail
text-block b = fold_out-Block Bytes Bytes Bytes stmt_step arm_step block_step b ∙ ap (λ t. t ++ tail_text b.tail) (flat_map-map (λ s. s) stmt_text b.stmts)

-- names

pub is_named-match : (bound : MatchNames) (e : Expr) (arms : List Arm) → is_named_stmt (stmt.Match bound e arms) ≡ (are_match_names bound && is_named_expr e && list_all is_named_arm arms)
is_named-match bound e arms =
    ap is_named_stmt (sym (rolls-Match bound e arms)) ∙ fold-roll-Stmt Bool Bool Bool named_stmt_step named_arm_step named_block_step (Stmt-F.Match bound e arms)
    ∙ ap (λ b. are_match_names bound && is_named_expr e && b) (list_all-map (λ a. a) is_named_arm arms)

pub is_named-arm : (a : Arm) → is_named_arm a ≡ (is_named_arm_pattern a.pattern && is_named_block a.body)
is_named-arm a = fold_out-Arm Bool Bool Bool named_stmt_step named_arm_step named_block_step a

pub is_named-block : (b : Block) → is_named_block b ≡ (list_all is_named_stmt b.stmts && is_absent_or is_named_expr b.tail)
is_named-block b =
    fold_out-Block Bool Bool Bool named_stmt_step named_arm_step named_block_step b
    ∙ ap (λ named. named && is_absent_or is_named_expr b.tail) (list_all-map (λ s. s) is_named_stmt b.stmts)

-- what they name of `_rt`

abbrev Items : Type 0
Items = List RuntimeItem

pub asked-match : (bound : MatchNames) (e : Expr) (arms : List Arm) → asked_by_stmt (stmt.Match bound e arms) ≡ asked_by_expr e ++ flat_map asked_by_arm arms
asked-match bound e arms =
    ap asked_by_stmt (sym (rolls-Match bound e arms)) ∙ fold-roll-Stmt Items Items Items asked_stmt_step asked_arm_step asked_block_step (Stmt-F.Match bound e arms)
    ∙ ap (λ items. asked_by_expr e ++ items) (flat_map-map (λ a. a) asked_by_arm arms)

pub asked-arm : (a : Arm) → asked_by_arm a ≡ asked_by_arm_pattern a.pattern ++ asked_by_block a.body
asked-arm a = fold_out-Arm Items Items Items asked_stmt_step asked_arm_step asked_block_step a

pub asked-block : (b : Block) → asked_by_block b ≡ flat_map asked_by_stmt b.stmts ++ asked_by_tail b.tail
asked-block b =
    fold_out-Block Items Items Items asked_stmt_step asked_arm_step asked_block_step b
    ∙ ap (λ items. items ++ asked_by_tail b.tail) (flat_map-map (λ s. s) asked_by_stmt b.stmts)
