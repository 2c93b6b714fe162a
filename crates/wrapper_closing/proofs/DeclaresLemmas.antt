-- One level of whether code declares an area, or a core import.
use Rattle.std.proofs.Common.{◌≡◌, Bool, List, sym, ap, ◌∙◌}
use Rattle.std.specs.List.{list_all}
use Rattle.std.proofs.lemmas.List.Folds.{list_all-map}
use Rattle.rust_tree.specs.declared.expr.Expr.{Expr}
use Rattle.rust_tree.specs.declared.stmt.Arm.{Arm, fold-roll-Arm, out-Arm, roll-out-Arm}
use Rattle.rust_tree.specs.declared.stmt.Block.{Block, fold-roll-Block, out-Block, roll-out-Block}
use Rattle.rust_tree.specs.declared.stmt.MatchNames.{MatchNames}
use Rattle.rust_tree.specs.declared.stmt.Stmt.{Stmt-F, fold-roll-Stmt}
use Rattle.rust_tree.specs.declared.stmt.Stmt.TheVariants as stmt
use Rattle.rust_tree.specs.declared.stmt.Stmt.TheVariants.{rolls-Match}
use Rattle.wrapper_closing.specs.Declares.{Declaration, arm_without_step, block_without_step, declare_none, is_arm_without, is_block_without, is_without, without_step}

module _ (what : Declaration) where
  pub without-match : (names : MatchNames) (e : Expr) (arms : List Arm) → is_without what (stmt.Match names e arms) ≡ list_all (is_arm_without what) arms
  without-match names e arms =
      ap (is_without what) (sym (rolls-Match names e arms)) ∙ fold-roll-Stmt Bool Bool Bool (without_step what) arm_without_step block_without_step (Stmt-F.Match names e arms)
      ∙ list_all-map (λ b. b) (is_arm_without what) arms

  pub without-arm : (a : Arm) → is_arm_without what a ≡ is_block_without what (out-Arm a).body
  without-arm a = ap (is_arm_without what) (sym (roll-out-Arm a)) ∙ fold-roll-Arm Bool Bool Bool (without_step what) arm_without_step block_without_step (out-Arm a)

  pub without-block : (b : Block) → is_block_without what b ≡ declare_none what (out-Block b).stmts
  without-block b =
      ap (is_block_without what) (sym (roll-out-Block b)) ∙ fold-roll-Block Bool Bool Bool (without_step what) arm_without_step block_without_step (out-Block b)
      ∙ list_all-map (λ b. b) (is_without what) (out-Block b).stmts
