-- An operand as it is seen: its expression, and whether it denotes a number that a core word is kept as.
use Rattle.std.specs.Prelude.{Bool}
use Rattle.rust_tree.specs.declared.expr.Expr.{Expr}

pub record OperandView : Type 0 where
  pub expr : Expr
  pub kept : Bool
