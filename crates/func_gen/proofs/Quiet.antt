-- Operands make no call, whatever they are evaluated in.
use Rattle.std.proofs.Common.{◌≡◌, true}
use Rattle.rust_tree.specs.declared.expr.Expr.{Expr}
use Rattle.wrapper_values.specs.Setting.{Setting}
use Rattle.wrapper_run.specs.Inward.{CallsNothing}
use Rattle.wrapper_run.specs.Run.{eval}
use Rattle.wrapper_run.proofs.InwardCalls.{expr_quiet}
use Rattle.func_gen.specs.Operand.{is_operand}
use Rattle.func_gen.proofs.InwardForms.{operand_inward}

pub quiet_operand : (w : Setting) (e : Expr) → is_operand e ≡ true → CallsNothing (eval w e)
quiet_operand w e ok = expr_quiet w e (operand_inward e ok)
