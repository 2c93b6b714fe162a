use Rattle.std.proofs.Common.{◌≡◌, ◌++◌, drop}
use Rattle.func_gen.specs.CallForms.{exprs}
use Rattle.func_gen.proofs.emit.calls.expressions.Given as goal

abbrev pub invariant-loop-operand : goal.invariant-loop-operand
invariant-loop-operand l = l.es ++ exprs (drop l.operand-index l.operands) ≡ exprs l.operands
