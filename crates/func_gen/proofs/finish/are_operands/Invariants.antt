use Rattle.std.proofs.Common.{◌≡◌, drop}
use Rattle.func_gen.specs.PartForms.{are_operands}
use Rattle.func_gen.proofs.finish.are_operands.Given as goal

abbrev pub invariant-loop-operand : goal.invariant-loop-operand
invariant-loop-operand l = are_operands (drop l.operand-index l.operands) ≡ are_operands l.operands
