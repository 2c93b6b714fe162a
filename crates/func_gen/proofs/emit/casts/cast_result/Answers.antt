use Rattle.std.proofs.Common.{ap, ◌∙◌}
use Rattle.func_gen.specs.Operand.{is_operand}
use Rattle.func_gen.proofs.OperandSteps.{whole_operand}
use Rattle.func_gen.proofs.emit.casts.cast_result.Goals as goal

pub returns-clause-operand : goal.returns-clause-operand
returns-clause-operand c = ap is_operand c.in_ok-copy.ensures ∙ whole_operand c.args.cast c.args.e.now c.requires.operand
