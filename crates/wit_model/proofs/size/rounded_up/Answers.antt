use Rattle.std.proofs.Common.{arith}
use Rattle.wit_model.proofs.Rounding.{rounded_multiple, rounded_other}
use Rattle.wit_model.proofs.size.rounded_up.Goals as goal

pub returns-then-past-eq0 : goal.returns-then-past-eq0
returns-then-past-eq0 c = rounded_multiple c.args.multiple c.args.n c.requires.some c.if-past-eq0.true

pub returns-else-past-eq0 : goal.returns-else-past-eq0
returns-else-past-eq0 c = rounded_other c.args.multiple c.args.n c.requires.some (omega arith)
