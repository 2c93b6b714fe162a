use Rattle.std.proofs.Common.{length}
use Rattle.wrapper_values.proofs.locals.+change.Given as goal

abbrev pub decreases-change : goal.decreases-change
decreases-change l = length l.locals.now.items
