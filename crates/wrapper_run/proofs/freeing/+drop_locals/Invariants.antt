use Rattle.std.proofs.Common.{length}
use Rattle.wrapper_run.proofs.freeing.+drop_locals.Given as goal

abbrev pub decreases-drop_locals : goal.decreases-drop_locals
decreases-drop_locals l = length l.locals.now
