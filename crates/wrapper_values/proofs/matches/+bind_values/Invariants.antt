use Rattle.std.proofs.Common.{length}
use Rattle.wrapper_values.proofs.matches.+bind_values.Given as goal

abbrev pub decreases-bind_values : goal.decreases-bind_values
decreases-bind_values l = length l.names.now
