use Rattle.std.proofs.Common.{length}
use Rattle.wrapper_values.proofs.parts.+bind_parts.Given as goal

abbrev pub decreases-bind_parts : goal.decreases-bind_parts
decreases-bind_parts l = length l.names.now
