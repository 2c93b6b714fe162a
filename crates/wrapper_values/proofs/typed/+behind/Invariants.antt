use Rattle.std.proofs.Common.{length}
use Rattle.wrapper_values.proofs.typed.+behind.Given as goal

abbrev pub decreases-behind : goal.decreases-behind
decreases-behind l = length l.fuel.now
