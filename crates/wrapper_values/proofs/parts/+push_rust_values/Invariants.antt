use Rattle.std.proofs.Common.{length}
use Rattle.wrapper_values.proofs.parts.+push_rust_values.Given as goal

abbrev pub decreases-push_rust_values : goal.decreases-push_rust_values
decreases-push_rust_values l = length l.vs.now
