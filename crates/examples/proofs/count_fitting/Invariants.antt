use Rattle.std.proofs.Common.{◌≤◌}
use Rattle.examples.proofs.count_fitting.Given as goal

abbrev pub invariant-loop-file : goal.invariant-loop-file
invariant-loop-file g l = l.count ≤ l.file-index
