-- Each value of a list, a case or a map has one level less than it.
use Rattle.std.proofs.Common.{◌+◌, ◌*◌}
use Rattle.wrapper_trace.proofs.read_value.+value.Given as goal

abbrev pub decreases-value_of : goal.decreases-value_of
decreases-value_of l = 3 * l.levels

abbrev pub decreases-values_of : goal.decreases-values_of
decreases-values_of l = 3 * l.levels + 1

abbrev pub decreases-case_of : goal.decreases-case_of
decreases-case_of l = 3 * l.levels + 1

abbrev pub decreases-entries_of : goal.decreases-entries_of
decreases-entries_of l = 3 * l.levels + 2

abbrev pub decreases-entry_of : goal.decreases-entry_of
decreases-entry_of l = 3 * l.levels + 1
