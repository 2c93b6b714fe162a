use Rattle.std.proofs.Common.{length}
use Rattle.wrapper_trace.proofs.conditions.+core_result.Given as goal

abbrev pub decreases-core_result : goal.decreases-core_result
decreases-core_result l = length l.stmts.now
