use Rattle.std.proofs.Common.{◌≡◌, ◌++◌, drop}
use Rattle.func_gen.specs.FlushForms.{flushed}
use Rattle.func_gen.proofs.emit.flush.push_flushed.Given as goal

abbrev pub invariant-loop-i : goal.invariant-loop-i
invariant-loop-i l = l.results ++ flushed (drop l.i l.names) (drop l.i l.operands) ≡ l.initial.results ++ flushed l.names l.operands
