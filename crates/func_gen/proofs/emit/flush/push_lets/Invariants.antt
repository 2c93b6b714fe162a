use Rattle.std.proofs.Common.{◌≡◌, ◌++◌, drop}
use Rattle.func_gen.specs.FlushForms.{lets_of}
use Rattle.func_gen.proofs.emit.flush.push_lets.Given as goal

abbrev pub invariant-loop-i : goal.invariant-loop-i
invariant-loop-i l = l.stmts ++ lets_of (drop l.i l.names) (drop l.i l.es) ≡ l.initial.stmts ++ lets_of l.names l.es
