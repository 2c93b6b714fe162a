use Rattle.std.proofs.Common.{◌≡◌, ◌++◌}
use Rattle.wrapper_closing.proofs.block.push_all.Given as goal

abbrev pub invariant-loop-stmt : goal.invariant-loop-stmt
invariant-loop-stmt l = l.stmts ≡ l.initial.stmts ++ l.yielded
