use Rattle.std.proofs.Common.{◌≡◌, drop, find}
use Rattle.wrapper_run.specs.Memory.{holds}
use Rattle.wrapper_run.proofs.memory.holder.Given as goal

abbrev pub invariant-loop-b : goal.invariant-loop-b
invariant-loop-b l = find (holds l.address l.size) (drop l.b-index l.blocks) ≡ find (holds l.address l.size) l.blocks
