use Rattle.std.proofs.Common.{◌≡◌, drop}
use Rattle.wrapper_data.specs.Heap.{are_apart}
use Rattle.wrapper_data.proofs.heap.are_apart.Given as goal

abbrev pub invariant-loop-i : goal.invariant-loop-i
invariant-loop-i l = are_apart (drop l.i l.blocks) ≡ are_apart l.blocks
