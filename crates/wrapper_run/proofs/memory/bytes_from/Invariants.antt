use Rattle.std.proofs.Common.{drop}
use Rattle.wrapper_run.specs.Memory.{bytes_from}
use Rattle.wrapper_run.proofs.MemoryLemmas.{Reads}
use Rattle.wrapper_run.proofs.memory.bytes_from.Given as goal

-- the bytes so far, with those of the cells that are left
abbrev pub invariant-loop-cell : goal.invariant-loop-cell
invariant-loop-cell l = Reads l.bytes (drop l.cell-index l.cells) l.next l.left (bytes_from l.cells l.offset l.size)
