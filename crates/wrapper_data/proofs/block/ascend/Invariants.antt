use Rattle.std.proofs.Common.{◌≡◌, drop}
use Rattle.wrapper_data.specs.Heap.{are_cells}
use Rattle.wrapper_data.proofs.block.ascend.Given as goal

abbrev pub invariant-loop-cell : goal.invariant-loop-cell
invariant-loop-cell l = are_cells l.low l.size (drop l.cell-index l.cells) ≡ are_cells 0 l.size l.cells
