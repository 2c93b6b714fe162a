use Rattle.std.proofs.Common.{◌≡◌, ◌+◌, ◌++◌, length, drop}
use Rattle.rust_tree.specs.Tree.{wrapper_count, wrappers_from}
use Rattle.rust_tree.proofs.wrappers.wrappers_of.Given as goal

abbrev pub invariant-loop-item : goal.invariant-loop-item
invariant-loop-item l = record {
  left : l.at + wrapper_count (drop l.item-index l.items) ≡ length l.places;
  same : l.wrappers ++ wrappers_from l.next (drop l.item-index l.items) (drop l.at l.places) ≡ wrappers_from 1 l.items l.places;
}
