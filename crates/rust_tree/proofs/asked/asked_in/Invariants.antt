use Rattle.std.proofs.Common.{◌≡◌, ◌++◌, drop}
use Rattle.rust_tree.specs.Asked.{asked_in}
use Rattle.rust_tree.proofs.asked.asked_in.Given as goal

abbrev pub invariant-loop-item : goal.invariant-loop-item
invariant-loop-item l = l.asked ++ asked_in (drop l.item-index l.items) ≡ asked_in l.items
