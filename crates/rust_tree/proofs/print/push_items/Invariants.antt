use Rattle.std.proofs.Common.{◌≡◌, ◌++◌, drop}
use Rattle.std.specs.List.{flat_map}
use Rattle.rust_tree.specs.Text.{item_text}
use Rattle.rust_tree.proofs.print.push_items.Given as goal

abbrev pub invariant-loop-item : goal.invariant-loop-item
invariant-loop-item l = l.out ++ flat_map item_text (drop l.item-index l.items) ≡ l.initial.out ++ flat_map item_text l.items
