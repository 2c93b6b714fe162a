use Rattle.std.proofs.Common.{◌≡◌, map}
use Rattle.rust_tree.specs.declared.item.Item.TheVariants as item
use Rattle.rust_gen.proofs.tree.type_items.Given as goal

abbrev pub invariant-loop-item : goal.invariant-loop-item
invariant-loop-item l = l.items ≡ map item.Type l.yielded
