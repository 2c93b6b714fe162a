use Rattle.std.proofs.Common.{◌≡◌, drop}
use Rattle.std.specs.Prelude.{fold}
use Rattle.std.specs.List.{flat_map}
use Rattle.rust_tree.specs.Runtime.{needed_items}
use Rattle.rust_gen.specs.Runtime.{with_asked}
use Rattle.rust_gen.proofs.runtime.ask_for_needs.Given as goal

abbrev pub invariant-loop-part : goal.invariant-loop-part
invariant-loop-part l = fold with_asked l.items (flat_map needed_items (drop l.part-index l.parts)) ≡ fold with_asked l.initial.items (flat_map needed_items l.parts)
