use Rattle.std.proofs.Common.{◌≡◌, [], drop}
use Rattle.type_defs.specs.Nodes.{nodes_behind}
use Rattle.type_defs.proofs.nodes.node_counts.Given as goal

abbrev pub invariant-loop-entry : goal.invariant-loop-entry
invariant-loop-entry l = nodes_behind l.known (drop l.entry-index l.types) ≡ nodes_behind [] l.types
