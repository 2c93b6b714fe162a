use Rattle.std.proofs.Common.{◌≡◌, ◌≤◌, ◌+◌, drop}
use Rattle.wit_model.specs.Parts.{parts}
use Rattle.type_defs.specs.Nodes.{capped, nodes_by, nodes_in}
use Rattle.type_defs.proofs.nodes.nodes_by.Given as goal

abbrev pub invariant-loop-nth : goal.invariant-loop-nth
invariant-loop-nth l = record {
  few : l.count ≤ 65537;
  rest : capped (l.count + nodes_in l.known (drop l.nth (parts l.kind))) ≡ nodes_by l.known l.kind;
}
