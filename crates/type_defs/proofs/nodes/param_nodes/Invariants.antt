use Rattle.std.proofs.Common.{◌≡◌, ◌≤◌, ◌+◌, Some, drop, map}
use Rattle.type_defs.specs.Nodes.{capped, nodes_in}
use Rattle.type_defs.proofs.nodes.param_nodes.Given as goal

abbrev pub invariant-loop-p : goal.invariant-loop-p
invariant-loop-p l = record {
  few : l.count ≤ 65537;
  rest : capped (l.count + nodes_in l.known (map (λ p. Some p.ty) (drop l.p-index l.params))) ≡ capped (nodes_in l.known (map (λ p. Some p.ty) l.params));
}
