use Rattle.std.proofs.Common.{◌≡◌, [], drop, take}
use Rattle.std.specs.HashSet as set
use Rattle.std.specs.List.{list_any}
use Rattle.gen_accept.specs.Clash.{clash_behind}
use Rattle.gen_accept.proofs.ClashLemmas.{Key, is_key_of, same_key}
use Rattle.gen_accept.proofs.clash.clash_in.Given as goal

abbrev pub invariant-loop-d : goal.invariant-loop-d
invariant-loop-d l = record {
  seen : (k : Key) → set.contains same_key l.seen k ≡ list_any (is_key_of k) (take l.d-index l.scope.names);
  rest : clash_behind l.scope (take l.d-index l.scope.names) (drop l.d-index l.scope.names) ≡ clash_behind l.scope [] l.scope.names;
}
