use Rattle.std.proofs.Common.{◌≡◌, drop}
use Rattle.std.specs.List.{list_all}
use Rattle.gen_accept.specs.DeclaredNames.{has_distinct_names}
use Rattle.gen_accept.proofs.names.have_distinct_names.Given as goal

abbrev pub invariant-loop-world : goal.invariant-loop-world
invariant-loop-world l = list_all has_distinct_names (drop l.world-index l.worlds) ≡ list_all has_distinct_names l.worlds
