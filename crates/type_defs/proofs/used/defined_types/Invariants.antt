use Rattle.std.proofs.Common.{◌≡◌, ◌++◌, [], cond, drop, map}
use Rattle.std.specs.List.{flat_map}
use Rattle.type_defs.specs.PrintedTypes.{entry_at}
use Rattle.type_defs.specs.Used.{defined_types, is_wanted_at}
use Rattle.type_defs.proofs.used.defined_types.Given as goal

abbrev pub invariant-loop-own : goal.invariant-loop-own
invariant-loop-own l =
    map (λ t. t.now) l.defined.items
    ++ flat_map (λ id. cond (is_wanted_at l.opts l.resolve l.world id.0) (entry_at l.resolve.types id) []) (drop l.own-index l.own-items)
    ≡ defined_types l.opts l.resolve l.world
