use Rattle.std.proofs.Common.{◌≡◌, map, drop}
use Rattle.std.specs.List.{list_any}
use Rattle.gen_accept.specs.Area.{needs_area_on}
use Rattle.gen_accept.proofs.area.any_needs_area.Given as goal

abbrev pub invariant-loop-function : goal.invariant-loop-function
invariant-loop-function l =
    list_any (needs_area_on l.side l.resolve.types) (map (λ f. f.now) (drop l.function-index l.functions)) ≡ list_any (needs_area_on l.side l.resolve.types) (map (λ f. f.now) l.functions)
