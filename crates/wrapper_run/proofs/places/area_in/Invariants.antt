use Rattle.std.proofs.Common.{◌≡◌, drop}
use Rattle.wrapper_run.specs.Places.{area_in}
use Rattle.wrapper_run.proofs.places.area_in.Given as goal

abbrev pub invariant-loop-item : goal.invariant-loop-item
invariant-loop-item l = area_in (drop l.item-index l.items) ≡ area_in l.items
