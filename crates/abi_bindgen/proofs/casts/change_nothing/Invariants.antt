use Rattle.std.proofs.Common.{◌≡◌, drop}
use Rattle.std.specs.List.{list_all}
use Rattle.abi_bindgen.specs.SlotCasts.{is_no_cast}
use Rattle.abi_bindgen.proofs.casts.change_nothing.Given as goal

-- the casts so far change nothing
abbrev pub invariant-loop-cast : goal.invariant-loop-cast
invariant-loop-cast l = list_all is_no_cast l.casts ≡ list_all is_no_cast (drop l.cast-index l.casts)
