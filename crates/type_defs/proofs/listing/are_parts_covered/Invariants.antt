use Rattle.std.proofs.Common.{◌≡◌, drop}
use Rattle.std.specs.List.{list_all}
use Rattle.wit_model.specs.Parts.{parts}
use Rattle.type_defs.specs.Listing.{covered_by}
use Rattle.type_defs.proofs.listing.are_parts_covered.Given as goal

abbrev pub invariant-loop-nth : goal.invariant-loop-nth
invariant-loop-nth l = list_all (covered_by l.known) (drop l.nth (parts l.kind)) ≡ list_all (covered_by l.known) (parts l.kind)
