use Rattle.std.proofs.Common.{◌≡◌, length}
use Rattle.type_defs.specs.Listing.{AreCovered}
use Rattle.type_defs.proofs.listing.covered_types.Given as goal

abbrev pub invariant-loop-i : goal.invariant-loop-i
invariant-loop-i l = record { count : length l.known ≡ l.i; covered : AreCovered l.types l.listed l.known }
