use Rattle.std.proofs.Common.{◌≡◌, ℕ, nat_eq, take}
use Rattle.std.specs.HashSet as set
use Rattle.type_defs.specs.Listing.{lists}
use Rattle.type_defs.proofs.listing.listed_set.Given as goal

abbrev pub invariant-loop-id : goal.invariant-loop-id
invariant-loop-id l = (nth : ℕ) → set.contains nat_eq l.set nth ≡ lists (take l.id-index l.listed) nth
