use Rattle.std.proofs.Common.{◌≡◌, drop}
use Rattle.std.specs.List.{enumerate_from, list_all}
use Rattle.type_defs.specs.Listing.{keeps_listing}
use Rattle.type_defs.proofs.listing.are_listed_well.Given as goal

abbrev pub invariant-loop-i : goal.invariant-loop-i
invariant-loop-i l =
    list_all (λ entry. keeps_listing l.resolve.types entry.0 entry.1) (enumerate_from l.i (drop l.i l.resolve.worlds))
    ≡ list_all (λ entry. keeps_listing l.resolve.types entry.0 entry.1) (enumerate_from 0 l.resolve.worlds)
