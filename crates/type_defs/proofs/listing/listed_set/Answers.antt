use Rattle.std.proofs.Common.{get_or}
use Rattle.std.proofs.lemmas.Option.{slice_get-get_or}
use Rattle.type_defs.proofs.ListingLemmas.{first-id, lists-more}
use Rattle.type_defs.proofs.listing.listed_set.Goals as goal

pub loop-id-preserved : goal.loop-id-preserved
loop-id-preserved c =
    let listed = c.args.listed.now in
    let n = c.loop-id.id-index in
    λ nth. lists-more listed n (get_or listed n first-id) nth (slice_get-get_or listed n first-id c.loop-id-test.true) (c.loop-id.invariant nth) (c.in_ok-insert.ensures.updates.0 nth)
