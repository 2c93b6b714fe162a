use Rattle.std.proofs.Common.{subst, sym}
use Rattle.wit_model.specs.TypeOrder.{GoesDown}
use Rattle.wit_model.proofs.WellFormedLemmas.{types_go_down}
use Rattle.type_defs.proofs.listing.are_listed_well.Goals as goal

pub keeps_listing-requires : goal.keeps_listing-requires
keeps_listing-requires c = subst GoesDown (sym c.as_slice.ensures) (types_go_down c.args.resolve.now c.requires.unbroken)
