use Rattle.std.proofs.Common.{◌∙◌, ◌&&◌, Bool, List, Some, ap, slice_get}
use Rattle.std.specs.List.{list_all}
use Rattle.wit_model.specs.declared.types.WitType.TheVariants.{Id}
use Rattle.type_defs.specs.FunctionTypes.{functions_pass}
use Rattle.type_defs.specs.Listing.{covered_by, may_list}
use Rattle.type_defs.proofs.ListingLemmas.{listed-whole}
use Rattle.type_defs.proofs.listing.keeps_listed.Goals as goal

pub returns : goal.returns
returns c =
    let types = c.args.types.now in
    let listed = c.args.listed.now in
    c.are_all_listed.ensures
    ∙ ap (λ (k : List Bool). list_all (λ id. may_list c.args.nth (slice_get types id.0) && covered_by k (Some (Id id))) listed && functions_pass (λ ty. covered_by k (Some ty)) c.args.world.now) c.as_slice.ensures
    ∙ listed-whole types c.requires listed c.in_ok-known.known c.in_ok-known.ensures.covered c.in_ok-known.ensures.count c.args.nth c.args.world.now
