use Rattle.std.proofs.Common.{get_or, arith}
use Rattle.std.proofs.lemmas.Option.{slice_get-get_or}
use Rattle.wit_model.specs.declared.size.ArchitectureSize.{ArchitectureSize}
use Rattle.wit_layout.specs.Sizes.{field_offsets}
use Rattle.wit_layout.specs.Tree.{tree_at}
use Rattle.abi_driver.proofs.LowPlaces.{entry_sized, place_read, place_there}
use Rattle.abi_driver.proofs.PartOffsets.{beyond_at, pair_read}
use Rattle.abi_driver.proofs.memory.place.part_place.Goals as goal

pub field_offsets_of-offsets-requires : goal.field_offsets_of-offsets-requires
field_offsets_of-offsets-requires g c =
    let (types, knows, part) = c.requires in
    entry_sized c.sizes.result.now types (c.sizes.ensures types knows) c.args.id part.entry part.stands

pub bounds-offsets-nth : goal.bounds-offsets-nth
bounds-offsets-nth g c =
    let (types, knows, part) = c.requires in
    let pairs = c.field_offsets_of-offsets.ensures.own types part.entry (c.sizes.ensures types knows) part.stands part.own in
    place_there c.field_offsets_of-offsets.result.now (λ w. field_offsets w (tree_at types c.args.id.0)) pairs c.args.nth part.within

pub offset_bounds-offsets-nth : goal.offset_bounds-offsets-nth
offset_bounds-offsets-nth g c =
    let (types, knows, part) = c.requires in
    let pairs = c.field_offsets_of-offsets.ensures.own types part.entry (c.sizes.ensures types knows) part.stands part.own in
    omega (arith, c.field_offsets_of-offsets.type_inv.1, place_there c.field_offsets_of-offsets.result.now (λ w. field_offsets w (tree_at types c.args.id.0)) pairs c.args.nth part.within)

pub sum-requires : goal.sum-requires
sum-requires g c =
    let (types, knows, part) = c.requires in
    let pairs = c.field_offsets_of-offsets.ensures.own types part.entry (c.sizes.ensures types knows) part.stands part.own in
    let none : ArchitectureSize = record { bytes = 0; pointers = 0 } in
    let read = place_read c.field_offsets_of-offsets.result.now (λ w. field_offsets w (tree_at types c.args.id.0)) pairs c.args.nth part.within none in
    omega (arith, beyond_at c.args.offset (get_or c.field_offsets_of-offsets.result.now c.args.nth none) 8, read.1, part.low)

pub returns : goal.returns
returns g c = λ types entry knows at own.
    let (known, knows_all, part) = c.requires in
    let read = c.field_offsets_of-offsets in
    let none : ArchitectureSize = record { bytes = 0; pointers = 0 } in
    let place = get_or read.result.now c.args.nth none in
    let short = place_there read.result.now (λ w. field_offsets w (tree_at known c.args.id.0)) (read.ensures.own known part.entry (c.sizes.ensures known knows_all) part.stands part.own) c.args.nth part.within in
    (place, c.sum.ensures, pair_read read.result.now (λ w. field_offsets w (tree_at types c.args.id.0)) c.args.nth place (read.ensures.own types entry (c.sizes.ensures types knows) at own) (slice_get-get_or read.result.now c.args.nth none short))
