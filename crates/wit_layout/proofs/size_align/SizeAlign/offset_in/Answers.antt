use Rattle.std.proofs.Common.{◌∙◌, get_or, ap}
use Rattle.std.proofs.lemmas.Option.{slice_get-get_or}
use Rattle.wit_layout.specs.Extent.{places}
use Rattle.wit_layout.proofs.RecordSteps.{ends_in_room, front_in_room, front_have_sizes, seen_by, offset_seen, members4, members8}
use Rattle.wit_layout.proofs.size_align.SizeAlign.offset_in.Goals as goal

pub members-before-requires-clause-sizes : goal.members-before-requires-clause-sizes
members-before-requires-clause-sizes c = front_have_sizes c.args.self.now c.args.nth c.args.types.now c.requires.sizes

pub members-before-requires-clause-room : goal.members-before-requires-clause-room
members-before-requires-clause-room c =
    front_in_room c.args.self.now c.args.types.now c.args.nth c.requires.within (ends_in_room c.args.self.now c.args.types.now c.requires.room)

pub returns : goal.returns
returns c = λ table filled.
    let sizes = c.args.self.now in
    let items = c.args.types.now in
    let nth = c.args.nth in
    let extent = c.extent_of-here in
    let before = c.members-before.ensures in
    let here = slice_get-get_or items nth _ c.requires.within in
    let four = seen_by 2 _ sizes.layouts _ extent.result c.as_slice.ensures extent.ensures.four in
    let eight = seen_by 3 _ sizes.layouts _ extent.result c.as_slice.ensures extent.ensures.eight in
    let at4 = offset_seen 2 sizes.layouts items nth _ extent.result _ _ here four before.end4 (c.size.ensures.four ∙ c.aligned.ensures.four) in
    let at8 = offset_seen 3 sizes.layouts items nth _ extent.result _ _ here eight before.end8 (c.size.ensures.eight ∙ c.aligned.ensures.eight) in
    (at4 ∙ ap (λ ps. get_or (places ps 0) nth 0) (members4 sizes items c.requires.sizes table filled), at8 ∙ ap (λ ps. get_or (places ps 0) nth 0) (members8 sizes items c.requires.sizes table filled))
