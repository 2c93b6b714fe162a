use Rattle.std.proofs.Common.{◌+◌, ◌∙◌, get_or, ap, arith}
use Rattle.std.proofs.lemmas.Option.{slice_get-get_or}
use Rattle.wit_layout.specs.Extent.{places}
use Rattle.wit_layout.proofs.RecordSteps.{seen_by, offset_seen, members4, members8}
use Rattle.wit_layout.proofs.RunningSteps.{front_small, end_next}
use Rattle.wit_layout.proofs.size_align.SizeAlign.next_offset.Goals as goal

pub returns-clause-offset : goal.returns-clause-offset
returns-clause-offset c = λ table filled.
    let sizes = c.args.self.now in
    let items = c.args.types.now in
    let nth = c.args.running.now.nth in
    let extent = c.extent_of-here in
    let here = slice_get-get_or items nth _ c.requires.within in
    let four = seen_by 2 _ sizes.layouts _ extent.result c.as_slice.ensures extent.ensures.four in
    let eight = seen_by 3 _ sizes.layouts _ extent.result c.as_slice.ensures extent.ensures.eight in
    let at4 = offset_seen 2 sizes.layouts items nth _ extent.result _ _ here four c.requires.behind.0 (c.size.ensures.four ∙ c.aligned-place.ensures.four) in
    let at8 = offset_seen 3 sizes.layouts items nth _ extent.result _ _ here eight c.requires.behind.1 (c.size.ensures.eight ∙ c.aligned-place.ensures.eight) in
    (at4 ∙ ap (λ ps. get_or (places ps 0) nth 0) (members4 sizes items c.requires.sizes table filled), at8 ∙ ap (λ ps. get_or (places ps 0) nth 0) (members8 sizes items c.requires.sizes table filled))

pub aligned-place-requires-clause-room4 : goal.aligned-place-requires-clause-room4
aligned-place-requires-clause-room4 c =
    let small = front_small c.args.self.now c.args.types.now c.args.running.now.nth _ c.requires.room c.requires.behind.1 in
    omega (arith, small, c.args.running.now.is_size.0)

pub aligned-place-requires-clause-room8 : goal.aligned-place-requires-clause-room8
aligned-place-requires-clause-room8 c =
    let small = front_small c.args.self.now c.args.types.now c.args.running.now.nth _ c.requires.room c.requires.behind.1 in
    omega (arith, small)

pub plus-requires-clause-fits4 : goal.plus-requires-clause-fits4
plus-requires-clause-fits4 c =
    let small = front_small c.args.self.now c.args.types.now c.args.running.now.nth _ c.requires.room c.requires.behind.1 in
    omega (arith, small, c.args.running.now.is_size.0, c.aligned-place.ensures.near4, c.bytes.ensures.size.0, c.bytes.ensures.eight, c.extent_of-here.result.bounded)

pub plus-requires-clause-fits8 : goal.plus-requires-clause-fits8
plus-requires-clause-fits8 c =
    let small = front_small c.args.self.now c.args.types.now c.args.running.now.nth _ c.requires.room c.requires.behind.1 in
    omega (arith, small, c.aligned-place.ensures.near8, c.bytes.ensures.eight, c.extent_of-here.result.bounded)

pub returns-clause-behind : goal.returns-clause-behind
returns-clause-behind c =
    let sizes = c.args.self.now in
    let items = c.args.types.now in
    let nth = c.args.running.now.nth in
    let extent = c.extent_of-here in
    let here = slice_get-get_or items nth _ c.requires.within in
    let four = seen_by 2 _ sizes.layouts _ extent.result c.as_slice.ensures extent.ensures.four in
    let eight = seen_by 3 _ sizes.layouts _ extent.result c.as_slice.ensures extent.ensures.eight in
    let place = c.aligned-place in (
      end_next 2 sizes items nth _ extent.result _ _ _ here four c.requires.behind.0 place.ensures.four (c.plus.ensures.four ∙ ap (λ k. place.result.at4 + k) c.bytes.ensures.four),
      end_next 3 sizes items nth _ extent.result _ _ _ here eight c.requires.behind.1 place.ensures.eight (c.plus.ensures.eight ∙ ap (λ k. place.result.at8 + k) c.bytes.ensures.eight),
    )
