use Rattle.std.proofs.lemmas.Option.{slice_get-get_or}
use Rattle.wit_layout.specs.inside.Stored.{seen_type}
use Rattle.wit_layout.proofs.PartSteps.{one_gathered}
use Rattle.wit_layout.proofs.RecordSteps.{members_large, seen_by}
use Rattle.wit_layout.proofs.size_align.SizeAlign.is_small_record.Goals as goal

pub loop-ty-preserved : goal.loop-ty-preserved
loop-ty-preserved c =
    let layouts = c.args.self.now.layouts in
    let items = c.args.types.now in
    let at = c.loop-ty.ty-index in
    let here = slice_get-get_or items at _ c.loop-ty-test.true in
    let four = seen_by 2 _ layouts _ c.extent_of.result c.as_slice.ensures c.extent_of.ensures.four in
    let eight = seen_by 3 _ layouts _ c.extent_of.result c.as_slice.ensures c.extent_of.ensures.eight in
    let more = c.with-all.ensures in
    one_gathered (seen_type 2 layouts) (seen_type 3 layouts) items at _ here c.extent_of.result four eight c.loop-ty.all c.with-all.result more.end4 more.end8 more.greatest4 more.greatest8 more.bounded c.loop-ty.invariant

pub returns-then-all-ge-TOO_LARGE : goal.returns-then-all-ge-TOO_LARGE
returns-then-all-ge-TOO_LARGE c =
    members_large c.args.self.now c.args.types.now c.loop-ty.ty-index c.loop-ty.all.end.at8 c.if-all-ge-TOO_LARGE.true c.loop-ty.invariant.end8
