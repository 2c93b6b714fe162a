use Rattle.std.proofs.Common.{arith}
use Rattle.std.proofs.lemmas.Option.{slice_get-get_or}
use Rattle.wit_layout.specs.inside.Stored.{seen_type}
use Rattle.wit_layout.proofs.PartSteps.{one_gathered}
use Rattle.wit_layout.proofs.RecordSteps.{members_small, seen_by}
use Rattle.wit_layout.proofs.size_align.SizeAlign.members.Goals as goal

pub loop-ty-preserved : goal.loop-ty-preserved
loop-ty-preserved c =
    let layouts = c.args.self.now.layouts in
    let items = c.args.types.now in
    let at = c.loop-ty.ty-index in
    let here = slice_get-get_or items at _ c.loop-ty-test.true in
    let four = seen_by 2 _ layouts _ c.extent_of.result c.as_slice.ensures c.extent_of.ensures.four in
    let eight = seen_by 3 _ layouts _ c.extent_of.result c.as_slice.ensures c.extent_of.ensures.eight in
    let more = c.with-all.ensures in
    one_gathered (seen_type 2 layouts) (seen_type 3 layouts) items at _ here c.extent_of.result four eight c.loop-ty.all c.with-all.result more.end4 more.end8 more.greatest4 more.greatest8 more.bounded c.loop-ty.invariant

pub with-all-requires : goal.with-all-requires
with-all-requires c =
    let small = members_small c.args.self.now c.args.types.now c.loop-ty.ty-index c.loop-ty.all.end.at8 c.requires.room c.loop-ty.auto.ty-index-end c.loop-ty.invariant.bounded c.loop-ty.invariant.end8 in
    omega (arith, small)

pub returns-clause-bounded : goal.returns-clause-bounded
returns-clause-bounded c =
    members_small c.args.self.now c.args.types.now c.loop-ty.ty-index c.loop-ty.all.end.at8 c.requires.room c.loop-ty.auto.ty-index-end c.loop-ty.invariant.bounded c.loop-ty.invariant.end8
