use Rattle.std.proofs.Common.{◌<◌, ◌^◌, length, arith}
use Rattle.wit_model.specs.Parts.{parts}
use Rattle.wit_layout.specs.inside.Stored.{seen_payload}
use Rattle.wit_layout.proofs.PartSteps.{part_below, parts_short, one_gathered}
use Rattle.wit_layout.proofs.kind.parts_of.Goals as goal

pub extent_of_payload-requires : goal.extent_of_payload-requires
extent_of_payload-requires c =
    part_below _ c.args.kind.now c.loop-nth.nth c.part.result c.requires.below c.part.ensures

pub with-all-requires : goal.with-all-requires
with-all-requires c =
    let short : length (parts c.args.kind.now) < 2 ^ 32 = parts_short c.args.kind.now c.requires.numbered in
    omega arith

pub loop-nth-preserved : goal.loop-nth-preserved
loop-nth-preserved c =
    let layouts = c.args.layouts.now in
    let here = c.extent_of_payload.ensures in
    let more = c.with-all.ensures in
    one_gathered (seen_payload 2 layouts) (seen_payload 3 layouts) (parts c.args.kind.now) c.loop-nth.nth c.part.result c.part.ensures c.extent_of_payload.result here.four here.eight c.loop-nth.all c.with-all.result more.end4 more.end8 more.greatest4 more.greatest8 more.bounded c.loop-nth.invariant
