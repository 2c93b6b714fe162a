use Rattle.std.proofs.Common.{ap}
use Rattle.wit_layout.specs.Extent.{Extent}
use Rattle.wit_layout.proofs.FillSteps.{extent_filled}
use Rattle.wit_layout.proofs.size_align.SizeAlign.size.Goals as goal

pub returns : goal.returns
returns c = λ types filled.
    let ty = c.args.ty.now in
    let same = extent_filled c.as_slice.result.now c.args.self.now.layouts types ty c.extent_of.result c.as_slice.ensures c.requires c.extent_of.ensures.four c.extent_of.ensures.eight filled in
    (ap (λ (e : Extent). e.bytes) same.0, ap (λ (e : Extent). e.bytes) same.1)
