use Rattle.std.proofs.Common.{◌∙◌, sym}
use Rattle.wit_model.specs.Parts.{parts}
use Rattle.wit_model.specs.TypeOrder.{payload_below, parts_below}
use Rattle.wit_model.proofs.AllLemmas.{all_more, all_but}
use Rattle.wit_model.proofs.type_order.parts_below.Goals as goal

pub returns-then-not-payload_below : goal.returns-then-not-payload_below
unfolding parts_below
returns-then-not-payload_below c =
    sym (all_but (λ part. payload_below c.args.bound part) (parts c.args.kind.now) c.loop-nth.nth c.part.result c.part.ensures (sym c.payload_below.ensures ∙ c.if-not-payload_below.true))

pub loop-nth-preserved : goal.loop-nth-preserved
loop-nth-preserved c =
    all_more (λ part. payload_below c.args.bound part) (parts c.args.kind.now) c.loop-nth.nth c.part.result c.part.ensures c.loop-nth.invariant (sym c.payload_below.ensures ∙ c.if-not-payload_below.false)
