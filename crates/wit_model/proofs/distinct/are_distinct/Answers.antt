use Rattle.std.proofs.Common.{◌-◌, ◌∙◌, sym, arith}
use Rattle.wit_model.proofs.DistinctLemmas.{text_before, distinct-rest, distinct-more, any-more}
use Rattle.wit_model.proofs.distinct.are_distinct.Goals as goal

pub loop-left-preserved : goal.loop-left-preserved
loop-left-preserved c = (
  omega arith,
  λ k. any-more c.args.texts.now c.loop-left.left c.loop-left-test.true c.loop-left.invariant.0 k.now (c.loop-left.invariant.1 k) (c.in_ok-insert.ensures.updates.0 k),
  distinct-more c.args.texts.now c.loop-left.left c.loop-left-test.true c.loop-left.invariant.0 c.loop-left.invariant.2 (c.loop-left.invariant.1 (text_before c.args.texts.now c.loop-left.left)) c.in_ok-insert.ensures.added ∙ c.if-not-branch.false,
)

pub returns-then-not-branch : goal.returns-then-not-branch
returns-then-not-branch c =
    sym (distinct-rest (c.loop-left.left - 1) c.args.texts.now (distinct-more c.args.texts.now c.loop-left.left c.loop-left-test.true c.loop-left.invariant.0 c.loop-left.invariant.2 (c.loop-left.invariant.1 (text_before c.args.texts.now c.loop-left.left)) c.in_ok-insert.ensures.added ∙ c.if-not-branch.true))
