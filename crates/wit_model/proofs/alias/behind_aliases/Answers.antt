use Rattle.std.proofs.Common.{◌∙◌, sym}
use Rattle.wit_model.proofs.AliasLemmas.{next_below, dealias-last, dealias-next}
use Rattle.wit_model.proofs.alias.behind_aliases.Goals as goal

pub loop-next-preserved : goal.loop-next-preserved
loop-next-preserved c =
    sym (dealias-next c.args.types.now c.requires c.loop-next.end c.in-Some.next (sym c.next_alias.ensures ∙ c.in-Some.is)) ∙ c.loop-next.invariant

pub loop-next-smaller : goal.loop-next-smaller
loop-next-smaller c = next_below c.args.types.now c.requires c.loop-next.end c.in-Some.next (sym c.next_alias.ensures ∙ c.in-Some.is)

pub returns : goal.returns
returns c =
    sym (dealias-last c.args.types.now c.requires c.loop-next.end (sym c.next_alias.ensures ∙ c.in_default.is)) ∙ c.loop-next.invariant
