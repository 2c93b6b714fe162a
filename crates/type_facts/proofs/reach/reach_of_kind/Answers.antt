use Rattle.std.proofs.Common.{◌∙◌, sym, ap, arith, ◌≤◌, length}
use Rattle.std.proofs.lemmas.List.{drop_all}
use Rattle.wit_model.specs.Parts.{parts}
use Rattle.type_facts.specs.Passes.{join, reach_of_parts, reach_of_kind}
use Rattle.type_facts.proofs.Reaching.{join_next, join-nothing}
use Rattle.type_facts.proofs.reach.reach_of_kind.Goals as goal

pub loop-nth-init : goal.loop-nth-init
unfolding reach_of_kind
loop-nth-init c = ap (λ own. join own (reach_of_parts c.args.known.now (parts c.args.kind.now))) c.own_of_kind-sum.ensures

pub loop-nth-preserved : goal.loop-nth-preserved
loop-nth-preserved c =
    rw (c.join-sum.ensures, c.reach_of_part.ensures) (join_next c.args.known.now c.loop-nth.sum (parts c.args.kind.now) c.loop-nth.nth c.part.result c.part.ensures ∙ c.loop-nth.invariant)

pub returns : goal.returns
returns c =
    let all : length (parts c.args.kind.now) ≤ c.loop-nth.nth = omega arith in
    sym (ap (λ rest. join c.loop-nth.sum (reach_of_parts c.args.known.now rest)) (drop_all c.loop-nth.nth (parts c.args.kind.now) all) ∙ join-nothing c.loop-nth.sum) ∙ c.loop-nth.invariant
