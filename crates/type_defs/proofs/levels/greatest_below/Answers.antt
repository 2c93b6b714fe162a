use Rattle.std.proofs.Common.{◌∙◌, sym, ap, arith, ◌≤◌, length}
use Rattle.std.proofs.lemmas.List.{drop_all}
use Rattle.wit_model.specs.Parts.{parts}
use Rattle.type_defs.specs.Levels.{greater, greatest, greatest_below}
use Rattle.type_defs.proofs.LevelLemmas.{greatest_next, greater-nothing, nothing-greater}
use Rattle.type_defs.proofs.levels.greatest_below.Goals as goal

pub loop-nth-init : goal.loop-nth-init
unfolding greatest_below
loop-nth-init c = nothing-greater (greatest c.args.known.now (parts c.args.kind.now))

pub loop-nth-preserved : goal.loop-nth-preserved
loop-nth-preserved c =
    rw (c.greater-greatest.ensures, c.level_of.ensures) (greatest_next c.args.known.now c.loop-nth.greatest (parts c.args.kind.now) c.loop-nth.nth c.part.result c.part.ensures ∙ c.loop-nth.invariant)

pub returns : goal.returns
returns c =
    let all : length (parts c.args.kind.now) ≤ c.loop-nth.nth = omega arith in
    sym (ap (λ rest. greater c.loop-nth.greatest (greatest c.args.known.now rest)) (drop_all c.loop-nth.nth (parts c.args.kind.now) all) ∙ greater-nothing c.loop-nth.greatest) ∙ c.loop-nth.invariant
