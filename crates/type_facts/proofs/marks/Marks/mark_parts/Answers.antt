use Rattle.std.proofs.Common.{◌+◌, ◌∙◌, List, Bool, drop, sym, ap}
use Rattle.wit_model.specs.Parts.{parts}
use Rattle.type_facts.specs.Passes.{given, mark_all}
use Rattle.type_facts.proofs.Marking.{mark_all-given}
use Rattle.type_facts.proofs.marks.Marks.mark_parts.Goals as goal
use Rattle.wit_model.proofs.ListLemmas.{drop_at}

pub loop-nth-preserved : goal.loop-nth-preserved
loop-nth-preserved c =
    let rest = drop (c.loop-nth.nth + 1) (parts c.args.kind.now) in
    ap (λ (marks : List Bool). mark_all marks (given rest)) c.mark_part.ensures
    ∙ sym (ap (λ ps. mark_all c.loop-nth.self (given ps)) (drop_at (parts c.args.kind.now) c.loop-nth.nth c.part.result c.part.ensures) ∙ mark_all-given c.loop-nth.self c.part.result rest)
    ∙ c.loop-nth.invariant
