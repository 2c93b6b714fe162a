use Rattle.std.proofs.Common.{◌∙◌, List, length, ap, sym, subst}
use Rattle.wit_model.specs.declared.types.TypeDef.{TypeDef}
use Rattle.wit_model.specs.TypeOrder.{GoesDown}
use Rattle.wit_model.proofs.WellFormedLemmas.{types_go_down}
use Rattle.type_facts.specs.declared.reach.Reach.{Reach}
use Rattle.type_facts.specs.Passes.{AreReaches, AreEntries}
use Rattle.type_facts.proofs.Analysing.{analysis_of}
use Rattle.type_facts.proofs.types.Types.analyze.Goals as goal

pub all_reaches-requires : goal.all_reaches-requires
all_reaches-requires c = subst GoesDown (sym c.as_slice-types.ensures) (types_go_down c.args.resolve.now c.requires.unbroken)

pub of_world-requires : goal.of_world-requires
of_world-requires c = types_go_down c.args.resolve.now c.requires.unbroken

pub returns : goal.returns
returns c =
    let r = c.args.resolve.now in
    let same = c.as_slice-types.ensures in
    let uses = c.in_ok-uses.uses in
    let reaches = subst (λ (types : List TypeDef). AreReaches types c.in_ok-reaches.reaches) same c.in_ok-reaches.ensures.reach in
    let entries = subst (λ (known : List Reach). AreEntries c.as_slice-types.result.now known uses c.in_ok-entries.field-0) c.as_slice.ensures c.in_ok-entries.ensures.exact in
    analysis_of r c.args.world c.in_ok-reaches.reaches uses reaches c.in_ok-uses.ensures (record { entries = c.in_ok-entries.field-0 })
    (c.in_ok-entries.ensures.count ∙ ap (λ (types : List TypeDef). length types) same)
    (subst (λ (types : List TypeDef). AreEntries types c.in_ok-reaches.reaches uses c.in_ok-entries.field-0) same entries)
