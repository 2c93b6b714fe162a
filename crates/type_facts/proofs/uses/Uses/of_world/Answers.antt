use Rattle.std.proofs.Common.{◌∙◌, List, length, ap, subst}
use Rattle.wit_model.specs.declared.types.TypeDef.{TypeDef}
use Rattle.type_facts.specs.declared.uses.Uses.{Uses}
use Rattle.type_facts.specs.Passes.{with_marked, no_uses, Spreads}
use Rattle.type_facts.specs.Roots.{world_roots}
use Rattle.type_facts.proofs.Using.{uses_exact, length-marks}
use Rattle.type_facts.proofs.uses.Uses.of_world.Goals as goal

pub spread-requires-clause-count : goal.spread-requires-clause-count
spread-requires-clause-count c =
    let roots = world_roots c.args.resolve.now c.args.world in
    ap (λ (uses : Uses). length uses.borrowed) (c.mark_world.ensures ∙ ap (λ (uses : Uses). with_marked uses roots) c.in_ok-uses.ensures)
    ∙ length-marks (length c.as_slice-types.result.now) roots.borrowed

pub spread-requires-2-clause-count : goal.spread-requires-2-clause-count
spread-requires-2-clause-count c =
    let roots = world_roots c.args.resolve.now c.args.world in
    ap (λ (uses : Uses). length uses.owned) (c.mark_world.ensures ∙ ap (λ (uses : Uses). with_marked uses roots) c.in_ok-uses.ensures)
    ∙ length-marks (length c.as_slice-types.result.now) roots.owned

pub returns : goal.returns
returns c =
    let r = c.args.resolve.now in
    let roots = world_roots r c.args.world in
    let marked = c.mark_world.new.self in
    let same = c.as_slice-types.ensures in
    uses_exact r c.args.world marked c.spread.new.self c.spread-2.new.self
    (c.mark_world.ensures ∙ ap (λ (uses : Uses). with_marked uses roots) (c.in_ok-uses.ensures ∙ ap (λ (types : List TypeDef). no_uses (length types)) same))
    (subst (λ (types : List TypeDef). Spreads types marked.borrowed c.spread.new.self) same c.spread.ensures)
    (subst (λ (types : List TypeDef). Spreads types marked.owned c.spread-2.new.self) same c.spread-2.ensures)
