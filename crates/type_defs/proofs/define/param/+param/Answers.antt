use Rattle.std.proofs.Common.{◌≡◌, ◌∙◌, ◌-◌, ◌+◌, ◌*◌, ◌<◌, true, length, IfOk, ap, subst, sym, arith}
use Rattle.std.specs.List.{list_all}
use Rattle.wit_model.specs.TypeOrder.{parts_below, payload_below, type_below}
use Rattle.wit_model.proofs.WellFormedLemmas.{types_go_down}
use Rattle.rust_tree.specs.declared.type_expr.TypeExpr.{TypeExpr}
use Rattle.type_defs.specs.ParamType.{is_text, lent_entry, lent_within}
use Rattle.type_defs.proofs.ParamLemmas.{entry-below, lent-level, lent-text, members-below, option-below, result-below, some-below, target-below}
use Rattle.type_defs.proofs.define.param.+param.Goals as goal

pub lent_unnamed-param_within-requires : goal.lent_unnamed-param_within-requires
lent_unnamed-param_within-requires t c =
    let bound = length c.args.resolve.now.types in
    let below : 4 * c.args.levels + 1 < t = omega (arith, c.decreases) in
    (below, (c.requires.facts, target-below bound c.in-Alias.ty (subst (λ k. parts_below bound k ≡ true) c.in-Alias.is c.requires.within)))

pub lent_unnamed-lent_parts-requires : goal.lent_unnamed-lent_parts-requires
lent_unnamed-lent_parts-requires t c =
    let bound = length c.args.resolve.now.types in
    let below : 4 * c.args.levels + 1 < t = omega (arith, c.decreases) in
    let members = members-below bound c.in-Tuple.parts (subst (λ k. parts_below bound k ≡ true) c.in-Tuple.is c.requires.within) in
    (below, (c.requires.facts, ap (list_all (type_below bound)) c.as_slice.ensures ∙ members))

pub lent_unnamed-lent_within-requires : goal.lent_unnamed-lent_within-requires
lent_unnamed-lent_within-requires t c =
    let bound = length c.args.resolve.now.types in
    let below : 4 * c.args.levels < t = omega (arith, c.decreases) in
    (below, (c.requires.facts, option-below bound c.in-Option.ty (subst (λ k. parts_below bound k ≡ true) c.in-Option.is c.requires.within)))

pub lent_unnamed-lent_payload-requires : goal.lent_unnamed-lent_payload-requires
lent_unnamed-lent_payload-requires t c =
    let bound = length c.args.resolve.now.types in
    let below : 4 * c.args.levels + 1 < t = omega (arith, c.decreases) in
    (below, (c.requires.facts, (result-below bound c.in-Result.ok c.in-Result.err (subst (λ k. parts_below bound k ≡ true) c.in-Result.is c.requires.within)).0))

pub lent_unnamed-lent_payload-requires-in-Result : goal.lent_unnamed-lent_payload-requires-in-Result
lent_unnamed-lent_payload-requires-in-Result t c =
    let bound = length c.args.resolve.now.types in
    let below : 4 * c.args.levels + 1 < t = omega (arith, c.decreases) in
    (below, (c.requires.facts, (result-below bound c.in-Result.ok c.in-Result.err (subst (λ k. parts_below bound k ≡ true) c.in-Result.is c.requires.within)).1))

pub lent_payload-lent_within-requires : goal.lent_payload-lent_within-requires
lent_payload-lent_within-requires t c =
    let bound = length c.args.resolve.now.types in
    let below : 4 * c.args.levels < t = omega (arith, c.decreases) in
    (below, (c.requires.facts, some-below bound c.in-Some.ty (subst (λ p. payload_below bound p ≡ true) c.in-Some.is c.requires.within)))

pub lent_within-is_text-requires : goal.lent_within-is_text-requires
lent_within-is_text-requires t c = types_go_down c.args.resolve.now c.requires.facts.checked.unbroken

pub lent_within-returns-then-is_text : goal.lent_within-returns-then-is_text
lent_within-returns-then-is_text t c =
    let is = lent-text c.args.resolve.now.types c.args.levels c.args.ty (sym c.is_text.ensures ∙ c.if-is_text.true) in
    subst (λ (e : TypeExpr). IfOk c.lent.result (λ printed. printed ≡ e)) (sym is) c.lent.ensures

pub lent_within-lent_unnamed-requires : goal.lent_within-lent_unnamed-requires
lent_within-lent_unnamed-requires t c =
    let types = c.args.resolve.now.types in
    let down = types_go_down c.args.resolve.now c.requires.facts.checked.unbroken in
    let some : 0 < c.args.levels = grind (arith, c.if-levels-eq0.false) in
    let below : 4 * (c.args.levels - 1) + 2 < t = omega (arith, some, c.decreases) in
    (below, (c.requires.facts, entry-below types c.in-Id.id.0 c.in-Some.entry.now down (sym c.in-Some.ensures)))

pub lent_within-returns-in-Some-name : goal.lent_within-returns-in-Some-name
lent_within-returns-in-Some-name t c =
    let types = c.args.resolve.now.types in
    let entry = c.in-Some.entry.now in
    let no-text = ap (is_text types) (sym c.in-Id.is) ∙ sym c.is_text.ensures ∙ c.if-is_text.false in
    let one = lent-level types c.args.levels c.in-Id.id entry (λ e. c.if-levels-eq0.false e) no-text (sym c.in-Some.ensures) in
    let same = ap (lent_within types c.args.levels) c.in-Id.is ∙ one ∙ ap (lent_entry types (lent_within types (c.args.levels - 1)) entry.kind) c.in-Some-name.is in
    subst (λ (e : TypeExpr). IfOk c.lent_name.result (λ printed. printed ≡ e)) (sym same) c.lent_name.ensures

pub lent_within-returns-in-None-name : goal.lent_within-returns-in-None-name
lent_within-returns-in-None-name t c =
    let types = c.args.resolve.now.types in
    let entry = c.in-Some.entry.now in
    let no-text = ap (is_text types) (sym c.in-Id.is) ∙ sym c.is_text.ensures ∙ c.if-is_text.false in
    let one = lent-level types c.args.levels c.in-Id.id entry (λ e. c.if-levels-eq0.false e) no-text (sym c.in-Some.ensures) in
    let same = ap (lent_within types c.args.levels) c.in-Id.is ∙ one ∙ ap (lent_entry types (lent_within types (c.args.levels - 1)) entry.kind) c.in-None-name.is in
    subst (λ (e : TypeExpr). IfOk c.lent_unnamed.result (λ printed. printed ≡ e)) (sym same) c.lent_unnamed.ensures
