use Rattle.std.proofs.Common.{◌≡◌, ◌-◌, Some, IfOk, ap, subst, sym, ◌∙◌}
use Rattle.rust_tree.specs.declared.type_expr.TypeExpr.{TypeExpr}
use Rattle.std.proofs.lemmas.Option.{slice_get-get_or}
use Rattle.type_defs.specs.PartType.{entry_type, type_within}
use Rattle.type_defs.proofs.PartLemmas.{within-entry}
use Rattle.type_defs.proofs.define.part.+part.Goals as goal

pub type_within-returns-in-Some-name : goal.type_within-returns-in-Some-name
type_within-returns-in-Some-name t c =
    let types = c.args.types.now in
    let entry = c.in-Some.entry.now in
    let one = within-entry types c.args.levels c.in-Id.id entry (λ e. c.if-levels-eq0.false e) (slice_get-get_or types c.in-Id.id.0 entry c.in-Some.ensures.lookup.3.0 ∙ ap Some (sym c.in-Some.ensures.lookup.1)) in
    let same = ap (type_within types c.args.levels) c.in-Id.is ∙ one ∙ ap (entry_type (type_within types (c.args.levels - 1)) entry.kind) c.in-Some-name.is in
    subst (λ (e : TypeExpr). IfOk c.named_type.result (λ printed. printed ≡ e)) (sym same) c.named_type.ensures

pub type_within-returns-in-None-name : goal.type_within-returns-in-None-name
type_within-returns-in-None-name t c =
    let types = c.args.types.now in
    let entry = c.in-Some.entry.now in
    let one = within-entry types c.args.levels c.in-Id.id entry (λ e. c.if-levels-eq0.false e) (slice_get-get_or types c.in-Id.id.0 entry c.in-Some.ensures.lookup.3.0 ∙ ap Some (sym c.in-Some.ensures.lookup.1)) in
    let same = ap (type_within types c.args.levels) c.in-Id.is ∙ one ∙ ap (entry_type (type_within types (c.args.levels - 1)) entry.kind) c.in-None-name.is in
    subst (λ (e : TypeExpr). IfOk c.unnamed_type.result (λ printed. printed ≡ e)) (sym same) c.unnamed_type.ensures
