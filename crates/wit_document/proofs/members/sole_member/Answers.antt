use Rattle.std.proofs.Common.{◌≡◌, Some, option_map, sym, ap, ◌∙◌, rules}
use Rattle.std.specs.List.{slice_get}
use Rattle.wit_document.specs.View.{view}
use Rattle.wit_document.proofs.Keys.{all_at, sole_member_at}
use Rattle.wit_document.proofs.members.sole_member.Goals as goal

pub returns-then-not-has_only_key : goal.returns-then-not-has_only_key
returns-then-not-has_only_key c =
    let es = c.in_ok-members.members.now.items in
    let e = c.in_ok-key.field-0.now in
    let first : slice_get es 0 ≡ Some e = search rules in
    sym (sole_member_at (view c.args.value.now) es e _ (sym c.in_ok-members.ensures) first (c.if-not-has_only_key.ensures ∙ ap (all_at e.0.now) c.deref-2.ensures.value))

pub returns-in_err-get : goal.returns-in_err-get
returns-in_err-get c =
    let es = c.in_ok-members.members.now.items in
    let e = c.in_ok-key.field-0.now in
    let first : slice_get es 0 ≡ Some e = search rules in
    let is = sole_member_at (view c.args.value.now) es e _ (sym c.in_ok-members.ensures) first (c.if-not-has_only_key.ensures ∙ ap (all_at e.0.now) c.deref-2.ensures.value) in
    rw c.from_residual-in_err-get.ensures (sym (is ∙ ap (option_map (λ m. (e.0.now, m))) (sym c.in_err-get.ensures)))

pub returns : goal.returns
returns c =
    let es = c.in_ok-members.members.now.items in
    let e = c.in_ok-key.field-0.now in
    let first : slice_get es 0 ≡ Some e = search rules in
    let is = sole_member_at (view c.args.value.now) es e _ (sym c.in_ok-members.ensures) first (c.if-not-has_only_key.ensures ∙ ap (all_at e.0.now) c.deref-2.ensures.value) in
    sym (is ∙ ap (option_map (λ m. (e.0.now, m))) (sym c.in_ok-get.ensures))
