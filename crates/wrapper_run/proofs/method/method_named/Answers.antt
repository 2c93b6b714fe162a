use Rattle.std.proofs.Common.{◌∷◌, suc, ap, drop, drop-cons, sym, ◌∙◌}
use Rattle.std.specs.Option.{option_or}
use Rattle.wrapper_run.specs.ExportRun.{method_named}
use Rattle.wrapper_run.proofs.method.method_named.Goals as goal

pub returns-in-Some : goal.returns-in-Some
returns-in-Some c =
    let items = c.args.items.now in
    let i = c.loop-item.item-index in
    let front = drop-cons items i c.item-item.result c.loop-item-test.true ∙ ap (λ x. x ∷ drop (suc i) items) (sym c.item-item.is) in
    ap (λ o. option_or o (method_named (drop (suc i) items) c.args.bound.now c.args.name.now)) c.in-Some.ensures
    ∙ ap (λ items. method_named items c.args.bound.now c.args.name.now) (sym front) ∙ c.loop-item.invariant
