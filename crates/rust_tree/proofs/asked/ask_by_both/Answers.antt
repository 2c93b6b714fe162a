use Rattle.std.proofs.Common.{◌≡◌, ◌++◌, OnOk, refl, subst}
use Rattle.rust_tree.specs.Asked.{asked_by_expr}
use Rattle.rust_tree.proofs.Joins.{behind}
use Rattle.rust_tree.proofs.asked.ask_by_both.Goals as goal

pub returns : goal.returns
returns c =
    let first = asked_by_expr c.args.address.now in
    let rest = asked_by_expr c.args.e.now in
    subst (λ items. OnOk c.ask_by_expr-2.result (c.ask_by_expr-2.new.asked ≡ items))
    (behind c.args.asked.now c.ask_by_expr.new.asked first rest (first ++ rest) c.in_ok-ask_by_expr.ensures refl) c.ask_by_expr-2.ensures
