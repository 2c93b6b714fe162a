use Rattle.std.proofs.Common.{◌≡◌, ◌++◌, OnOk, ap, subst, sym, ◌∙◌}
use Rattle.std.specs.List.{flat_map}
use Rattle.rust_tree.specs.Asked.{asked_by_arm, asked_by_block, asked_by_expr, asked_by_stmt, asked_by_tail}
use Rattle.rust_tree.proofs.Joins.{behind}
use Rattle.rust_tree.proofs.StmtLemmas.{asked-block, asked-match}
use Rattle.rust_tree.proofs.asked.+asked_stmt.Goals as goal

pub ask_by_block-returns : goal.ask_by_block-returns
ask_by_block-returns t c =
    let block = c.args.block.now in
    let rest = asked_by_tail block.tail in
    let whole = asked-block block ∙ ap (λ stmts. flat_map asked_by_stmt stmts ++ rest) (sym c.as_slice.ensures) in
    subst (λ items. OnOk c.ask_by_tail.result (c.ask_by_tail.new.asked ≡ items))
    (behind c.args.asked.now c.ask_by_stmts.new.asked (flat_map asked_by_stmt c.as_slice.result.now) rest (asked_by_block block) c.in_ok-ask_by_stmts.ensures whole) c.ask_by_tail.ensures

pub ask_by_stmt-returns-in_ok-ask_by_expr-in-Match : goal.ask_by_stmt-returns-in_ok-ask_by_expr-in-Match
ask_by_stmt-returns-in_ok-ask_by_expr-in-Match t c =
    let first = asked_by_expr c.in-Match.e in
    let rest = flat_map asked_by_arm c.as_slice.result.now in
    let whole = ap asked_by_stmt c.in-Match.is ∙ asked-match c.in-Match.field-0 c.in-Match.e c.in-Match.arms ∙ ap (λ arms. first ++ flat_map asked_by_arm arms) (sym c.as_slice.ensures) in
    subst (λ items. OnOk c.ask_by_arms.result (c.ask_by_arms.new.asked ≡ items))
    (behind c.args.asked.now c.ask_by_expr-in-Match.new.asked first rest (asked_by_stmt c.args.stmt.now) c.in_ok-ask_by_expr-in-Match.ensures whole) c.ask_by_arms.ensures
