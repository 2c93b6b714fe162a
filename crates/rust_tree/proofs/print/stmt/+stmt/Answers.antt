use Rattle.std.proofs.Common.{◌≡◌, ◌++◌, OnOk, ap, append_assoc, subst, sym, ◌∙◌}
use Rattle.std.specs.List.{flat_map}
use Rattle.rust_tree.specs.CodeText.{arm_text, block_text, match_close_text, match_open_text, stmt_text, tail_text}
use Rattle.rust_tree.proofs.Joins.{behind}
use Rattle.rust_tree.proofs.StmtLemmas.{text-block, text-match}
use Rattle.rust_tree.proofs.print.stmt.+stmt.Goals as goal

pub push_block-returns : goal.push_block-returns
push_block-returns t c =
    let block = c.args.block.now in
    let rest = tail_text block.tail in
    let whole = text-block block ∙ ap (λ stmts. flat_map stmt_text stmts ++ rest) (sym c.as_slice.ensures) in
    subst (λ text. OnOk c.push_tail.result (c.push_tail.new.out ≡ text))
    (behind c.args.out.now c.push_stmts.new.out (flat_map stmt_text c.as_slice.result.now) rest (block_text block) c.in_ok-push_stmts.ensures whole) c.push_tail.ensures

pub push_stmt-returns-in_ok-push_arms-in-Match : goal.push_stmt-returns-in_ok-push_arms-in-Match
push_stmt-returns-in_ok-push_arms-in-Match t c =
    let opened = match_open_text c.in-Match.names c.in-Match.e in
    let arms = flat_map arm_text c.as_slice.result.now in
    let closed = match_close_text c.in-Match.names in
    let before : c.push_arms.new.out ≡ c.args.out.now ++ (opened ++ arms) =
    c.in_ok-push_arms-in-Match.ensures ∙ ap (λ t. t ++ arms) c.in_ok-push_match_open-in-Match.ensures ∙ append_assoc c.args.out.now opened arms in
    let whole = ap stmt_text c.in-Match.is ∙ text-match c.in-Match.names c.in-Match.e c.in-Match.arms ∙ ap (λ arms. opened ++ flat_map arm_text arms ++ closed) (sym c.as_slice.ensures) in
    subst (λ text. OnOk c.push_match_close.result (c.push_match_close.new.out ≡ text))
    (behind c.args.out.now c.push_arms.new.out (opened ++ arms) closed (stmt_text c.args.stmt.now) before whole) c.push_match_close.ensures
