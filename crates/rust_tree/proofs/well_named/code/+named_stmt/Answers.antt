use Rattle.std.proofs.Common.{◌≡◌, ◌∙◌, Bool, true, false, ◌&&◌, ap, refl, sym}
use Rattle.std.specs.List.{list_all}
use Rattle.rust_tree.specs.WellNamed.{are_match_names, is_absent_or, is_named_arm, is_named_expr, is_named_stmt}
use Rattle.rust_tree.proofs.StmtLemmas.{is_named-block, is_named-match}
use Rattle.rust_tree.proofs.well_named.code.+named_stmt.Goals as goal

pub is_named_block-returns-then-are_named_stmts : goal.is_named_block-returns-then-are_named_stmts
is_named_block-returns-then-are_named_stmts t c =
    let block = is_named-block c.args.block.now in
    let passed : (true && is_absent_or is_named_expr c.args.block.now.tail) ≡ is_absent_or is_named_expr c.args.block.now.tail = refl in cc

pub is_named_block-returns-else-are_named_stmts : goal.is_named_block-returns-else-are_named_stmts
is_named_block-returns-else-are_named_stmts t c =
    let block = is_named-block c.args.block.now in
    let failed : (false && is_absent_or is_named_expr c.args.block.now.tail) ≡ false = refl in cc

pub is_named_stmt-returns-then-is_match_head : goal.is_named_stmt-returns-then-is_match_head
is_named_stmt-returns-then-is_match_head t c =
    let arms : Bool = list_all is_named_arm c.in-Match.arms in
    let head : (are_match_names c.in-Match.names && is_named_expr c.in-Match.e) ≡ true = sym c.is_match_head.ensures ∙ c.if-is_match_head.true in
    let whole = ap is_named_stmt c.in-Match.is ∙ is_named-match c.in-Match.names c.in-Match.e c.in-Match.arms ∙ ap (λ b. b && arms) head in
    c.are_named_arms.ensures ∙ ap (list_all is_named_arm) c.as_slice.ensures ∙ sym whole
