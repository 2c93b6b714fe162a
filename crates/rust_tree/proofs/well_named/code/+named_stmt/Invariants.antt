use Rattle.std.proofs.Common.{◌≡◌, drop}
use Rattle.std.specs.List.{list_all}
use Rattle.rust_tree.specs.WellNamed.{is_named_arm, is_named_stmt}
use Rattle.rust_tree.proofs.well_named.code.+named_stmt.Given as goal

abbrev pub invariant-are_named_arms-loop-arm : goal.invariant-are_named_arms-loop-arm
invariant-are_named_arms-loop-arm l = list_all is_named_arm (drop l.arm-index l.arms) ≡ list_all is_named_arm l.arms

abbrev pub invariant-are_named_stmts-loop-stmt : goal.invariant-are_named_stmts-loop-stmt
invariant-are_named_stmts-loop-stmt l = list_all is_named_stmt (drop l.stmt-index l.stmts) ≡ list_all is_named_stmt l.stmts
