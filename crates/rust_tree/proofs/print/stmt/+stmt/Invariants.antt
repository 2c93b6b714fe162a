use Rattle.std.proofs.Common.{◌≡◌, ◌++◌, drop}
use Rattle.std.specs.List.{flat_map}
use Rattle.rust_tree.specs.CodeText.{arm_text, stmt_text}
use Rattle.rust_tree.proofs.print.stmt.+stmt.Given as goal

abbrev pub invariant-push_arms-loop-arm : goal.invariant-push_arms-loop-arm
invariant-push_arms-loop-arm l = l.out ++ flat_map arm_text (drop l.arm-index l.arms) ≡ l.initial.out ++ flat_map arm_text l.arms

abbrev pub invariant-push_stmts-loop-stmt : goal.invariant-push_stmts-loop-stmt
invariant-push_stmts-loop-stmt l = l.out ++ flat_map stmt_text (drop l.stmt-index l.stmts) ≡ l.initial.out ++ flat_map stmt_text l.stmts
