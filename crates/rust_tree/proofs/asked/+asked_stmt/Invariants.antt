use Rattle.std.proofs.Common.{◌≡◌, ◌++◌, drop}
use Rattle.std.specs.List.{flat_map}
use Rattle.rust_tree.specs.Asked.{asked_by_arm, asked_by_stmt}
use Rattle.rust_tree.proofs.asked.+asked_stmt.Given as goal

abbrev pub invariant-ask_by_arms-loop-arm : goal.invariant-ask_by_arms-loop-arm
invariant-ask_by_arms-loop-arm l = l.asked ++ flat_map asked_by_arm (drop l.arm-index l.arms) ≡ l.initial.asked ++ flat_map asked_by_arm l.arms

abbrev pub invariant-ask_by_stmts-loop-stmt : goal.invariant-ask_by_stmts-loop-stmt
invariant-ask_by_stmts-loop-stmt l = l.asked ++ flat_map asked_by_stmt (drop l.stmt-index l.stmts) ≡ l.initial.asked ++ flat_map asked_by_stmt l.stmts
