use Rattle.std.proofs.Common.{◌≡◌, ◌++◌, drop}
use Rattle.std.specs.List.{flat_map}
use Rattle.rust_tree.specs.Asked.{asked_by_method}
use Rattle.rust_tree.proofs.asked.ask_by_methods.Given as goal

abbrev pub invariant-loop-function : goal.invariant-loop-function
invariant-loop-function l = l.asked ++ flat_map asked_by_method (drop l.function-index l.functions) ≡ l.initial.asked ++ flat_map asked_by_method l.functions
