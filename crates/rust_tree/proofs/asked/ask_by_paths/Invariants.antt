use Rattle.std.proofs.Common.{◌≡◌, ◌++◌, drop}
use Rattle.std.specs.List.{flat_map}
use Rattle.rust_tree.specs.Asked.{asked_by_path}
use Rattle.rust_tree.proofs.asked.ask_by_paths.Given as goal

abbrev pub invariant-loop-path : goal.invariant-loop-path
invariant-loop-path l = l.asked ++ flat_map asked_by_path (drop l.path-index l.paths) ≡ l.initial.asked ++ flat_map asked_by_path l.paths
