use Rattle.std.proofs.Common.{◌≡◌, ◌++◌, drop}
use Rattle.std.specs.List.{flat_map}
use Rattle.rust_tree.specs.Asked.{asked_by_type}
use Rattle.rust_tree.proofs.asked.+asked_type.Given as goal

abbrev pub invariant-ask_by_types-loop-ty : goal.invariant-ask_by_types-loop-ty
invariant-ask_by_types-loop-ty l = l.asked ++ flat_map asked_by_type (drop l.ty-index l.types) ≡ l.initial.asked ++ flat_map asked_by_type l.types
