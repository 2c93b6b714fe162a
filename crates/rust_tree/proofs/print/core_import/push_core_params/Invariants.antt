use Rattle.std.proofs.Common.{◌≡◌, ◌++◌, drop}
use Rattle.std.specs.List.{flat_map}
use Rattle.rust_tree.specs.CodeText.{core_param_text}
use Rattle.rust_tree.proofs.print.core_import.push_core_params.Given as goal

abbrev pub invariant-loop-ty : goal.invariant-loop-ty
invariant-loop-ty l = l.out ++ flat_map core_param_text (drop l.ty-index l.params) ≡ l.initial.out ++ flat_map core_param_text l.params
