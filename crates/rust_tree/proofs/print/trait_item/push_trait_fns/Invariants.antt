use Rattle.std.proofs.Common.{◌≡◌, ◌++◌, drop}
use Rattle.std.specs.List.{flat_map}
use Rattle.rust_tree.specs.Text.{trait_fn_text}
use Rattle.rust_tree.proofs.print.trait_item.push_trait_fns.Given as goal

abbrev pub invariant-loop-function : goal.invariant-loop-function
invariant-loop-function l = l.out ++ flat_map trait_fn_text (drop l.function-index l.functions) ≡ l.initial.out ++ flat_map trait_fn_text l.functions
