use Rattle.std.proofs.Common.{◌≡◌, ◌++◌, drop}
use Rattle.std.specs.List.{flat_map}
use Rattle.rust_tree.specs.Text.{option_text}
use Rattle.rust_tree.proofs.print.push_options.Given as goal

abbrev pub invariant-loop-line : goal.invariant-loop-line
invariant-loop-line l = l.out ++ flat_map option_text (drop l.line-index l.options) ≡ l.initial.out ++ flat_map option_text l.options
