use Rattle.std.proofs.Common.{◌≡◌, ◌++◌, drop}
use Rattle.std.specs.List.{flat_map}
use Rattle.rust_tree.specs.ExportText.{module_call_text}
use Rattle.rust_tree.proofs.print.macros.push_module_calls.Given as goal

abbrev pub invariant-loop-module : goal.invariant-loop-module
invariant-loop-module l = l.out ++ flat_map module_call_text (drop l.module-index l.modules) ≡ l.initial.out ++ flat_map module_call_text l.modules
