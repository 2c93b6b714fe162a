use Rattle.std.proofs.Common.{◌≡◌, ◌++◌, drop}
use Rattle.std.specs.List.{flat_map}
use Rattle.rust_tree.specs.ExportText.{entry_text}
use Rattle.rust_tree.proofs.print.macros.push_entries.Given as goal

abbrev pub invariant-loop-entry : goal.invariant-loop-entry
invariant-loop-entry l = l.out ++ flat_map entry_text (drop l.entry-index l.entries) ≡ l.initial.out ++ flat_map entry_text l.entries
