use Rattle.std.proofs.Common.{◌≡◌, ◌++◌, drop}
use Rattle.std.specs.List.{flat_map}
use Rattle.rust_tree.specs.EnumText.{case_message_text}
use Rattle.rust_tree.proofs.print.error_enum.push_messages.Given as goal

abbrev pub invariant-loop-case : goal.invariant-loop-case
invariant-loop-case l = l.out ++ flat_map (case_message_text l.name) (drop l.case-index l.cases) ≡ l.initial.out ++ flat_map (case_message_text l.name) l.cases
