use Rattle.std.proofs.Common.{◌≡◌, ◌++◌, drop}
use Rattle.wrapper_values.specs.Owning.{taken_by, taken_by_entries}
use Rattle.wrapper_values.proofs.owned.+owned.Given as goal

abbrev pub invariant-push_owned_parts-loop-part : goal.invariant-push_owned_parts-loop-part
invariant-push_owned_parts-loop-part l = l.addresses ++ taken_by (drop l.part-index l.parts) ≡ l.initial.addresses ++ taken_by l.parts

abbrev pub invariant-push_owned_entries-loop-entry : goal.invariant-push_owned_entries-loop-entry
invariant-push_owned_entries-loop-entry l = l.addresses ++ taken_by_entries (drop l.entry-index l.entries) ≡ l.initial.addresses ++ taken_by_entries l.entries
