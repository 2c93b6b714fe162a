use Rattle.std.proofs.Common.{◌≡◌, map, take}
use Rattle.wrapper_values.specs.Owning.{lent_value}
use Rattle.wrapper_values.proofs.owned.+lend.Given as goal

abbrev pub invariant-lent_parts-loop-part : goal.invariant-lent_parts-loop-part
invariant-lent_parts-loop-part l = l.lent ≡ map lent_value (take l.part-index l.parts)

abbrev pub invariant-lent_entries-loop-entry : goal.invariant-lent_entries-loop-entry
invariant-lent_entries-loop-entry l = l.lent ≡ map (λ e. (lent_value e.0, lent_value e.1)) (take l.entry-index l.entries)
