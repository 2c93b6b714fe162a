use Rattle.std.proofs.Common.{◌≡◌, length}
use Rattle.type_facts.specs.Passes.{AreReaches}
use Rattle.type_facts.proofs.reach.all_reaches.Given as goal

abbrev pub invariant-loop-entry : goal.invariant-loop-entry
invariant-loop-entry l = record { count : length l.known ≡ l.entry-index; reach : AreReaches l.types l.known }
