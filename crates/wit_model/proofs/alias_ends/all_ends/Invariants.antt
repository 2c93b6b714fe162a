use Rattle.std.proofs.Common.{◌≡◌, length}
use Rattle.wit_model.specs.Ends.{AreEnds}
use Rattle.wit_model.proofs.alias_ends.all_ends.Given as goal

abbrev pub invariant-loop-entry : goal.invariant-loop-entry
invariant-loop-entry l = record { count : length l.ends ≡ l.entry-index; end : AreEnds l.types l.ends }
