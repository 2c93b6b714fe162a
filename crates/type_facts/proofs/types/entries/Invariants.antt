use Rattle.std.proofs.Common.{◌≡◌, length}
use Rattle.type_facts.specs.Passes.{AreEntries}
use Rattle.type_facts.proofs.types.entries.Given as goal

abbrev pub invariant-loop-index : goal.invariant-loop-index
invariant-loop-index l = record { count : length l.entries ≡ l.index; exact : AreEntries l.types l.reaches l.uses l.entries }
