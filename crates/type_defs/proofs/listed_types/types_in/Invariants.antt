use Rattle.std.proofs.Common.{◌≡◌, ◌++◌, drop}
use Rattle.type_defs.specs.ListedTypes.{types_in}
use Rattle.type_defs.proofs.listed_types.types_in.Given as goal

abbrev pub invariant-loop-entry : goal.invariant-loop-entry
invariant-loop-entry l = l.types ++ types_in (drop l.entry-index l.entries) ≡ types_in l.entries
