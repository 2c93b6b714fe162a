use Rattle.std.proofs.Common.{◌≡◌, ◌++◌, drop}
use Rattle.std.specs.Prelude.{zip}
use Rattle.func_gen.proofs.emit.records.field_locals.Given as goal

abbrev pub invariant-loop-at : goal.invariant-loop-at
invariant-loop-at l = l.pairs ++ zip (drop l.at l.fields) (drop l.at l.names) ≡ zip l.fields l.names
