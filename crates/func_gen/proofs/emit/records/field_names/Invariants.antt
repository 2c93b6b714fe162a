use Rattle.std.proofs.Common.{◌≡◌, ℕ, ◌++◌, drop}
use Rattle.func_gen.specs.RecordForms.{locals_for}
use Rattle.func_gen.specs.Scope.{names_at}
use Rattle.func_gen.proofs.emit.records.field_names.Given as goal

abbrev pub invariant-loop-field : goal.invariant-loop-field
invariant-loop-field l = (t : ℕ) → names_at l.names t ++ locals_for (drop l.field-index l.fields) t ≡ locals_for l.fields t
