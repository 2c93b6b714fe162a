use Rattle.std.proofs.Common.{◌≡◌, ℕ, ◌++◌, ◌-◌, ◌≤◌}
use Rattle.func_gen.specs.PartForms.{names_from}
use Rattle.func_gen.specs.Scope.{names_at}
use Rattle.func_gen.proofs.emit.parts.part_names.Given as goal

abbrev pub invariant-loop-part : goal.invariant-loop-part
invariant-loop-part l = (l.part ≤ l.count) × ((t : ℕ) → names_at l.names t ++ names_from l.prefix t l.part (l.count - l.part) ≡ names_from l.prefix t 0 l.count)
