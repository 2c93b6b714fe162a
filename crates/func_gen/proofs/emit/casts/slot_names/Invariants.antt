use Rattle.std.proofs.Common.{◌≡◌, ℕ, ◌++◌, drop}
use Rattle.func_gen.specs.CastForms.{slots_from}
use Rattle.func_gen.specs.Scope.{names_at}
use Rattle.func_gen.proofs.emit.casts.slot_names.Given as goal

abbrev pub invariant-loop-i : goal.invariant-loop-i
invariant-loop-i l = (t : ℕ) → names_at l.names t ++ slots_from l.i (drop l.i l.casts) t ≡ slots_from 0 l.casts t
