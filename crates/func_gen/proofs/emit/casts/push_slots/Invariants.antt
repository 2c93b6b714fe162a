use Rattle.std.proofs.Common.{◌≡◌, ◌++◌, drop}
use Rattle.func_gen.specs.CastForms.{stmts_from}
use Rattle.func_gen.proofs.emit.casts.push_slots.Given as goal

abbrev pub invariant-loop-i : goal.invariant-loop-i
invariant-loop-i l = l.stmts ++ stmts_from l.i (drop l.i l.casts) (drop l.i l.es) l.t ≡ l.initial.stmts ++ stmts_from 0 l.casts l.es l.t
