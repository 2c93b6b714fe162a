use Rattle.std.proofs.Common.{◌≡◌, ◌++◌, drop, map}
use Rattle.func_gen.specs.CastForms.{casts_from}
use Rattle.func_gen.specs.Forms.{operand_of}
use Rattle.func_gen.proofs.emit.casts.push_casts.Given as goal

abbrev pub invariant-loop-i : goal.invariant-loop-i
invariant-loop-i l = l.results ++ map operand_of (casts_from l.i (drop l.i l.casts) (drop l.i l.es) l.t) ≡ l.initial.results ++ map operand_of (casts_from 0 l.casts l.es l.t)
