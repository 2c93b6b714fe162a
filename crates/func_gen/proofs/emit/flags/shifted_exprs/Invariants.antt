use Rattle.std.proofs.Common.{◌≡◌, ◌*◌, ◌++◌, drop}
use Rattle.func_gen.specs.FlagsForms.{shifted_from}
use Rattle.func_gen.specs.PartForms.{are_operands, exprs_of}
use Rattle.func_gen.proofs.emit.flags.shifted_exprs.Given as goal

abbrev pub invariant-loop-at : goal.invariant-loop-at
invariant-loop-at l = (l.es ++ shifted_from (32 * l.at) (exprs_of (drop l.at l.operands)) ≡ shifted_from 0 (exprs_of l.operands)) × (are_operands (drop l.at l.operands) ≡ are_operands l.operands)
