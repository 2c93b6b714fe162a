use Rattle.std.proofs.Common.{◌≡◌, ◌++◌, drop}
use Rattle.std.specs.Prelude.{zip}
use Rattle.func_gen.specs.PartForms.{are_operands, exprs_of}
use Rattle.func_gen.proofs.emit.records.field_exprs.Given as goal

abbrev pub invariant-loop-at : goal.invariant-loop-at
invariant-loop-at l = (l.es ++ zip (drop l.at l.fields) (exprs_of (drop l.at l.operands)) ≡ zip l.fields (exprs_of l.operands)) × (are_operands (drop l.at l.operands) ≡ are_operands l.operands)
