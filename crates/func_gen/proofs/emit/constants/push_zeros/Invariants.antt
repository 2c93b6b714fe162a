use Rattle.std.proofs.Common.{◌≡◌, ◌++◌, drop}
use Rattle.func_gen.specs.CastForms.{zero_operands}
use Rattle.func_gen.proofs.emit.constants.push_zeros.Given as goal

abbrev pub invariant-loop-ty : goal.invariant-loop-ty
invariant-loop-ty l = l.results ++ zero_operands (drop l.ty-index l.types) ≡ l.initial.results ++ zero_operands l.types
