use Rattle.std.proofs.Common.{refl}
use Rattle.func_gen.proofs.scope.Scope.declare_block.Goals as goal

pub returns-clause-takes : goal.returns-clause-takes
returns-clause-takes c = record { locals = _; named = λ k. refl; declares = c.in_ok-number.ensures.declares }
