use Rattle.std.proofs.Common.{◌≡◌, drop}
use Rattle.func_gen.specs.Scope.{is_free}
use Rattle.func_gen.proofs.scope.is_free.Given as goal

abbrev pub invariant-loop-name : goal.invariant-loop-name
invariant-loop-name l = is_free l.used (drop l.name-index l.names) l.t ≡ is_free l.used l.names l.t
