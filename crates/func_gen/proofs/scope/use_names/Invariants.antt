use Rattle.std.proofs.Common.{◌≡◌, ◌++◌, drop}
use Rattle.func_gen.specs.Scope.{Keeps, names_at}
use Rattle.func_gen.proofs.scope.use_names.Given as goal

-- what was used is used still
abbrev pub invariant-loop-name : goal.invariant-loop-name
invariant-loop-name l = (l.used ++ names_at (drop l.name-index l.names) l.t ≡ l.initial.used ++ names_at l.names l.t) × Keeps l.initial.used l.used
