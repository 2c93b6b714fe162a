use Rattle.std.proofs.Common.{◌≡◌, ◌++◌, map, take}
use Rattle.gen_accept.specs.DeclaredNames.{param_scope}
use Rattle.gen_accept.proofs.names.push_param_scopes.Given as goal

abbrev pub invariant-loop-function : goal.invariant-loop-function
invariant-loop-function l = l.scopes ≡ l.initial.scopes ++ map param_scope (map (λ f. f.now) (take l.function-index l.functions))
