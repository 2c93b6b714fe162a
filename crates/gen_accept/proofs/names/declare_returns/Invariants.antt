use Rattle.std.proofs.Common.{◌≡◌, ◌++◌, map, drop}
use Rattle.std.specs.List.{flat_map}
use Rattle.gen_accept.specs.DeclaredNames.{return_names}
use Rattle.gen_accept.proofs.names.declare_returns.Given as goal

abbrev pub invariant-loop-function : goal.invariant-loop-function
invariant-loop-function l =
    l.names ++ flat_map (return_names l.resolve.types) (map (λ f. f.now) (drop l.function-index l.functions)) ≡ l.initial.names ++ flat_map (return_names l.resolve.types) (map (λ f. f.now) l.functions)
