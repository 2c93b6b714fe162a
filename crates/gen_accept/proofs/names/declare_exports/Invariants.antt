use Rattle.std.proofs.Common.{◌≡◌, ◌++◌, map, drop}
use Rattle.std.specs.List.{flat_map}
use Rattle.gen_accept.specs.DeclaredNames.{among_types, export_ident}
use Rattle.gen_accept.proofs.names.declare_exports.Given as goal

abbrev pub invariant-loop-function : goal.invariant-loop-function
invariant-loop-function l =
    l.names ++ flat_map (λ f. among_types (export_ident f)) (map (λ f. f.now) (drop l.function-index l.functions))
    ≡ l.initial.names ++ flat_map (λ f. among_types (export_ident f)) (map (λ f. f.now) l.functions)
