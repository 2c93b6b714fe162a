use Rattle.std.proofs.Common.{◌≡◌, ◌++◌, map, take}
use Rattle.rust_tree.specs.Ident.{rust_ident}
use Rattle.gen_accept.specs.declared.declared.Sort.TheVariants.{Value}
use Rattle.gen_accept.specs.DeclaredNames.{declared}
use Rattle.gen_accept.proofs.names.declare_functions.Given as goal

abbrev pub invariant-loop-function : goal.invariant-loop-function
invariant-loop-function l = l.names ≡ l.initial.names ++ map (λ f. declared Value (rust_ident f.name)) (map (λ f. f.now) (take l.function-index l.functions))
