use Rattle.std.proofs.Common.{◌≡◌, map, take}
use Rattle.rust_tree.specs.Ident.{rust_ident}
use Rattle.gen_accept.specs.declared.declared.Sort.TheVariants.{Value}
use Rattle.gen_accept.specs.DeclaredNames.{declared}
use Rattle.gen_accept.proofs.names.param_scope.Given as goal

abbrev pub invariant-loop-p : goal.invariant-loop-p
invariant-loop-p l = l.names ≡ map (λ p. declared Value (rust_ident p.name)) (take l.p-index l.f.params)
