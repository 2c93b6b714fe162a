use Rattle.std.proofs.Common.{◌≡◌, map, take}
use Rattle.rust_tree.specs.Ident.{rust_ident}
use Rattle.gen_accept.proofs.names.param_idents.Given as goal

abbrev pub invariant-loop-p : goal.invariant-loop-p
invariant-loop-p l = l.names ≡ map (λ p. rust_ident p.name) (take l.p-index l.params)
