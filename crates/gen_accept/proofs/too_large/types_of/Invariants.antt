use Rattle.std.proofs.Common.{◌≡◌, map, take}
use Rattle.gen_accept.proofs.too_large.types_of.Given as goal

abbrev pub invariant-loop-p : goal.invariant-loop-p
invariant-loop-p l = l.types ≡ map (λ p. p.ty) (take l.p-index l.params)
