use Rattle.std.proofs.Common.{◌≡◌, ◌++◌, drop, map}
use Rattle.abi_bindgen.proofs.parts.param_types.Given as goal

abbrev pub invariant-loop-param : goal.invariant-loop-param
invariant-loop-param l = l.tys ++ map (λ p. p.ty) (drop l.param-index l.params) ≡ l.initial.tys ++ map (λ p. p.ty) l.params
