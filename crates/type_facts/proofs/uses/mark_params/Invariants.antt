use Rattle.std.proofs.Common.{◌≡◌, drop, map}
use Rattle.type_facts.specs.Passes.{mark_all}
use Rattle.type_facts.proofs.uses.mark_params.Given as goal

abbrev pub invariant-loop-param : goal.invariant-loop-param
invariant-loop-param l = mark_all l.marks (map (λ p. p.ty) (drop l.param-index l.params)) ≡ mark_all l.fn.marks (map (λ p. p.ty) l.params)
