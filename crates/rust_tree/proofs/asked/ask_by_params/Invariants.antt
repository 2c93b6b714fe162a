use Rattle.std.proofs.Common.{◌≡◌, ◌++◌, drop}
use Rattle.std.specs.List.{flat_map}
use Rattle.rust_tree.specs.Asked.{asked_by_type}
use Rattle.rust_tree.proofs.asked.ask_by_params.Given as goal

abbrev pub invariant-loop-param : goal.invariant-loop-param
invariant-loop-param l = l.asked ++ flat_map (λ p. asked_by_type p.ty) (drop l.param-index l.params) ≡ l.initial.asked ++ flat_map (λ p. asked_by_type p.ty) l.params
