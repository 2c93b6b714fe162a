use Rattle.std.proofs.Common.{◌≡◌, ◌++◌, drop}
use Rattle.std.specs.List.{flat_map}
use Rattle.rust_tree.specs.Asked.{asked_by_payload}
use Rattle.rust_tree.proofs.asked.ask_by_variant_cases.Given as goal

abbrev pub invariant-loop-case : goal.invariant-loop-case
invariant-loop-case l = l.asked ++ flat_map (λ c. asked_by_payload c.ty) (drop l.case-index l.cases) ≡ l.initial.asked ++ flat_map (λ c. asked_by_payload c.ty) l.cases
