use Rattle.std.proofs.Common.{◌≡◌, drop}
use Rattle.wit_model.specs.Parts.{parts}
use Rattle.type_facts.specs.Passes.{join, reach_of_parts, reach_of_kind}
use Rattle.type_facts.proofs.reach.reach_of_kind.Given as goal

abbrev pub invariant-loop-nth : goal.invariant-loop-nth
invariant-loop-nth l = join l.sum (reach_of_parts l.known (drop l.nth (parts l.kind))) ≡ reach_of_kind l.known l.kind
