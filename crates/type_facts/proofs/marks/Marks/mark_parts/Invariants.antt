use Rattle.std.proofs.Common.{◌≡◌, drop}
use Rattle.wit_model.specs.Parts.{parts}
use Rattle.type_facts.specs.Passes.{given, mark_all}
use Rattle.type_facts.proofs.marks.Marks.mark_parts.Given as goal

abbrev pub invariant-loop-nth : goal.invariant-loop-nth
invariant-loop-nth l = mark_all l.self (given (drop l.nth (parts l.kind))) ≡ mark_all l.fn.self (given (parts l.kind))
