use Rattle.type_facts.proofs.Spreading.{IsSpread}
use Rattle.type_facts.proofs.marks.Marks.spread.Given as goal

abbrev pub invariant-loop-left : goal.invariant-loop-left
invariant-loop-left l = IsSpread l.types l.fn.self l.self l.left

abbrev pub decreases-loop-left : goal.decreases-loop-left
decreases-loop-left l = l.left
