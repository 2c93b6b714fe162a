use Rattle.std.proofs.Common.{◌≡◌}
use Rattle.wit_model.specs.Dealias.{dealias}
use Rattle.wit_model.proofs.alias.behind_aliases.Given as goal

abbrev pub invariant-loop-next : goal.invariant-loop-next
invariant-loop-next l = dealias l.types l.end ≡ dealias l.types l.fn.id

abbrev pub decreases-loop-next : goal.decreases-loop-next
decreases-loop-next l = l.end.0
