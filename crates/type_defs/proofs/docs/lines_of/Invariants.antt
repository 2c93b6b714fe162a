use Rattle.std.proofs.Common.{◌≡◌, map}
use Rattle.type_defs.proofs.docs.lines_of.Given as goal

abbrev pub invariant-loop-line : goal.invariant-loop-line
invariant-loop-line l = l.all ≡ map (λ t. t.now) l.yielded
