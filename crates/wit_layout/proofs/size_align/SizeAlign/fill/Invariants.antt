use Rattle.wit_layout.specs.inside.Stored.{AreLayoutsOf}
use Rattle.wit_layout.proofs.size_align.SizeAlign.fill.Given as goal

abbrev pub invariant-loop-i : goal.invariant-loop-i
invariant-loop-i l = AreLayoutsOf l.layouts l.resolve.types l.i
