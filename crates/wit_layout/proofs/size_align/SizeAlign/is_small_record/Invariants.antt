use Rattle.wit_layout.specs.Filled.{members_seen}
use Rattle.wit_layout.proofs.PartSteps.{AreGathered}
use Rattle.wit_layout.proofs.size_align.SizeAlign.is_small_record.Given as goal

abbrev pub invariant-loop-ty : goal.invariant-loop-ty
invariant-loop-ty l = AreGathered (members_seen 2 l.self l.types) (members_seen 3 l.self l.types) l.ty-index l.all
