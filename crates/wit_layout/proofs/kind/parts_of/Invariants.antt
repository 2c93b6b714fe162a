use Rattle.wit_layout.specs.inside.Kind.{part_extents}
use Rattle.wit_layout.specs.inside.Stored.{seen_payload}
use Rattle.wit_layout.proofs.PartSteps.{AreGathered}
use Rattle.wit_layout.proofs.kind.parts_of.Given as goal

abbrev pub invariant-loop-nth : goal.invariant-loop-nth
invariant-loop-nth l = AreGathered (part_extents (seen_payload 2 l.layouts) l.kind) (part_extents (seen_payload 3 l.layouts) l.kind) l.nth l.all
