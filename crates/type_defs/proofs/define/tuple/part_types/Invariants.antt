use Rattle.std.proofs.Common.{◌≡◌, map, take}
use Rattle.type_defs.specs.PartType.{part_type}
use Rattle.type_defs.proofs.define.tuple.part_types.Given as goal

abbrev pub invariant-loop-part : goal.invariant-loop-part
invariant-loop-part l = l.printed ≡ map (part_type l.types) (take l.part-index l.parts)
