use Rattle.std.proofs.Common.{◌≡◌, ◌+◌, ◌*◌, map, take}
use Rattle.type_defs.specs.PartType.{type_within}
use Rattle.type_defs.proofs.define.part.+part.Given as goal

abbrev pub decreases-type_within : goal.decreases-type_within
decreases-type_within l = 3 * l.levels

abbrev pub decreases-unnamed_type : goal.decreases-unnamed_type
decreases-unnamed_type l = 3 * l.levels + 2

abbrev pub decreases-types_within : goal.decreases-types_within
decreases-types_within l = 3 * l.levels + 1

abbrev pub decreases-payload_within : goal.decreases-payload_within
decreases-payload_within l = 3 * l.levels + 1

abbrev pub invariant-types_within-loop-part : goal.invariant-types_within-loop-part
invariant-types_within-loop-part l = l.printed ≡ map (type_within l.types l.levels) (take l.part-index l.parts)
