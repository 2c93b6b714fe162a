use Rattle.std.proofs.Common.{◌≡◌, ◌+◌, ◌*◌, map, take}
use Rattle.type_defs.specs.ParamType.{lent_within}
use Rattle.type_defs.proofs.define.param.+param.Given as goal

abbrev pub decreases-lent_within : goal.decreases-lent_within
decreases-lent_within l = 4 * l.levels

abbrev pub decreases-param_within : goal.decreases-param_within
decreases-param_within l = 4 * l.levels + 1

abbrev pub decreases-lent_parts : goal.decreases-lent_parts
decreases-lent_parts l = 4 * l.levels + 1

abbrev pub decreases-lent_unnamed : goal.decreases-lent_unnamed
decreases-lent_unnamed l = 4 * l.levels + 2

abbrev pub decreases-lent_payload : goal.decreases-lent_payload
decreases-lent_payload l = 4 * l.levels + 1

abbrev pub invariant-lent_parts-loop-part : goal.invariant-lent_parts-loop-part
invariant-lent_parts-loop-part l = l.printed ≡ map (lent_within l.resolve.types l.levels) (take l.part-index l.parts)
