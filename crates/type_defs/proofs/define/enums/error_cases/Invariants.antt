use Rattle.std.proofs.Common.{◌≡◌, map, take}
use Rattle.type_defs.specs.EnumDef.{error_case}
use Rattle.type_defs.proofs.define.enums.error_cases.Given as goal

abbrev pub invariant-loop-case : goal.invariant-loop-case
invariant-loop-case l = l.items ≡ map error_case (take l.case-index l.cases)
