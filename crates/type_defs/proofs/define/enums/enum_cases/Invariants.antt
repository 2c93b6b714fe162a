use Rattle.std.proofs.Common.{◌≡◌, map, take}
use Rattle.type_defs.specs.EnumDef.{enum_case}
use Rattle.type_defs.proofs.define.enums.enum_cases.Given as goal

abbrev pub invariant-loop-case : goal.invariant-loop-case
invariant-loop-case l = l.items ≡ map enum_case (take l.case-index l.cases)
