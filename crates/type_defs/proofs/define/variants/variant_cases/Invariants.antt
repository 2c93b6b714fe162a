use Rattle.std.proofs.Common.{◌≡◌, map, take}
use Rattle.type_defs.specs.VariantDef.{variant_case}
use Rattle.type_defs.proofs.define.variants.variant_cases.Given as goal

abbrev pub invariant-loop-case : goal.invariant-loop-case
invariant-loop-case l = l.items ≡ map (variant_case l.types) (take l.case-index l.cases)
