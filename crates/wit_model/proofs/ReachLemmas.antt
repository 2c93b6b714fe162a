-- One way on from what is reached is reached too.
use Rattle.std.proofs.Common.{◌≡◌, List, refl}
use Rattle.wit_model.specs.declared.types.WitType.{WitType}
use Rattle.wit_model.specs.declared.types.TypeDef.{TypeDef}
use Rattle.wit_model.specs.Reaches.{Names, Reaches, reaches_itself, reaches_by}

pub reaches_on : {types : List TypeDef} {from middle ty : WitType} → Reaches types from middle → Names types middle ty → Reaches types from ty
reaches_on reaches_itself names = reaches_by names reaches_itself
reaches_on (reaches_by first rest) names = reaches_by first (reaches_on rest names)

-- by cases: a type reaches itself, or goes on by what it names
pub reaches_cases : {types : List TypeDef} {from ty : WitType} (P : Type 0) → Reaches types from ty → (from ≡ ty → P)
    → ((part : WitType) → Names types from part → Reaches types part ty → P) → P
reaches_cases P reaches_itself here on = here refl
reaches_cases P (reaches_by first rest) here on = on _ first rest
