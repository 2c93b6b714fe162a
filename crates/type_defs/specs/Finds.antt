-- Whether a type passes a test, or one that it reaches.
use Rattle.std.specs.Prelude.{ℕ, zero, suc, Bool, ◌||◌, List, slice_get}
use Rattle.std.specs.List.{list_any}
use Rattle.wit_model.specs.declared.types.TypeDef.{TypeDef}
use Rattle.wit_model.specs.declared.types.WitType.{WitType}
use Rattle.wit_model.specs.declared.types.WitType.TheVariants.{Id}
use Rattle.type_defs.specs.Levels.{parts_of, passes}

-- on ways down of so many steps
abbrev pub finds_within : List TypeDef → (WitType → Bool) → ℕ → WitType → Bool
finds_within types test zero ty = test ty
finds_within types test (suc n) (Id id) = test (Id id) || list_any (passes (finds_within types test n)) (parts_of (slice_get types id.0))
finds_within types test (suc n) ty = test ty

-- no way down has more than a hundred entries, so this is all that a type reaches
unfoldable pub finds : List TypeDef → (WitType → Bool) → WitType → Bool
finds types test ty = finds_within types test 100 ty
