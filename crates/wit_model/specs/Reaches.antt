-- Which types a type reaches: itself, and whatever is reached by the types that it names.
use Rattle.std.specs.Prelude.{◌≡◌, ℕ, List, Some, slice_get}
use Rattle.wit_model.specs.declared.name.TypeId.{TypeId}
use Rattle.wit_model.specs.declared.types.WitType.{WitType}
use Rattle.wit_model.specs.declared.types.WitType.TheVariants.{Id}
use Rattle.wit_model.specs.declared.types.TypeDef.{TypeDef}
use Rattle.wit_model.specs.Parts.{parts}

-- the whole is an entry of the table, and a place of its kind holds the part
pub record Names (types : List TypeDef) (whole part : WitType) : Type 0 where
  pub id : TypeId
  pub entry : TypeDef
  pub nth : ℕ
  pub is_entry : whole ≡ Id id
  pub entry_at : slice_get types id.0 ≡ Some entry
  pub part_at : slice_get (parts entry.kind) nth ≡ Some (Some part)

pub data Reaches (types : List TypeDef) : WitType → WitType → Type 0 where
  reaches_itself : {ty : WitType} → Reaches types ty ty
  reaches_by : {whole part ty : WitType} → Names types whole part → Reaches types part ty → Reaches types whole ty
