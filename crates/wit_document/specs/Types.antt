-- Which id and which type does a JSON value give?
use Rattle.std.specs.Prelude.{ℕ, ◌^◌, List, [], ◌∷◌, codes, nat_lt, if◌then◌else◌, Option, Some, None, option_map, option_and_then}
use Rattle.std.specs.Map.{lookup}
use Rattle.std.specs.Option.{option_map_or}
use Rattle.std.specs.Str.{bytes_eq}
use Rattle.wit_model.specs.declared.name.TypeId.{TypeId}
use Rattle.wit_model.specs.declared.types.WitType.{WitType}
use Rattle.wit_model.specs.declared.types.WitType.TheVariants as wit
use Rattle.serde_json.specs.Data.{Data}
use Rattle.serde_json.specs.Find.{as_number, as_u64, as_str}
use Rattle.wit_document.specs.Members.{◌>>=◌}

-- a whole number, written with no sign, point or exponent
unfoldable pub id_of : Data → Option ℕ
id_of d = do
  n ← option_and_then as_u64 (as_number d)
  if nat_lt n (2 ^ 32) then Some n else None

unfoldable pub type_id_of : Data → Option TypeId
type_id_of d = option_map (λ n. record { 0 = n }) (id_of d)

unfoldable pub type_named : List ℕ → Option WitType
type_named word = lookup (bytes_eq word) (
    (codes "bool", wit.Bool)
    ∷ (codes "u8", wit.U8)
    ∷ (codes "u16", wit.U16)
    ∷ (codes "u32", wit.U32)
    ∷ (codes "u64", wit.U64)
    ∷ (codes "s8", wit.S8)
    ∷ (codes "s16", wit.S16)
    ∷ (codes "s32", wit.S32)
    ∷ (codes "s64", wit.S64)
    ∷ (codes "f32", wit.F32)
    ∷ (codes "f64", wit.F64)
    ∷ (codes "char", wit.Char)
    ∷ (codes "string", wit.String)
    ∷ (codes "error-context", wit.ErrorContext)
    ∷ [])

-- a word, or the type's place in the table
unfoldable pub type_of : Data → Option WitType
type_of d = option_map_or type_named (as_str d) (option_map wit.Id (type_id_of d))
