-- Which kind of type does a JSON value give?
use Rattle.std.specs.Prelude.{ℕ, List, [], ◌∷◌, codes, Option, Some, option_map, option_and_then}
use Rattle.std.specs.Map.{lookup}
use Rattle.std.specs.Str.{bytes_eq}
use Rattle.wit_model.specs.declared.types.Case.{Case}
use Rattle.wit_model.specs.declared.types.Field.{Field}
use Rattle.wit_model.specs.declared.types.Handle.TheVariants.{Own, Borrow}
use Rattle.wit_model.specs.declared.types.Member.{Member}
use Rattle.wit_model.specs.declared.types.TypeDefKind.{TypeDefKind}
use Rattle.wit_model.specs.declared.types.TypeDefKind.TheVariants as kind
use Rattle.serde_json.specs.Data.{Data}
use Rattle.serde_json.specs.Find.{as_null}
use Rattle.wit_document.specs.Members.{◌>>=◌, all_of, only, required, optional, pair_of, unless_null, sole_member}
use Rattle.wit_document.specs.Name.{name_of, docs_in}
use Rattle.wit_document.specs.Types.{id_of, type_id_of, type_of}

unfoldable pub field_of : Data → Option Field
field_of d = do
  _ ← only (codes "name" ∷ codes "ty" ∷ codes "docs" ∷ []) d
  ty ← required type_of (codes "ty") d
  name ← required name_of (codes "name") d
  docs ← docs_in d
  Some (record { name = name; ty = ty; docs = docs })

-- of a variant
unfoldable pub case_of : Data → Option Case
case_of d = do
  _ ← only (codes "name" ∷ codes "ty" ∷ codes "docs" ∷ []) d
  ty ← optional type_of (codes "ty") d
  name ← required name_of (codes "name") d
  docs ← docs_in d
  Some (record { name = name; ty = ty; docs = docs })

-- of an enum, or of flags
unfoldable pub member_of : Data → Option Member
member_of d = do
  _ ← only (codes "name" ∷ codes "docs" ∷ []) d
  name ← required name_of (codes "name") d
  docs ← docs_in d
  Some (record { name = name; docs = docs })

abbrev pub alias_of : Data → Option TypeDefKind
alias_of d = option_map kind.Alias (type_of d)

abbrev pub own_of : Data → Option TypeDefKind
own_of d = option_map (λ id. kind.Handle (Own id)) (type_id_of d)

abbrev pub borrow_of : Data → Option TypeDefKind
borrow_of d = option_map (λ id. kind.Handle (Borrow id)) (type_id_of d)

abbrev pub list_of : Data → Option TypeDefKind
list_of d = option_map kind.List (type_of d)

-- a key and a value
abbrev pub map_of : Data → Option TypeDefKind
map_of d = option_map (λ pair. kind.Map pair.0 pair.1) (pair_of type_of type_of d)

-- an element and a length
abbrev pub fixed_of : Data → Option TypeDefKind
fixed_of d = option_map (λ pair. kind.FixedLengthList pair.0 pair.1) (pair_of type_of id_of d)

abbrev pub tuple_of : Data → Option TypeDefKind
tuple_of d = option_map kind.Tuple (all_of type_of d)

abbrev pub option_of : Data → Option TypeDefKind
option_of d = option_map kind.Option (type_of d)

-- the payloads of ok and of error, each of which may be null
abbrev pub result_of : Data → Option TypeDefKind
result_of d = option_map (λ pair. kind.Result pair.0 pair.1) (pair_of (unless_null type_of) (unless_null type_of) d)

abbrev pub record_of : Data → Option TypeDefKind
record_of d = option_map kind.Record (all_of field_of d)

abbrev pub variant_of : Data → Option TypeDefKind
variant_of d = option_map kind.Variant (all_of case_of d)

abbrev pub enum_of : Data → Option TypeDefKind
enum_of d = option_map kind.Enum (all_of member_of d)

abbrev pub flags_of : Data → Option TypeDefKind
flags_of d = option_map kind.Flags (all_of member_of d)

abbrev pub resource_of : Data → Option TypeDefKind
resource_of d = option_map (λ _. kind.Resource) (as_null d)

abbrev pub future_of : Data → Option TypeDefKind
future_of d = option_map kind.Future (unless_null type_of d)

abbrev pub stream_of : Data → Option TypeDefKind
stream_of d = option_map kind.Stream (unless_null type_of d)

abbrev pub unknown_of : Data → Option TypeDefKind
unknown_of d = option_map (λ _. kind.Unknown) (as_null d)

-- what stands at a kind's word, by that word
unfoldable pub kind_reader : List ℕ → Option (Data → Option TypeDefKind)
kind_reader word = lookup (bytes_eq word) (
    (codes "alias", alias_of)
    ∷ (codes "own", own_of)
    ∷ (codes "borrow", borrow_of)
    ∷ (codes "list", list_of)
    ∷ (codes "map", map_of)
    ∷ (codes "fixed", fixed_of)
    ∷ (codes "tuple", tuple_of)
    ∷ (codes "option", option_of)
    ∷ (codes "result", result_of)
    ∷ (codes "record", record_of)
    ∷ (codes "variant", variant_of)
    ∷ (codes "enum", enum_of)
    ∷ (codes "flags", flags_of)
    ∷ (codes "resource", resource_of)
    ∷ (codes "future", future_of)
    ∷ (codes "stream", stream_of)
    ∷ (codes "unknown", unknown_of)
    ∷ [])

unfoldable pub kind_at : List ℕ → Data → Option TypeDefKind
kind_at word d = option_and_then (λ reader. reader d) (kind_reader word)

-- an object whose one key is a kind's word
unfoldable pub type_kind_of : Data → Option TypeDefKind
type_kind_of d = do
  only_one ← sole_member d
  kind_at only_one.0 only_one.1
