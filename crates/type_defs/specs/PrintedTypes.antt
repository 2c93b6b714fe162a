-- Under which names a type, its fields and its members are defined.
use Rattle.std.specs.Prelude.{List, [], ◌∷◌, map, Option, None, Some, slice_get}
use Rattle.wit_model.specs.declared.name.Name.{Name}
use Rattle.wit_model.specs.declared.name.TypeId.{TypeId}
use Rattle.wit_model.specs.declared.types.TypeDef.{TypeDef}
use Rattle.wit_model.specs.declared.types.TypeDefKind.{TypeDefKind}
use Rattle.wit_model.specs.declared.types.TypeDefKind.TheVariants as kind
use Rattle.wit_model.specs.Bytes.{Bytes}
use Rattle.rust_tree.specs.Ident.{rust_ident, type_ident}

abbrev pub entry_or_none : Option TypeDef → List TypeDef
entry_or_none None = []
entry_or_none (Some t) = t ∷ []

abbrev pub entry_at : List TypeDef → TypeId → List TypeDef
entry_at types id = entry_or_none (slice_get types id.0)

abbrev pub name_or_none : Option Name → Bytes
name_or_none None = []
name_or_none (Some name) = type_ident name

-- a listed type has a name
abbrev pub type_name : TypeDef → Bytes
type_name t = name_or_none t.name

-- the fields of a record
abbrev pub field_names : TypeDefKind → List Bytes
field_names (kind.Record fields) = map (λ f. rust_ident f.name) fields
field_names _ = []

-- the cases of a variant or an enum, and the members of a flags type
abbrev pub member_names : TypeDefKind → List Bytes
member_names (kind.Variant cases) = map (λ c. c.name.camel) cases
member_names (kind.Enum cases) = map (λ c. c.name.camel) cases
member_names (kind.Flags members) = map (λ m. m.name.upper) members
member_names _ = []
