-- When the names that definitions of types print may stand in a tree.
use Rattle.std.specs.Prelude.{◌≡◌, Bool, true, ◌&&◌, nat_lt, List, length, map, Some, slice_get}
use Rattle.std.specs.List.{Contains, list_all}
use Rattle.wit_model.specs.declared.name.TypeId.{TypeId}
use Rattle.wit_model.specs.declared.name.WorldId.{WorldId}
use Rattle.wit_model.specs.declared.resolve.Resolve.{Resolve}
use Rattle.wit_model.specs.declared.types.TypeDef.{TypeDef}
use Rattle.wit_model.specs.declared.types.TypeDefKind.{TypeDefKind}
use Rattle.wit_model.specs.declared.types.TypeDefKind.TheVariants as kind
use Rattle.wit_model.specs.declared.types.WitType.{WitType}
use Rattle.wit_model.specs.declared.types.WitType.TheVariants.{Id}
use Rattle.wit_model.specs.declared.world.World.{World}
use Rattle.wit_model.specs.Distinct.{is_distinct}
use Rattle.wit_model.specs.WellFormed.{IsWellFormed}
use Rattle.rust_tree.specs.Ident.{is_ident, rust_ident}
use Rattle.type_facts.specs.declared.info.TypeInfo.{TypeInfo}
use Rattle.type_facts.specs.Facts.{IsInfoOf}
use Rattle.type_defs.specs.declared.type_opts.TypeOpts.{TypeOpts}
use Rattle.type_defs.specs.Modes.{is_owning, is_wanted}
use Rattle.type_defs.specs.Defined.{are_defined_kinds, have_defined_parts}
use Rattle.type_defs.specs.Levels.{are_shallow}
use Rattle.type_defs.specs.ListedTypes.{listed_types}
use Rattle.type_defs.specs.NamedParts.{HasNamedParts}
use Rattle.type_defs.specs.PrintedTypes.{field_names, member_names, type_name}
use Rattle.type_defs.specs.Used.{Covers, defined_types, function_types}
use Rattle.type_defs.specs.WitForm.{is_wit_form}

-- the fields of a record, the cases of a variant or an enum, the members of a flags type
abbrev pub are_named_parts : TypeDefKind → Bool
are_named_parts (kind.Record fields) = list_all (λ f. is_ident (rust_ident f.name) && is_wit_form f.name.wit) fields
are_named_parts (kind.Variant cases) = list_all (λ c. is_ident c.name.camel) cases
are_named_parts (kind.Enum cases) = list_all (λ c. is_ident c.name.camel && is_wit_form c.name.wit) cases
are_named_parts (kind.Flags members) = list_all (λ m. is_ident m.name.upper) members
are_named_parts _ = true

-- each named type that a type reaches has a name that a type may have, and so have its fields or members
pub record IsNamedDefinition (types : List TypeDef) (id : TypeId) : Type 0 where
  pub reached : HasNamedParts types (Id id)
  pub parts : (entry : TypeDef) → slice_get types id.0 ≡ Some entry → are_named_parts entry.kind ≡ true

-- what is known of tables whose types are defined: they are well formed, their types are of kinds that are defined, no way down is
-- too long, types are owned, the world lists types of the table, and each named one that a function uses. The names of each type that
-- the world lists and the file defines may stand there, and no two are the same
pub record AreDefinable (opts : TypeOpts) (r : Resolve) (id : WorldId) (world : World) : Type 0 where
  pub checked : IsWellFormed r
  pub found : slice_get r.worlds id.0 ≡ Some world
  pub shallow : are_shallow r.types ≡ true
  pub kinds : are_defined_kinds r.types ≡ true
  pub parts : have_defined_parts r.types ≡ true
  pub owning : is_owning opts.ownership ≡ true
  pub covered : (ty : WitType) → Contains (function_types r world) ty → Covers r world ty
  pub apart : is_distinct (map type_name (defined_types opts r world)) ≡ true
  pub fields : list_all (λ t. is_distinct (field_names t.kind)) (defined_types opts r world) ≡ true
  pub members : list_all (λ t. is_distinct (member_names t.kind)) (defined_types opts r world) ≡ true
  pub within : list_all (λ type. nat_lt type.0 (length r.types)) (listed_types world) ≡ true
  pub named : (type : TypeId) (entry : TypeDef) (info : TypeInfo) → Contains (listed_types world) type → slice_get r.types type.0 ≡ Some entry → IsInfoOf r id type info → is_wanted opts info entry.kind ≡ true
      → IsNamedDefinition r.types type
