-- The definitions of a world's types, each from its entry in the table, its facts and the options. So far these are aliases,
-- records, tuples, options, results, variants, enums and flags types, in the owned mode.
use Rattle.std.specs.Prelude.{◌≡◌, Bool, true, false, nat_le, List, [], ◌∷◌, length, Option, None, Some, map, slice_get}
use Rattle.std.specs.List.{AllZip, flat_map, list_all}
use Rattle.wit_model.specs.declared.name.Docs.{Docs}
use Rattle.wit_model.specs.declared.name.Name.{Name}
use Rattle.wit_model.specs.declared.name.TypeId.{TypeId}
use Rattle.wit_model.specs.declared.name.WorldId.{WorldId}
use Rattle.wit_model.specs.declared.resolve.Resolve.{Resolve}
use Rattle.wit_model.specs.declared.types.Field.{Field}
use Rattle.wit_model.specs.declared.types.TypeDef.{TypeDef}
use Rattle.wit_model.specs.declared.types.TypeDefKind.{TypeDefKind}
use Rattle.wit_model.specs.declared.types.TypeDefKind.TheVariants as kind
use Rattle.wit_model.specs.declared.types.WitType.{WitType}
use Rattle.wit_model.specs.declared.types.WitType.TheVariants.{ErrorContext}
use Rattle.wit_model.specs.declared.world.World.{World}
use Rattle.wit_model.specs.Parts.{parts}
use Rattle.rust_tree.specs.declared.type_expr.TypeExpr.{TypeExpr}
use Rattle.rust_tree.specs.declared.type_expr.TypeExpr.TheVariants as type
use Rattle.rust_tree.specs.declared.type_item.AliasItem.{AliasItem}
use Rattle.rust_tree.specs.declared.type_item.StructField.{StructField}
use Rattle.rust_tree.specs.declared.type_item.StructItem.{StructItem}
use Rattle.rust_tree.specs.declared.type_item.TypeItem.{TypeItem}
use Rattle.rust_tree.specs.declared.type_item.TypeItem.TheVariants as item
use Rattle.rust_tree.specs.Ident.{rust_ident}
use Rattle.type_facts.specs.declared.info.TypeInfo.{TypeInfo}
use Rattle.type_facts.specs.Facts.{IsInfoOf}
use Rattle.type_defs.specs.declared.type_opts.TypeOpts.{TypeOpts}
use Rattle.type_defs.specs.Derives.{derives_of, is_copied}
use Rattle.type_defs.specs.Docs.{doc_lines}
use Rattle.type_defs.specs.EnumDef.{enum_item}
use Rattle.type_defs.specs.ErrorDef.{error_type}
use Rattle.type_defs.specs.FlagsDef.{flags_item}
use Rattle.type_defs.specs.FunctionTypes.{passes_or_none}
use Rattle.type_defs.specs.ListedTypes.{listed_types}
use Rattle.type_defs.specs.Modes.{Mode, definitions, is_same_mode, owned_mode}
use Rattle.type_defs.specs.PartType.{part_type, result_type}
use Rattle.type_defs.specs.VariantDef.{variant_item}
use Rattle.wit_model.specs.Bytes.{Bytes}

-- by kind

abbrev pub field_item : List TypeDef → Field → StructField
field_item types f = record { docs = doc_lines f.docs; name = rust_ident f.name; wit = f.name.wit; ty = part_type types f.ty }

abbrev pub record_item : List TypeDef → TypeInfo → Docs → Bytes → List Field → StructItem
record_item types info docs name fields =
    record { docs = doc_lines docs; repr_c = is_copied info; derives = derives_of info; name = name; fields = map (field_item types) fields; error = error_type info }

abbrev pub alias_item : Docs → Bytes → TypeExpr → AliasItem
alias_item docs name ty = record { docs = doc_lines docs; name = name; ty = ty }

abbrev pub kind_items : List TypeDef → TypeInfo → Docs → Bytes → TypeDefKind → List TypeItem
kind_items types info docs name (kind.Record fields) = item.Struct (record_item types info docs name fields) ∷ []
kind_items types info docs name (kind.Alias ty) = item.Alias (alias_item docs name (part_type types ty)) ∷ []
kind_items types info docs name (kind.Tuple parts) = item.Alias (alias_item docs name (type.Tuple (map (part_type types) parts))) ∷ []
kind_items types info docs name (kind.Option ty) = item.Alias (alias_item docs name (type.Optional (part_type types ty))) ∷ []
kind_items types info docs name (kind.Result ok err) = item.Alias (alias_item docs name (result_type (part_type types) ok err)) ∷ []
kind_items types info docs name (kind.Variant cases) = item.Variant (variant_item types info docs name cases) ∷ []
kind_items types info docs name (kind.Enum cases) = item.Enum (enum_item info docs name cases) ∷ []
kind_items types info docs name (kind.Flags members) = item.Flags (flags_item docs name members) ∷ []
kind_items types info docs name _ = []

-- by name

-- the names and modes under which a type is defined; a type without a name is not
abbrev pub entry_definitions : TypeOpts → TypeInfo → TypeDefKind → Option Name → List (Bytes × Mode)
entry_definitions opts info kind None = []
entry_definitions opts info kind (Some name) = definitions opts info kind name

abbrev pub are_owned_modes : List (Bytes × Mode) → Bool
are_owned_modes ds = list_all (λ d. is_same_mode d.1 owned_mode) ds

abbrev pub entry_items : List TypeDef → TypeInfo → TypeDef → List (Bytes × Mode) → List TypeItem
entry_items types info entry ds = flat_map (λ d. kind_items types info entry.docs d.0 entry.kind) ds

-- the definitions of a type of the table, in a world: one for each of its names, which all have the owned mode
pub record AreDefinitionsOf (opts : TypeOpts) (r : Resolve) (world : WorldId) (id : TypeId) (items : List TypeItem) : Type 0 where
  pub entry : TypeDef
  pub entry_at : slice_get r.types id.0 ≡ Some entry
  pub info : TypeInfo
  pub facts : IsInfoOf r world id info
  pub owned : are_owned_modes (entry_definitions opts info entry.kind entry.name) ≡ true
  pub are : items ≡ entry_items r.types info entry (entry_definitions opts info entry.kind entry.name)

-- those of the types that a world lists itself, in its order
pub record AreDefinitions (opts : TypeOpts) (r : Resolve) (id : WorldId) (world : World) (items : List TypeItem) : Type 0 where
  pub of_each : List (List TypeItem)
  pub are : items ≡ flat_map (λ own. own) of_each
  pub defined : AllZip (AreDefinitionsOf opts r id) (listed_types world) of_each

-- the kinds that are defined so far; flags types have 128 members at most
abbrev pub is_defined_kind : TypeDefKind → Bool
is_defined_kind (kind.Alias _) = true
is_defined_kind (kind.Record _) = true
is_defined_kind (kind.Tuple _) = true
is_defined_kind (kind.Option _) = true
is_defined_kind (kind.Result _ _) = true
is_defined_kind (kind.Variant _) = true
is_defined_kind (kind.Enum _) = true
is_defined_kind (kind.Flags members) = nat_le (length members) 128
is_defined_kind _ = false

abbrev pub are_defined_kinds : List TypeDef → Bool
are_defined_kinds types = list_all (λ entry. is_defined_kind entry.kind) types

-- the types that they may name so far: no error context
abbrev pub is_defined_type : WitType → Bool
is_defined_type ErrorContext = false
is_defined_type _ = true

abbrev pub is_defined_part : Option WitType → Bool
is_defined_part part = passes_or_none is_defined_type part

abbrev pub have_defined_parts : List TypeDef → Bool
have_defined_parts types = list_all (λ entry. list_all is_defined_part (parts entry.kind)) types
