-- Which items of a file its types are.
use Rattle.std.specs.Prelude.{◌≡◌, true, ℕ, List, length, map, Option, None, Some, IfSome, option_and_then, slice_get}
use Rattle.std.specs.List.{AllByRecursion}
use Rattle.std.specs.Option.{option_map}
use Rattle.wit_model.specs.Bytes.{Bytes}
use Rattle.wit_model.specs.Distinct.{is_distinct}
use Rattle.rust_tree.specs.declared.enum_item.EnumItem.{EnumItem}
use Rattle.rust_tree.specs.declared.flags_item.FlagsItem.{FlagsItem}
use Rattle.rust_tree.specs.declared.item.Item.{Item}
use Rattle.rust_tree.specs.declared.item.Item.TheVariants as item
use Rattle.rust_tree.specs.declared.repr.Repr.{Repr}
use Rattle.rust_tree.specs.declared.type_item.StructField.{StructField}
use Rattle.rust_tree.specs.declared.type_item.TypeItem.{TypeItem}
use Rattle.rust_tree.specs.declared.type_item.TypeItem.TheVariants.{Variant}
use Rattle.rust_tree.specs.declared.variant_item.VariantItem.{VariantItem}
use Rattle.wrapper_values.specs.Enums.{enum_in}
use Rattle.wrapper_values.specs.Fields.{fields_in, root_name, type_named}
use Rattle.wrapper_values.specs.Flags.{flags_in}
use Rattle.func_gen.specs.declared.enum_site.EnumSite.{EnumSite}
use Rattle.func_gen.specs.declared.flags_site.FlagsSite.{FlagsSite}
use Rattle.func_gen.specs.declared.record_site.RecordSite.{RecordSite}
use Rattle.func_gen.specs.declared.type_site.TypeSite.{TypeSite}
use Rattle.func_gen.specs.declared.type_site.TypeSite.TheVariants as site
use Rattle.func_gen.specs.declared.variant_site.VariantSite.{VariantSite}

abbrev pub field_names : List StructField → List Bytes
field_names fields = map (λ f. f.name) fields

-- a name of the file is that of a struct with exactly these fields, in this order; a path without such a name leads outside of the file
abbrev pub HasFields : List Item → List Bytes → Option Bytes → Type 0
HasFields items fields None = Unit {0}
HasFields items fields (Some name) = option_map field_names (fields_in (type_named items name)) ≡ Some fields

pub record DefinesRecord (items : List Item) (site : RecordSite) : Type 0 where
  pub lifted : HasFields items site.fields (root_name site.lifted)
  pub lowered : HasFields items site.fields (root_name site.lowered)
  pub distinct : is_distinct site.fields ≡ true

-- an enum's number that holds a case, and how many cases it has
abbrev pub held_cases : EnumItem → Repr × ℕ
held_cases e = (e.repr, length e.cases)

-- a name of the file is that of an enum with so many cases, held so
abbrev pub HasCases : List Item → Repr × ℕ → Option Bytes → Type 0
HasCases items held None = Unit {0}
HasCases items held (Some name) = option_map held_cases (enum_in (type_named items name)) ≡ Some held

abbrev pub DefinesEnum : List Item → EnumSite → Type 0
DefinesEnum items s = HasCases items (s.repr, s.cases) (root_name s.path)

-- a flags type's number that holds the members, and how many it has
abbrev pub held_members : FlagsItem → Repr × ℕ
held_members f = (f.repr, length f.members)

-- and that of a flags type with so many members, held so
abbrev pub HasMembers : List Item → Repr × ℕ → Option Bytes → Type 0
HasMembers items held None = Unit {0}
HasMembers items held (Some name) = option_map held_members (flags_in (type_named items name)) ≡ Some held

abbrev pub DefinesFlags : List Item → FlagsSite → Type 0
DefinesFlags items s = HasMembers items (s.repr, s.members) (root_name s.path)

abbrev pub variant_in : Option TypeItem → Option VariantItem
variant_in (Some (Variant v)) = Some v
variant_in _ = None

abbrev pub case_names : VariantItem → List Bytes
case_names v = map (λ c. c.name) v.cases

-- and that of a variant with exactly these cases, in this order
abbrev pub HasCaseNames : List Item → List Bytes → Option Bytes → Type 0
HasCaseNames items cases None = Unit {0}
HasCaseNames items cases (Some name) = option_map case_names (variant_in (type_named items name)) ≡ Some cases

pub record DefinesVariant (items : List Item) (s : VariantSite) : Type 0 where
  pub lifted : HasCaseNames items s.cases (root_name s.lifted)
  pub lowered : HasCaseNames items s.cases (root_name s.lowered)
  pub distinct : is_distinct s.cases ≡ true

abbrev pub Defines : List Item → TypeSite → Type 0
Defines items (site.Record s) = DefinesRecord items s
Defines items (site.Enum s) = DefinesEnum items s
Defines items (site.Flags s) = DefinesFlags items s
Defines items (site.Variant s) = DefinesVariant items s

-- the items of a file define each type that has a site
abbrev pub AreDefined : List Item → List (Option TypeSite) → Type 0
AreDefined items sites = AllByRecursion (λ s. IfSome s (Defines items)) sites

-- how the type at a place of the table is written
abbrev pub site_at : List (Option TypeSite) → ℕ → Option TypeSite
site_at sites id = option_and_then (λ s. s) (slice_get sites id)

abbrev pub items_of : List TypeItem → List Item
items_of defs = map (λ d. item.Type d) defs

-- some definitions of types do
abbrev pub CanBeDefined : List (Option TypeSite) → Type 0
CanBeDefined sites = (defs : List TypeItem) × AreDefined (items_of defs) sites
