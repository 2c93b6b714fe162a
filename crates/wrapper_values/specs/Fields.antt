-- Which fields a record has, and in which order: those of the struct of the file that its path names.
use Rattle.std.specs.Prelude.{ℕ, zero, Bool, false, List, [], ◌∷◌, Option, None, Some, find, if◌then◌else◌, length, map, nat_eq, option_and_then}
use Rattle.std.specs.Option.{option_map, option_or}
use Rattle.std.specs.Str.{bytes_eq}
use Rattle.wit_model.specs.Bytes.{Bytes}
use Rattle.rust_tree.specs.declared.item.Item.{Item}
use Rattle.rust_tree.specs.declared.item.Item.TheVariants as item
use Rattle.rust_tree.specs.declared.path.Path.{Path}
use Rattle.rust_tree.specs.declared.type_item.StructField.{StructField}
use Rattle.rust_tree.specs.declared.type_item.TypeItem.{TypeItem}
use Rattle.rust_tree.specs.declared.type_item.TypeItem.TheVariants.{Struct, Alias, Enum, Flags, Variant}

-- definitions of types

abbrev pub type_name : TypeItem → Bytes
type_name (Struct s) = s.name
type_name (Alias a) = a.name
type_name (Enum e) = e.name
type_name (Flags f) = f.name
type_name (Variant v) = v.name

abbrev pub defined_in : Item → Bytes → Option TypeItem
defined_in (item.Type t) name = if bytes_eq (type_name t) name then Some t else None
defined_in _ name = None

-- the type of a name, at the root of the file
abbrev pub type_named : List Item → Bytes → Option TypeItem
type_named [] name = None
type_named (i ∷ items) name = option_or (defined_in i name) (type_named items name)

-- a name alone is one of the file; every other path leads outside of it
abbrev pub name_in : List Bytes → Option Bytes
name_in (name ∷ []) = Some name
name_in _ = None

abbrev pub root_name_by : Bool → ℕ → List Bytes → Option Bytes
root_name_by false zero names = name_in names
root_name_by _ _ names = None

abbrev pub root_name : Path → Option Bytes
root_name path = root_name_by path.lead path.supers path.names

abbrev pub fields_in : Option TypeItem → Option (List StructField)
fields_in (Some (Struct s)) = Some s.fields
fields_in _ = None

-- the order of fields

-- what stands for a field of this name
abbrev pub field_named : {A : Type 0} → Bytes → List (Bytes × A) → Option A
field_named name fields = option_map (λ f. f.1) (find (λ f. bytes_eq f.0 name) fields)

-- what stands for each of a struct's fields, in its order
abbrev pub each_named : {A : Type 0} → List StructField → List (Bytes × A) → Option (List A)
each_named [] fields = Some []
each_named (f ∷ more) fields = option_and_then (λ a. option_map (λ rest. a ∷ rest) (each_named more fields)) (field_named f.name fields)

-- and for no others
abbrev pub in_order : {A : Type 0} → List StructField → List (Bytes × A) → Option (List A)
in_order of fields = if nat_eq (length of) (length fields) then each_named of fields else None

abbrev pub arranged_by : {A : Type 0} → List Item → Option Bytes → List (Bytes × A) → Option (List A)
arranged_by items None fields = Some (map (λ f. f.1) fields)
arranged_by items (Some name) fields = option_and_then (λ of. in_order of fields) (fields_in (type_named items name))

-- what stands for the fields of a record, in the order of its struct; in that of the tree, where its path leads outside of the file
abbrev pub arranged : {A : Type 0} → List Item → Path → List (Bytes × A) → Option (List A)
arranged items path fields = arranged_by items (root_name path) fields
