-- Whether the names and versions of the tables are written as WIT writes them, and functions and types stand under names: rules
-- that tables without interfaces can break.
use Rattle.std.specs.Prelude.{ℕ, Bool, true, false, not, ◌&&◌, ◌||◌, nat_le, ◌==◌, List, Option, None, Some}
use Rattle.std.specs.List.{list_all}
use Rattle.wit_model.specs.declared.function.Function.{Function}
use Rattle.wit_model.specs.declared.name.Name.{Name}
use Rattle.wit_model.specs.declared.types.TypeDef.{TypeDef}
use Rattle.wit_model.specs.declared.types.TypeDefKind.{TypeDefKind}
use Rattle.wit_model.specs.declared.types.TypeDefKind.TheVariants as kind
use Rattle.wit_model.specs.declared.world.Package.{Package}
use Rattle.wit_model.specs.declared.world.World.{World}
use Rattle.wit_model.specs.declared.world.WorldKey.{WorldKey}
use Rattle.wit_model.specs.declared.world.WorldKey.TheVariants as key
use Rattle.wit_model.specs.declared.world.WorldItem.{WorldItem}
use Rattle.wit_model.specs.declared.world.WorldItem.TheVariants as item
use Rattle.wit_model.specs.declared.resolve.Resolve.{Resolve}
use Rattle.type_defs.specs.WitForm.{is_nonempty, is_wit_form}

-- `"`, `\`, `/`, `#` and `:` stand in no version
abbrev pub is_version_mark : ℕ → Bool
is_version_mark c = not ((c == 34) || (c == 92) || (c == 47) || (c == 35) || (c == 58))

-- a printable character of ASCII, and no space
abbrev pub is_version_char : ℕ → Bool
is_version_char c = nat_le 33 c && nat_le c 126 && is_version_mark c

abbrev pub is_version : Option (List ℕ) → Bool
is_version None = true
is_version (Some t) = is_nonempty t && list_all is_version_char t

abbrev pub is_written_package : Package → Bool
is_written_package p = is_wit_form p.namespace.wit && is_wit_form p.name.wit && is_version p.version

abbrev pub is_written_function : Function → Bool
is_written_function f = is_wit_form f.name.wit && list_all (λ p. is_wit_form p.name.wit) f.params

abbrev pub is_written_type_name : Option Name → Bool
is_written_type_name None = true
is_written_type_name (Some name) = is_wit_form name.wit

abbrev pub are_written_members : TypeDefKind → Bool
are_written_members (kind.Record fields) = list_all (λ f. is_wit_form f.name.wit) fields
are_written_members (kind.Variant cases) = list_all (λ c. is_wit_form c.name.wit) cases
are_written_members (kind.Enum members) = list_all (λ m. is_wit_form m.name.wit) members
are_written_members (kind.Flags members) = list_all (λ m. is_wit_form m.name.wit) members
are_written_members _ = true

-- a type's name, where it has one, and those of its members
abbrev pub is_written_type : TypeDef → Bool
is_written_type t = is_written_type_name t.name && are_written_members t.kind

-- functions and types stand under names
abbrev pub is_written_key : WorldKey → Bool
is_written_key (key.Name name) = is_wit_form name.wit
is_written_key (key.Interface _) = false

abbrev pub is_written_item : WorldItem → Bool
is_written_item (item.Interface _) = true
is_written_item (item.Function f) = is_written_function f
is_written_item (item.Named _) = true

abbrev pub is_written_entry : WorldKey × WorldItem → Bool
is_written_entry entry = is_written_key entry.0 && is_written_item entry.1

abbrev pub is_written_world : World → Bool
is_written_world world = is_wit_form world.name.wit && list_all is_written_entry world.imports && list_all is_written_entry world.exports

unfoldable pub are_written_tables : Resolve → Bool
are_written_tables r = list_all is_written_package r.packages && list_all is_written_type r.types && list_all is_written_world r.worlds
