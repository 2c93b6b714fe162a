-- The definition of an enum.
use Rattle.std.specs.Prelude.{ℕ, false, nat_le, List, length, Option, None, Some, map, if◌then◌else◌}
use Rattle.wit_model.specs.declared.name.Docs.{Docs}
use Rattle.wit_model.specs.declared.types.Member.{Member}
use Rattle.rust_tree.specs.declared.enum_item.EnumCase.{EnumCase}
use Rattle.rust_tree.specs.declared.enum_item.EnumItem.{EnumItem}
use Rattle.rust_tree.specs.declared.enum_item.ErrorCase.{ErrorCase}
use Rattle.rust_tree.specs.declared.enum_item.ErrorEnum.{ErrorEnum}
use Rattle.rust_tree.specs.declared.repr.Repr.{Repr}
use Rattle.rust_tree.specs.declared.repr.Repr.TheVariants.{U8, U16, U32}
use Rattle.type_facts.specs.declared.info.TypeInfo.{TypeInfo}
use Rattle.type_defs.specs.Derives.{enum_derives}
use Rattle.type_defs.specs.Docs.{doc_lines, trimmed_docs}
use Rattle.wit_model.specs.Bytes.{Bytes}

-- the number of the case, of an enum with so many
abbrev pub enum_repr : ℕ → Repr
enum_repr count = if nat_le count 256 then U8 else if nat_le count 65536 then U16 else U32

abbrev pub enum_case : Member → EnumCase
enum_case c = record { docs = doc_lines c.docs; name = c.name.camel }

abbrev pub error_case : Member → ErrorCase
error_case c = record { name = c.name.camel; wit = c.name.wit; message = trimmed_docs c.docs }

-- the option for the feature `std` is at its default so far
abbrev pub error_enum : List Member → ErrorEnum
error_enum cases = record { std_feature = false; cases = map error_case cases }

abbrev pub enum_error : TypeInfo → List Member → Option ErrorEnum
enum_error info cases = if info.error then Some (error_enum cases) else None

abbrev pub enum_item : TypeInfo → Docs → Bytes → List Member → EnumItem
enum_item info docs name cases = record {
  docs = doc_lines docs;
  repr = enum_repr (length cases);
  derives = enum_derives;
  name = name;
  cases = map enum_case cases;
  error = enum_error info cases;
}
