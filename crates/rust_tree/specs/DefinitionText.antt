-- The text of the definition of a type.
use Rattle.std.specs.Prelude.{Bool, true, false, [], ◌++◌}
use Rattle.std.specs.List.{flat_map}
use Rattle.rust_tree.specs.declared.type_item.AliasItem.{AliasItem}
use Rattle.rust_tree.specs.declared.type_item.StructField.{StructField}
use Rattle.rust_tree.specs.declared.type_item.StructItem.{StructItem}
use Rattle.rust_tree.specs.declared.type_item.TypeItem.{TypeItem}
use Rattle.rust_tree.specs.declared.type_item.TypeItem.TheVariants.{Struct, Alias, Enum, Flags, Variant}
use Rattle.rust_tree.specs.declared.print.word.definition.DefinitionWord.TheVariants.{ReprC, PublicStruct, PublicField, FieldEnd, DebugImpl, DebugFn, DebugStruct, DebugName, DebugField, DebugValue, Finish, PublicType}
use Rattle.rust_tree.specs.declared.print.word.sign.Sign.TheVariants.{StatementEnd, OpenBlock, CloseBlock, Close, Colon, Equals}
use Rattle.rust_tree.specs.CodeText.{doc_text, type_text}
use Rattle.rust_tree.specs.Derives.{derives_text}
use Rattle.rust_tree.specs.EnumText.{enum_text, error_type_text}
use Rattle.rust_tree.specs.FlagsText.{flags_text}
use Rattle.rust_tree.specs.VariantText.{variant_text}
use Rattle.wit_model.specs.Bytes.{Bytes}
use Rattle.rust_tree.specs.Word.{definition_word, sign}

-- `#[repr(C)]`, or nothing
abbrev pub repr_text : Bool → Bytes
repr_text true = definition_word ReprC
repr_text false = []

-- `pub name: T,`
abbrev pub field_text : StructField → Bytes
field_text f = flat_map doc_text f.docs ++ definition_word PublicField ++ f.name ++ sign Colon ++ type_text f.ty ++ definition_word FieldEnd

-- `.field("name", &self.name)`
abbrev pub debug_field_text : StructField → Bytes
debug_field_text f = definition_word DebugField ++ f.wit ++ definition_word DebugValue ++ f.name ++ sign Close

-- `Debug`, which writes each field under its WIT name
unfoldable pub debug_text : StructItem → Bytes
debug_text s =
    definition_word DebugImpl ++ s.name ++ sign OpenBlock ++ definition_word DebugFn ++ definition_word DebugStruct ++ s.name ++ definition_word DebugName ++ flat_map debug_field_text s.fields ++ definition_word Finish ++ sign CloseBlock ++ sign CloseBlock

-- the doc lines and attributes, and `pub struct N {`
unfoldable pub struct_head_text : StructItem → Bytes
struct_head_text s =
    flat_map doc_text s.docs ++ repr_text s.repr_c ++ derives_text s.derives ++ definition_word PublicStruct ++ s.name ++ sign OpenBlock

-- a struct, its `Debug`, and what it has besides where it is an error type
abbrev pub struct_text : StructItem → Bytes
struct_text s = struct_head_text s ++ flat_map field_text s.fields ++ sign CloseBlock ++ debug_text s ++ error_type_text s.name s.error

-- `pub type N = T;`
abbrev pub alias_text : AliasItem → Bytes
alias_text a = flat_map doc_text a.docs ++ definition_word PublicType ++ a.name ++ sign Equals ++ type_text a.ty ++ sign StatementEnd

abbrev pub type_item_text : TypeItem → Bytes
type_item_text (Struct s) = struct_text s
type_item_text (Alias a) = alias_text a
type_item_text (Enum e) = enum_text e
type_item_text (Flags f) = flags_text f
type_item_text (Variant v) = variant_text v
