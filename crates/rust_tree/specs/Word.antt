-- The fixed words of the printed text, by subject.
use Rattle.std.specs.Prelude.{codes}
use Rattle.wit_model.specs.Bytes.{Bytes}
use Rattle.rust_tree.specs.declared.print.word.sign.Sign.{Sign}
use Rattle.rust_tree.specs.declared.print.word.sign.Sign.TheVariants.{LineEnd, StatementEnd, OpenBlock, CloseBlock, Open, Close, Comma, Colon, Arrow, PathMark, Super, Reference, As, Let, LetMut, Equals, Minus}
use Rattle.rust_tree.specs.declared.print.word.item.ItemWord.{ItemWord}
use Rattle.rust_tree.specs.declared.print.word.item.ItemWord.TheVariants.{Preamble, EmptyDoc, Doc, PublicFn, OpenUnsafe, PublicTrait, Method, UnitType, StrType, StringName}
use Rattle.rust_tree.specs.declared.print.word.import.ImportWord.{ImportWord}
use Rattle.rust_tree.specs.declared.print.word.import.ImportWord.TheVariants.{WasmLink, ExternBlock, LinkedFn, OtherFn, Unreachable, UnnamedParam}
use Rattle.rust_tree.specs.declared.print.word.expr.ExprWord.{ExprWord}
use Rattle.rust_tree.specs.declared.print.word.expr.ExprWord.TheVariants.{Match, BoolArms, AsPtr, Len, CastMut, AreaPointer, Dereference, Add, CastTo, CastEnd, FromRawParts, PointerCast, IntoBoxedBytes, StaticPointer, OpenFields, CloseFields, OpenArray, CloseArray, LoneComma, Widened, CaseNumber}
use Rattle.rust_tree.specs.declared.print.word.area.AreaWord.{AreaWord}
use Rattle.rust_tree.specs.declared.print.word.area.AreaWord.TheVariants.{PointerAlign, Align, AlignEnd, AreaType, AreaValue, AreaEnd, StaticArea}
use Rattle.rust_tree.specs.declared.print.word.export.ExportWord.{ExportWord}
use Rattle.rust_tree.specs.declared.print.word.export.ExportWord.TheVariants.{WrapperFn, Bound, BoundEnd, BoundBlock, PlainBlock, Implementation, CallBlockEnd, PostReturnFn, PostReturnBound}
use Rattle.rust_tree.specs.declared.print.word.macros.MacroWord.{MacroWord}
use Rattle.rust_tree.specs.declared.print.word.macros.MacroWord.TheVariants.{ModuleRules, ModuleArm, ExportName, ExternFn, CallWrapper, ForImplementation, CallWrapperEnd, ModuleUse, ModuleUseEnd, RootRules, RootArms, CallModule, CallModuleEnd, RootUse, RootUseEnd, ExternPostReturn, CallPostReturn, ForType}
use Rattle.rust_tree.specs.declared.print.word.runtime.RuntimeWord.{RuntimeWord}
use Rattle.rust_tree.specs.declared.print.word.runtime.RuntimeWord.TheVariants.{RuntimeModule, ExternCrate, PublicUse, UnsafeFn, DeallocParams, MakeLayout, Dealloc}
use Rattle.rust_tree.specs.declared.print.word.conversion.ConversionWord.{ConversionWord}
use Rattle.rust_tree.specs.declared.print.word.conversion.ConversionWord.TheVariants.{ConversionFn, ConversionBound, ConversionParam, ConvertParam, ReferenceBound, ReferenceTrait, ForReference, ConvertTarget, CallEnd, ConversionImpl, ImplFor, Inline, TakesSelf, CastSelf}
use Rattle.rust_tree.specs.declared.print.word.definition.DefinitionWord.{DefinitionWord}
use Rattle.rust_tree.specs.declared.print.word.definition.DefinitionWord.TheVariants.{ReprC, Derive, DeriveEnd, PublicStruct, PublicField, FieldEnd, DebugImpl, DebugFn, DebugStruct, DebugName, DebugField, DebugValue, Finish, PublicType, TupleEnd, OptionType, ResultType, TypeEnd, ArrayLength}
use Rattle.rust_tree.specs.declared.print.word.lift.LiftWord.{LiftWord}
use Rattle.rust_tree.specs.declared.print.word.lift.LiftWord.TheVariants.{IfDebug, Otherwise, LiftEnd, BoolLiftType, CheckedBool, UncheckedBool, CharLiftType, CheckedChar, UncheckedChar, StringLiftType, CheckedString, UncheckedString, NoCaseType, CheckedNoCase, UncheckedNoCase}
use Rattle.rust_tree.specs.declared.print.word.enums.EnumWord.{EnumWord}
use Rattle.rust_tree.specs.declared.print.word.enums.EnumWord.TheVariants.{OpenRepr, CloseRepr, PublicEnum, CaseEnd, Impl, MatchSelf, CaseTuple, CaseFinish, PayloadTuple, PayloadFinish, NameFn, MessageFn, CaseText, CaseTextEnd, ErrorFields, DisplayImpl, WriteError, WriteDebug, StdFeature, ErrorImpl, EmptyBlock, LiftFn, LiftResult, LiftBody, Arm, NoCase, EscapedQuote, EscapedBackslash, EscapedLineFeed, EscapedReturn}
use Rattle.rust_tree.specs.declared.print.word.flags.FlagsWord.{FlagsWord}
use Rattle.rust_tree.specs.declared.print.word.flags.FlagsWord.TheVariants.{OpenMacro, PublicFlags, Const, Bit, Bits, AsCoreWord, Empty, Or, FromBits, AsWord, ShiftedBy, FromBitsEnd}
use Rattle.rust_tree.specs.declared.print.word.matches.MatchWord.{MatchWord}
use Rattle.rust_tree.specs.declared.print.word.matches.MatchWord.TheVariants.{OpenArm, CloseArm, CloseBound, LeftOut, AnyOther, Assert, AssertEnd}
use Rattle.rust_tree.specs.declared.print.word.slot.SlotWord.{SlotWord}
use Rattle.rust_tree.specs.declared.print.word.slot.SlotWord.TheVariants.{Uninit, Write, WriteEnd}

-- marks and small words
unfoldable pub sign : Sign → Bytes
sign LineEnd = codes "\n"
sign StatementEnd = codes ";\n"
sign OpenBlock = codes " {\n"
sign CloseBlock = codes "}\n"
sign Open = codes "("
sign Close = codes ")"
sign Comma = codes ", "
sign Colon = codes ": "
sign Arrow = codes " -> "
sign PathMark = codes "::"
sign Super = codes "super::"
sign Reference = codes "&"
sign As = codes " as "
sign Let = codes "let "
sign LetMut = codes "let mut "
sign Equals = codes " = "
sign Minus = codes "-"

-- the file's head, functions, traits and types
unfoldable pub item_word : ItemWord → Bytes
item_word Preamble = codes "// Generated by `wit-bindgen` 0.63.0. DO NOT EDIT!\n// Options used:\n"
item_word EmptyDoc = codes "///\n"
item_word Doc = codes "/// "
item_word PublicFn = codes "#[allow(unused_unsafe, clippy::all)]\npub fn "
item_word OpenUnsafe = codes " {\nunsafe {\n"
item_word PublicTrait = codes "pub trait "
item_word Method = codes "fn "
item_word UnitType = codes "()"
item_word StrType = codes "str"
item_word StringName = codes "_rt::String"

-- the declaration of a core import
unfoldable pub import_word : ImportWord → Bytes
import_word WasmLink = codes "#[cfg(target_arch = \"wasm32\")]\n#[link(wasm_import_module = \""
import_word ExternBlock = codes "\")]\nunsafe extern \"C\" {\n#[link_name = \""
import_word LinkedFn = codes "\"]\nfn "
import_word OtherFn = codes "#[cfg(not(target_arch = \"wasm32\"))]\nunsafe extern \"C\" fn "
import_word Unreachable = codes " { unreachable!() }\n"
import_word UnnamedParam = codes "_: "

-- expressions
unfoldable pub expr_word : ExprWord → Bytes
expr_word Match = codes "match "
expr_word BoolArms = codes " { true => 1i32, false => 0i32 }"
expr_word AsPtr = codes ".as_ptr().cast::<u8>()"
expr_word Len = codes ".len()"
expr_word CastMut = codes ".cast_mut()"
expr_word AreaPointer = codes ".0.as_mut_ptr().cast::<u8>()"
expr_word Dereference = codes "*"
expr_word Add = codes ".add("
expr_word CastTo = codes ").cast::<"
expr_word CastEnd = codes ">()"
expr_word FromRawParts = codes "_rt::Vec::from_raw_parts("
expr_word PointerCast = codes ".cast(), "
expr_word IntoBoxedBytes = codes ".into_bytes()).into_boxed_slice()"
expr_word StaticPointer = codes "(&raw mut _RET_AREA.0).cast::<u8>()"
expr_word OpenFields = codes " { "
expr_word CloseFields = codes " }"
expr_word OpenArray = codes "["
expr_word CloseArray = codes "]"
expr_word LoneComma = codes ","
expr_word Widened = codes "i32::from(*"
expr_word CaseNumber = codes ").clone() as i32"

-- a return area, and a static one
unfoldable pub area_word : AreaWord → Bytes
area_word PointerAlign = codes "#[cfg_attr(target_pointer_width = \"64\", repr(align(8)))]\n#[cfg_attr(target_pointer_width = \"32\", repr(align(4)))]\n"
area_word Align = codes "#[repr(align("
area_word AlignEnd = codes "))]\n"
area_word AreaType = codes "struct _RetArea([::core::mem::MaybeUninit::<u8>; "
area_word AreaValue = codes "_RetArea([::core::mem::MaybeUninit::uninit(); "
area_word AreaEnd = codes "]);\n"
area_word StaticArea = codes "static mut _RET_AREA: _RetArea = "

-- an export wrapper, and a post-return function
unfoldable pub export_word : ExportWord → Bytes
export_word WrapperFn = codes "#[doc(hidden)]\n#[allow(non_snake_case, unused_unsafe)]\npub unsafe fn _export_"
export_word Bound = codes "_cabi<T_: "
export_word BoundEnd = codes ">"
export_word BoundBlock = codes " = {\n"
export_word PlainBlock = codes "{\n"
export_word Implementation = codes "T_::"
export_word CallBlockEnd = codes "\n};\n"
export_word PostReturnFn = codes "#[doc(hidden)]\n#[allow(non_snake_case, unused_unsafe)]\npub unsafe fn __post_return_"
export_word PostReturnBound = codes "<T_: "

-- the macros that export functions
unfoldable pub macro_word : MacroWord → Bytes
macro_word ModuleRules = codes "#[doc(hidden)]\nmacro_rules! __export_"
macro_word ModuleArm = codes "_cabi {\n($ty:ident with_types_in $($path_to_types:tt)*) => (const _: () = {\n"
macro_word ExportName = codes "#[unsafe(export_name = \""
macro_word ExternFn = codes "\")]\nunsafe extern \"C\" fn export_"
macro_word CallWrapper = codes " {\nunsafe { $($path_to_types)*::_export_"
macro_word ForImplementation = codes "_cabi::<$ty>("
macro_word CallWrapperEnd = codes ") }\n}\n"
macro_word ModuleUse = codes "};);\n}\n#[doc(hidden)]\npub(crate) use __export_"
macro_word ModuleUseEnd = codes "_cabi;\n"
macro_word RootRules = codes "#[allow(unused_macros)]\n#[doc(hidden)]\nmacro_rules! __export_"
macro_word RootArms = codes "_impl {\n($ty:ident) => (self::export!($ty with_types_in self););\n($ty:ident with_types_in $($path_to_types_root:tt)*) => (\n"
macro_word CallModule = codes "$($path_to_types_root)*::__export_"
macro_word CallModuleEnd = codes "_cabi!($ty with_types_in $($path_to_types_root)*);\n"
macro_word RootUse = codes ")\n}\n#[doc(inline)]\npub(crate) use __export_"
macro_word RootUseEnd = codes "_impl as export;\n"
macro_word ExternPostReturn = codes "\")]\nunsafe extern \"C\" fn _post_return_"
macro_word CallPostReturn = codes " {\nunsafe { $($path_to_types)*::__post_return_"
macro_word ForType = codes "::<$ty>("

-- the module `_rt`, what it takes from the crate `alloc`, its unsafe functions, and the one that frees a block
unfoldable pub runtime_word : RuntimeWord → Bytes
runtime_word RuntimeModule = codes "mod _rt {\n#![allow(dead_code, unused_imports, clippy::all)]\n"
runtime_word ExternCrate = codes "extern crate alloc as "
runtime_word PublicUse = codes "pub use "
runtime_word UnsafeFn = codes "pub unsafe fn "
runtime_word DeallocParams = codes "(ptr: *mut u8, size: usize, align: usize) {\nif size == 0 {\nreturn;\n}\nunsafe {\nlet layout = "
runtime_word MakeLayout = codes "::Layout::from_size_align_unchecked(size, align);\n"
runtime_word Dealloc = codes "::dealloc(ptr, layout);\n}\n}\n"

-- the runtime items that take a number to a core value
unfoldable pub conversion_word : ConversionWord → Bytes
conversion_word ConversionFn = codes "pub fn "
conversion_word ConversionBound = codes "<T: "
conversion_word ConversionParam = codes ">(t: T) -> "
conversion_word ConvertParam = codes "t."
conversion_word ReferenceBound = codes "impl<'a, T: Copy + "
conversion_word ReferenceTrait = codes "> "
conversion_word ForReference = codes " for &'a T {\n"
conversion_word ConvertTarget = codes "(*self)."
conversion_word CallEnd = codes "()\n"
conversion_word ConversionImpl = codes "impl "
conversion_word ImplFor = codes " for "
conversion_word Inline = codes "#[inline]\n"
conversion_word TakesSelf = codes "(self) -> "
conversion_word CastSelf = codes "self as "

-- the runtime items that give the value of a core value, or find that it is none
unfoldable pub lift_word : LiftWord → Bytes
lift_word IfDebug = codes " {\nif cfg!(debug_assertions) {\n"
lift_word Otherwise = codes "} else {\n"
lift_word LiftEnd = codes "}\n}\n"
lift_word BoolLiftType = codes "(val: u8) -> bool"
lift_word CheckedBool = codes "match val {\n0 => false,\n1 => true,\n_ => panic!(\"invalid bool discriminant\"),\n}\n"
lift_word UncheckedBool = codes "val != 0\n"
lift_word CharLiftType = codes "(val: u32) -> char"
lift_word CheckedChar = codes "::core::char::from_u32(val).unwrap()\n"
lift_word UncheckedChar = codes "unsafe { ::core::char::from_u32_unchecked(val) }\n"
lift_word StringLiftType = codes "(bytes: Vec<u8>) -> String"
lift_word CheckedString = codes "String::from_utf8(bytes).unwrap()\n"
lift_word UncheckedString = codes "unsafe { String::from_utf8_unchecked(bytes) }\n"
lift_word NoCaseType = codes "<T>() -> T"
lift_word CheckedNoCase = codes "panic!(\"invalid enum discriminant\")\n"
lift_word UncheckedNoCase = codes "unsafe { ::core::hint::unreachable_unchecked() }\n"

-- the definition of a struct, its `Debug`, the definition of another name; the end of a tuple, and words of options, results and arrays
unfoldable pub definition_word : DefinitionWord → Bytes
definition_word ReprC = codes "#[repr(C)]\n"
definition_word Derive = codes "#[derive("
definition_word DeriveEnd = codes ")]\n"
definition_word PublicStruct = codes "pub struct "
definition_word PublicField = codes "pub "
definition_word FieldEnd = codes ",\n"
definition_word DebugImpl = codes "impl ::core::fmt::Debug for "
definition_word DebugFn = codes "fn fmt(&self, f: &mut ::core::fmt::Formatter<'_>) -> ::core::fmt::Result {\n"
definition_word DebugStruct = codes "f.debug_struct(\""
definition_word DebugName = codes "\")"
definition_word DebugField = codes ".field(\""
definition_word DebugValue = codes "\", &self."
definition_word Finish = codes ".finish()\n"
definition_word PublicType = codes "pub type "
definition_word TupleEnd = codes ",)"
definition_word OptionType = codes "::core::option::Option<"
definition_word ResultType = codes "::core::result::Result<"
definition_word TypeEnd = codes ">"
definition_word ArrayLength = codes "; "

-- the definition of an enum or a variant, its `Debug`, what an error type has, and `_lift`
unfoldable pub enum_word : EnumWord → Bytes
enum_word OpenRepr = codes "#[repr("
enum_word CloseRepr = codes ")]\n"
enum_word PublicEnum = codes "pub enum "
enum_word CaseEnd = codes ",\n"
enum_word Impl = codes "impl "
enum_word MatchSelf = codes "match self {\n"
enum_word CaseTuple = codes " => f.debug_tuple(\""
enum_word CaseFinish = codes "\").finish(),\n"
enum_word PayloadTuple = codes "(e) => f.debug_tuple(\""
enum_word PayloadFinish = codes "\").field(e).finish(),\n"
enum_word NameFn = codes "pub fn name(&self) -> &'static str {\n"
enum_word MessageFn = codes "pub fn message(&self) -> &'static str {\n"
enum_word CaseText = codes " => \""
enum_word CaseTextEnd = codes "\",\n"
enum_word ErrorFields = codes "\").field(\"code\", &(*self as i32)).field(\"name\", &self.name()).field(\"message\", &self.message()).finish()\n"
enum_word DisplayImpl = codes "impl ::core::fmt::Display for "
enum_word WriteError = codes "::core::write!(f, \"{} (error {})\", self.name(), *self as i32)\n"
enum_word WriteDebug = codes "::core::write!(f, \"{:?}\", self)\n"
enum_word StdFeature = codes "#[cfg(feature = \"std\")]\n"
enum_word ErrorImpl = codes "impl ::core::error::Error for "
enum_word EmptyBlock = codes " {}\n"
enum_word LiftFn = codes "#[doc(hidden)]\npub unsafe fn _lift(val: "
enum_word LiftResult = codes ") -> "
enum_word LiftBody = codes " {\nif !cfg!(debug_assertions) { return unsafe { ::core::mem::transmute(val) }; }\nmatch val {\n"
enum_word Arm = codes " => "
enum_word NoCase = codes "_ => panic!(\"invalid enum discriminant\"),\n}\n}\n}\n"
enum_word EscapedQuote = codes "\\\""
enum_word EscapedBackslash = codes "\\\\"
enum_word EscapedLineFeed = codes "\\n"
enum_word EscapedReturn = codes "\\r"

-- the definition of a flags type, and flags as words
unfoldable pub flags_word : FlagsWord → Bytes
flags_word OpenMacro = codes "::bitflags! {\n"
flags_word PublicFlags = codes "#[derive(PartialEq, Eq, PartialOrd, Ord, Hash, Debug, Clone, Copy)]\npub struct "
flags_word Const = codes "const "
flags_word Bit = codes " = 1 << "
flags_word Bits = codes ".bits() >> "
flags_word AsCoreWord = codes ") as i32"
flags_word Empty = codes "::empty()"
flags_word Or = codes " | "
flags_word FromBits = codes "::from_bits_retain((("
flags_word AsWord = codes " as u32 as "
flags_word ShiftedBy = codes ") << "
flags_word FromBitsEnd = codes ") as _)"

-- statements that are a `match`, and the test of a last case's number
unfoldable pub match_word : MatchWord → Bytes
match_word OpenArm = codes " => {\n"
match_word CloseArm = codes "},\n"
match_word CloseBound = codes "};\n"
match_word LeftOut = codes "(_)"
match_word AnyOther = codes "_"
match_word Assert = codes "debug_assert_eq!("
match_word AssertEnd = codes ", \"invalid enum discriminant\");\n"

-- a local for a number or a pointer
unfoldable pub slot_word : SlotWord → Bytes
slot_word Uninit = codes " = ::core::mem::MaybeUninit::<u64>::uninit();\n"
slot_word Write = codes ".as_mut_ptr().cast::<*mut u8>().write("
slot_word WriteEnd = codes ");\n"
