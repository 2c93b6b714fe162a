-- The text of doc lines, paths, types, expressions and statements.
use Rattle.std.specs.Prelude.{ℕ, zero, suc, ℤ, pos, Bool, true, false, List, [], ◌∷◌, ◌++◌, Option, Some, None, if◌then◌else◌, codes, decimal, int_lt, map, unsigned_abs}
use Rattle.std.specs.List.{flat_map, join_by}
use Rattle.wit_model.specs.declared.size.Alignment.{Alignment}
use Rattle.wit_model.specs.declared.size.Alignment.TheVariants as align
use Rattle.wit_model.specs.declared.size.ArchitectureSize.{ArchitectureSize}
use Rattle.wit_model.specs.declared.wasm_type.WasmType.{WasmType}
use Rattle.wit_model.specs.declared.wasm_type.WasmType.TheVariants as core
use Rattle.wit_model.specs.SizeText.{size_text}
use Rattle.rust_tree.specs.declared.area.ReturnArea.{ReturnArea}
use Rattle.rust_tree.specs.declared.expr.CastType.{CastType}
use Rattle.rust_tree.specs.declared.expr.CastType.TheVariants as cast
use Rattle.rust_tree.specs.declared.expr.Expr.{Expr, Expr-F, fold-Expr}
use Rattle.rust_tree.specs.declared.expr.Method.{Method}
use Rattle.rust_tree.specs.declared.expr.Method.TheVariants as method
use Rattle.rust_tree.specs.declared.expr.SmallType.{SmallType}
use Rattle.rust_tree.specs.declared.expr.SmallType.TheVariants as small
use Rattle.rust_tree.specs.declared.expr.ZeroType.{ZeroType}
use Rattle.rust_tree.specs.declared.expr.ZeroType.TheVariants as zero_of
use Rattle.rust_tree.specs.declared.path.Path.{Path}
use Rattle.rust_tree.specs.declared.pattern.ArmPattern.{ArmPattern}
use Rattle.rust_tree.specs.declared.pattern.ArmPattern.TheVariants as arm
use Rattle.rust_tree.specs.declared.pattern.Pattern.{Pattern}
use Rattle.rust_tree.specs.declared.pattern.Pattern.TheVariants as pattern
use Rattle.rust_tree.specs.declared.repr.Repr.{Repr}
use Rattle.rust_tree.specs.declared.repr.Repr.TheVariants as repr
use Rattle.rust_tree.specs.declared.stmt.Arm.{Arm, Arm-F, fold-Arm}
use Rattle.rust_tree.specs.declared.stmt.Block.{Block, Block-F, fold-Block}
use Rattle.rust_tree.specs.declared.stmt.ImportDecl.{ImportDecl}
use Rattle.rust_tree.specs.declared.stmt.MatchNames.{MatchNames}
use Rattle.rust_tree.specs.declared.stmt.MatchNames.TheVariants as names
use Rattle.rust_tree.specs.declared.stmt.Stmt.{Stmt, Stmt-F, fold-Stmt}
use Rattle.rust_tree.specs.declared.type_expr.Primitive.{Primitive}
use Rattle.rust_tree.specs.declared.type_expr.Primitive.TheVariants as primitive
use Rattle.rust_tree.specs.declared.type_expr.TypeExpr.{TypeExpr, TypeExpr-F, fold-TypeExpr}
use Rattle.rust_tree.specs.declared.print.word.area.AreaWord.TheVariants.{PointerAlign, Align, AlignEnd, AreaType, AreaValue, AreaEnd}
use Rattle.rust_tree.specs.declared.print.word.definition.DefinitionWord.TheVariants.{TupleEnd, OptionType, ResultType, TypeEnd, ArrayLength}
use Rattle.rust_tree.specs.declared.print.word.expr.ExprWord.TheVariants.{Match, BoolArms, AsPtr, Len, CastMut, AreaPointer, Dereference, Add, CastTo, CastEnd, FromRawParts, PointerCast, IntoBoxedBytes, StaticPointer, OpenFields, CloseFields, OpenArray, CloseArray, LoneComma, Widened, CaseNumber}
use Rattle.rust_tree.specs.declared.print.word.flags.FlagsWord.TheVariants.{Bits, AsCoreWord, Empty, Or, FromBits, AsWord, ShiftedBy, FromBitsEnd}
use Rattle.rust_tree.specs.declared.print.word.import.ImportWord.TheVariants.{WasmLink, ExternBlock, LinkedFn, OtherFn, Unreachable, UnnamedParam}
use Rattle.rust_tree.specs.declared.print.word.item.ItemWord.TheVariants.{EmptyDoc, Doc, UnitType, StrType, StringName}
use Rattle.rust_tree.specs.declared.print.word.matches.MatchWord.TheVariants.{OpenArm, CloseArm, CloseBound, LeftOut, AnyOther, Assert, AssertEnd}
use Rattle.rust_tree.specs.declared.print.word.slot.SlotWord.TheVariants.{Uninit, Write, WriteEnd}
use Rattle.rust_tree.specs.declared.print.word.sign.Sign.{Sign}
use Rattle.rust_tree.specs.declared.print.word.sign.Sign.TheVariants.{LineEnd, StatementEnd, OpenBlock, CloseBlock, Open, Close, Comma, Colon, Arrow, PathMark, Super, Reference, As, Let, Equals, LetMut, Minus}
use Rattle.wit_model.specs.Bytes.{Bytes}
use Rattle.rust_tree.specs.Word.{area_word, definition_word, expr_word, flags_word, import_word, item_word, match_word, sign, slot_word}

-- doc lines

-- `///`, or `/// ` and the line
abbrev pub doc_text : Bytes → Bytes
doc_text [] = item_word EmptyDoc
doc_text (c ∷ cs) = item_word Doc ++ (c ∷ cs) ++ sign LineEnd

-- paths

-- so many times `super::`
abbrev pub supers_text : ℕ → Bytes
supers_text zero = []
supers_text (suc n) = sign Super ++ supers_text n

-- `::`, or nothing
abbrev pub lead_text : Bool → Bytes
lead_text true = sign PathMark
lead_text false = []

-- `::super::a::b`
abbrev pub path_text : Path → Bytes
path_text p = lead_text p.lead ++ supers_text p.supers ++ join_by (λ name. name) (sign PathMark) p.names

-- types

abbrev pub primitive_text : Primitive → Bytes
primitive_text primitive.Bool = codes "bool"
primitive_text primitive.U8 = codes "u8"
primitive_text primitive.U16 = codes "u16"
primitive_text primitive.U32 = codes "u32"
primitive_text primitive.U64 = codes "u64"
primitive_text primitive.I8 = codes "i8"
primitive_text primitive.I16 = codes "i16"
primitive_text primitive.I32 = codes "i32"
primitive_text primitive.I64 = codes "i64"
primitive_text primitive.F32 = codes "f32"
primitive_text primitive.F64 = codes "f64"
primitive_text primitive.Char = codes "char"

-- `(T, T,)`
abbrev pub tuple_text : List Bytes → Bytes
tuple_text parts = sign Open ++ join_by (λ part. part) (sign Comma) parts ++ definition_word TupleEnd

-- `::core::option::Option<T>`
abbrev pub option_text : Bytes → Bytes
option_text ty = definition_word OptionType ++ ty ++ definition_word TypeEnd

-- `::core::result::Result<T, E>`
abbrev pub result_text : (ok err : Bytes) → Bytes
result_text ok err = definition_word ResultType ++ ok ++ sign Comma ++ err ++ definition_word TypeEnd

-- `[T; n]`
abbrev pub array_type_text : Bytes → ℕ → Bytes
array_type_text ty n = expr_word OpenArray ++ ty ++ definition_word ArrayLength ++ decimal n ++ expr_word CloseArray

-- one level of a type, with the texts of the types in it
abbrev pub type_step : TypeExpr-F Bytes → Bytes
type_step (TypeExpr-F.Primitive p) = primitive_text p
type_step TypeExpr-F.Unit = item_word UnitType
type_step TypeExpr-F.Str = item_word StrType
type_step TypeExpr-F.String = item_word StringName
type_step (TypeExpr-F.Ref ty) = sign Reference ++ ty
type_step (TypeExpr-F.Path path) = path_text path
type_step (TypeExpr-F.Tuple parts) = tuple_text parts
type_step (TypeExpr-F.Optional ty) = option_text ty
type_step (TypeExpr-F.Array ty n) = array_type_text ty n
type_step (TypeExpr-F.Result ok err) = result_text ok err

abbrev pub type_text : TypeExpr → Bytes
type_text = fold-TypeExpr Bytes type_step

abbrev pub cast_type_text : CastType → Bytes
cast_type_text cast.U8 = codes "u8"
cast_type_text cast.I8 = codes "i8"
cast_type_text cast.U16 = codes "u16"
cast_type_text cast.I16 = codes "i16"
cast_type_text cast.U32 = codes "u32"
cast_type_text cast.U64 = codes "u64"
cast_type_text cast.I32 = codes "i32"
cast_type_text cast.I64 = codes "i64"
cast_type_text cast.Usize = codes "usize"
cast_type_text cast.Pointer = codes "*mut u8"

abbrev pub small_type_text : SmallType → Bytes
small_type_text small.U8 = codes "u8"
small_type_text small.I8 = codes "i8"
small_type_text small.U16 = codes "u16"
small_type_text small.I16 = codes "i16"

abbrev pub core_type_text : WasmType → Bytes
core_type_text core.I32 = codes "i32"
core_type_text core.I64 = codes "i64"
core_type_text core.F32 = codes "f32"
core_type_text core.F64 = codes "f64"
core_type_text core.Pointer = codes "*mut u8"
core_type_text core.PointerOrI64 = codes "::core::mem::MaybeUninit::<u64>"
core_type_text core.Length = codes "usize"

abbrev pub repr_type_text : Repr → Bytes
repr_type_text repr.U8 = codes "u8"
repr_type_text repr.U16 = codes "u16"
repr_type_text repr.U32 = codes "u32"
repr_type_text repr.U64 = codes "u64"
repr_type_text repr.U128 = codes "u128"

-- sizes

-- a size as an argument, and as a length: without brackets
unfoldable pub term_text : ArchitectureSize → Bytes
term_text size = size_text true size

-- expressions

-- the text of an expression, and whether it is a local
pub record Spelled : Type 0 where
  pub text : Bytes
  pub is_local : Bool

-- the text of what is no local
abbrev pub compound : Bytes → Spelled
compound t = record { text = t; is_local = false }

-- a bracket round an expression on which a method is called, unless it is a local
abbrev pub bracket : Spelled → Sign → Bytes
bracket e s = if e.is_local then [] else sign s

abbrev pub receiver_text : Spelled → Bytes
receiver_text e = bracket e Open ++ e.text ++ bracket e Close

-- `.add(offset).cast::<T>()`, behind an address
abbrev pub place_text : ArchitectureSize → Bytes → Bytes
place_text offset ty = expr_word Add ++ term_text offset ++ expr_word CastTo ++ ty ++ expr_word CastEnd

-- `.cast(), len, len)`, behind a pointer
abbrev pub capacity_text : Bytes → Bytes
capacity_text len = expr_word PointerCast ++ len ++ sign Comma ++ len ++ sign Close

-- expressions with a comma between any two
abbrev pub listed_text : List Spelled → Bytes
listed_text es = join_by (λ e. e.text) (sign Comma) es

-- in brackets
abbrev pub bracketed_text : List Spelled → Bytes
bracketed_text es = sign Open ++ listed_text es ++ sign Close

-- `f: x`, with the text of what stands behind the field
abbrev pub field_text : Bytes × Bytes → Bytes
field_text f = (f.0 ++ sign Colon) ++ f.1

-- ` { f: x, g: y }`
abbrev pub fields_text : List (Bytes × Bytes) → Bytes
fields_text fields = expr_word OpenFields ++ join_by field_text (sign Comma) fields ++ expr_word CloseFields

-- fields with the texts of the expressions behind them
abbrev pub spelled_fields : List (Bytes × Spelled) → List (Bytes × Bytes)
spelled_fields fields = map (λ f. (f.0, f.1.text)) fields

-- the comma behind the one part of a tuple
abbrev pub lone_comma : List Spelled → Bytes
lone_comma (e ∷ []) = expr_word LoneComma
lone_comma _ = []

-- `(x,)`, `(x, y)`
abbrev pub parts_text : List Spelled → Bytes
parts_text es = sign Open ++ listed_text es ++ lone_comma es ++ sign Close

-- `[x, y]`
abbrev pub array_text : List Spelled → Bytes
array_text es = expr_word OpenArray ++ listed_text es ++ expr_word CloseArray

-- words with the texts of the expressions that they are
abbrev pub spelled_words : List (ℕ × Spelled) → List (ℕ × Bytes)
spelled_words words = map (λ w. (w.0, w.1.text)) words

-- ` | P::from_bits_retain(((e as u32 as u64) << 32) as _)`, with the text of the word
abbrev pub or_word_text : Path → Repr → ℕ × Bytes → Bytes
or_word_text path r w =
    (flags_word Or ++ path_text path ++ flags_word FromBits) ++ w.1 ++ (flags_word AsWord ++ repr_type_text r ++ flags_word ShiftedBy ++ decimal w.0 ++ flags_word FromBitsEnd)

-- `P::empty() | P::from_bits_retain(((e as u32 as u64) << 32) as _)`
abbrev pub flags_of_words_text : Path → Repr → List (ℕ × Bytes) → Bytes
flags_of_words_text path r words = path_text path ++ flags_word Empty ++ flat_map (or_word_text path r) words

-- `(x.bits() >> 32) as i32`
abbrev pub flags_bits_text : Bytes → ℕ → Bytes
flags_bits_text name n = sign Open ++ name ++ flags_word Bits ++ decimal n ++ flags_word AsCoreWord

-- `-`, or nothing
abbrev pub minus_text : Bool → Bytes
minus_text true = sign Minus
minus_text false = []

-- `5i32`
abbrev pub i32_text : ℤ → Bytes
i32_text z = minus_text (int_lt z (pos 0)) ++ decimal (unsigned_abs z) ++ core_type_text core.I32

-- the zero of a core type other than `i32`
abbrev pub zero_text : ZeroType → Bytes
zero_text zero_of.I64 = codes "0i64"
zero_text zero_of.F32 = codes "0.0f32"
zero_text zero_of.F64 = codes "0.0f64"
zero_text zero_of.Pointer = codes "::core::ptr::null_mut::<u8>()"
zero_text zero_of.PointerOrI64 = codes "::core::mem::MaybeUninit::<u64>::zeroed()"
zero_text zero_of.Length = codes "0usize"

-- the call of a method, behind the bracket round what it is called on
abbrev pub method_text : Method → Bytes
method_text method.ToBits = codes ".to_bits()"
method_text method.AssumeInit = codes ".assume_init()"
method_text method.ReadPointer = codes ".as_ptr().cast::<*mut u8>().read()"

-- one level of an expression, with the expressions in it as they are spelled
abbrev pub expr_step : Expr-F Spelled → Spelled
expr_step (Expr-F.Local name) = record { text = name; is_local = true }
expr_step (Expr-F.Ref name) = compound (sign Reference ++ name)
expr_step (Expr-F.Cast e to) = compound (e.text ++ sign As ++ cast_type_text to)
expr_step (Expr-F.Call path arguments) = compound (path_text path ++ bracketed_text arguments)
expr_step (Expr-F.I32FromBool e) = compound (expr_word Match ++ e.text ++ expr_word BoolArms)
expr_step (Expr-F.AsPtr name) = compound (name ++ expr_word AsPtr)
expr_step (Expr-F.Len name) = compound (name ++ expr_word Len)
expr_step (Expr-F.CastMut name) = compound (name ++ expr_word CastMut)
expr_step (Expr-F.ReturnPointer name) = compound (name ++ expr_word AreaPointer)
expr_step (Expr-F.Load address offset ty) = compound (expr_word Dereference ++ receiver_text address ++ place_text offset (core_type_text ty))
expr_step (Expr-F.LoadSmall address offset ty) = compound (expr_word Widened ++ receiver_text address ++ place_text offset (small_type_text ty) ++ sign Close)
expr_step (Expr-F.FromRawParts pointer len) = compound (expr_word FromRawParts ++ receiver_text pointer ++ capacity_text len)
expr_step (Expr-F.IntoBoxedBytes name) = compound (sign Open ++ name ++ expr_word IntoBoxedBytes)
expr_step Expr-F.StaticPointer = compound (expr_word StaticPointer)
expr_step (Expr-F.Size size) = compound (term_text size)
expr_step (Expr-F.Record path fields) = compound (path_text path ++ fields_text (spelled_fields fields))
expr_step (Expr-F.Tuple parts) = compound (parts_text parts)
expr_step Expr-F.Unit = compound (sign Open ++ sign Close)
expr_step (Expr-F.Array parts) = compound (array_text parts)
expr_step (Expr-F.EnumNumber e) = compound (sign Open ++ e.text ++ expr_word CaseNumber)
expr_step (Expr-F.FlagsBits name n) = compound (flags_bits_text name n)
expr_step (Expr-F.FlagsOfWords path r words) = compound (flags_of_words_text path r (spelled_words words))
expr_step (Expr-F.I32Const n) = compound (i32_text n)
expr_step (Expr-F.Zero ty) = compound (zero_text ty)
expr_step (Expr-F.Case path) = compound (path_text path)
expr_step (Expr-F.Method e m) = compound (sign Open ++ e.text ++ sign Close ++ method_text m)

abbrev pub expr_spelled : Expr → Spelled
expr_spelled = fold-Expr Spelled expr_step

abbrev pub expr_text : Expr → Bytes
expr_text e = (expr_spelled e).text

-- the fields of a record, with the texts of the expressions behind them
abbrev pub expr_fields : List (Bytes × Expr) → List (Bytes × Bytes)
expr_fields fields = spelled_fields (map (λ f. (f.0, expr_spelled f.1)) fields)

-- words with the texts of the expressions that they are
abbrev pub expr_words : List (ℕ × Expr) → List (ℕ × Bytes)
expr_words words = spelled_words (map (λ w. (w.0, expr_spelled w.1)) words)

abbrev pub arguments_text : List Expr → Bytes
arguments_text es = bracketed_text (map expr_spelled es)

-- statements

-- `_: T, `
abbrev pub core_param_text : WasmType → Bytes
core_param_text ty = import_word UnnamedParam ++ core_type_text ty ++ sign Comma

-- ` -> T`, or nothing
abbrev pub core_result_text : Option WasmType → Bytes
core_result_text None = []
core_result_text (Some ty) = sign Arrow ++ core_type_text ty

-- the local name of an import, its parameters and its result
abbrev pub core_signature_text : ImportDecl → Bytes
core_signature_text d = d.name ++ sign Open ++ flat_map core_param_text d.params ++ sign Close ++ core_result_text d.result

-- an import's form for WebAssembly
abbrev pub linked_text : ImportDecl → Bytes
linked_text d =
    import_word WasmLink ++ d.module ++ import_word ExternBlock ++ d.link_name ++ import_word LinkedFn ++ core_signature_text d ++ sign StatementEnd ++ sign CloseBlock

-- its form for every other target
abbrev pub unlinked_text : ImportDecl → Bytes
unlinked_text d = import_word OtherFn ++ core_signature_text d ++ import_word Unreachable

-- `let x = e;`
abbrev pub let_text : Bytes → Expr → Bytes
let_text name e = sign Let ++ name ++ sign Equals ++ expr_text e ++ sign StatementEnd

-- names, with a comma behind each
abbrev pub commas_text : List Bytes → Bytes
commas_text names = flat_map (λ name. name ++ sign Comma) names

-- `P { f: x, g: y }`, `(x, y, )`, `[x, y, ]`
abbrev pub pattern_text : Pattern → Bytes
pattern_text (pattern.Record path fields) = path_text path ++ fields_text fields
pattern_text (pattern.Tuple names) = sign Open ++ commas_text names ++ sign Close
pattern_text (pattern.Array names) = expr_word OpenArray ++ commas_text names ++ expr_word CloseArray

-- `P::C`, `P::C(x)`, `P::C(_)`, `0`, `n`, `_`
abbrev pub arm_pattern_text : ArmPattern → Bytes
arm_pattern_text (arm.Case path) = path_text path
arm_pattern_text (arm.Payload path name) = path_text path ++ sign Open ++ name ++ sign Close
arm_pattern_text (arm.LeftOut path) = path_text path ++ match_word LeftOut
arm_pattern_text (arm.Number n) = decimal n
arm_pattern_text (arm.Name name) = name
arm_pattern_text arm.AnyOther = match_word AnyOther

-- `let P { f: x } = e;`
abbrev pub let_parts_text : Pattern → Expr → Bytes
let_parts_text p e = sign Let ++ pattern_text p ++ sign Equals ++ expr_text e ++ sign StatementEnd

-- `*address.add(offset).cast::<T>() = e;`
abbrev pub store_text : Expr → ArchitectureSize → WasmType → Expr → Bytes
store_text address offset ty e =
    expr_word Dereference ++ receiver_text (expr_spelled address) ++ place_text offset (core_type_text ty) ++ sign Equals ++ expr_text e ++ sign StatementEnd

-- `(e) as T`
abbrev pub narrowed_text : Expr → SmallType → Bytes
narrowed_text e ty = sign Open ++ expr_text e ++ sign Close ++ sign As ++ small_type_text ty

-- `*address.add(offset).cast::<T>() = (e) as T;`
abbrev pub small_store_text : Expr → ArchitectureSize → SmallType → Expr → Bytes
small_store_text address offset ty e =
    expr_word Dereference ++ receiver_text (expr_spelled address) ++ place_text offset (small_type_text ty) ++ sign Equals ++ narrowed_text e ty ++ sign StatementEnd

-- the attribute lines of an alignment
abbrev pub align_text : Alignment → Bytes
align_text align.Pointer = area_word PointerAlign
align_text (align.Bytes n) = area_word Align ++ decimal n ++ area_word AlignEnd

-- the type `_RetArea` of this size and alignment, and its value
abbrev pub area_type_text : ArchitectureSize → Alignment → Bytes
area_type_text size align = align_text align ++ area_word AreaType ++ term_text size ++ area_word AreaEnd

abbrev pub area_value_text : ArchitectureSize → Bytes
area_value_text size = area_word AreaValue ++ term_text size ++ area_word AreaEnd

-- the type, and the local that is the area
abbrev pub area_text : ReturnArea → Bytes
area_text a = area_type_text a.size a.align ++ sign LetMut ++ a.name ++ sign Equals ++ area_value_text a.size

-- the last expression, as a line of its own, or nothing
abbrev pub tail_text : Option Expr → Bytes
tail_text None = []
tail_text (Some e) = expr_text e ++ sign LineEnd

-- `let x = `, `let (x, y, ) = `, or nothing
abbrev pub match_names_text : MatchNames → Bytes
match_names_text names.Nothing = []
match_names_text (names.One name) = sign Let ++ name ++ sign Equals
match_names_text (names.Parts parts) = sign Let ++ sign Open ++ commas_text parts ++ sign Close ++ sign Equals

-- `let x = match e {`
abbrev pub match_open_text : MatchNames → Expr → Bytes
match_open_text bound e = match_names_text bound ++ expr_word Match ++ expr_text e ++ sign OpenBlock

-- `};`, or `}` where nothing is bound
abbrev pub match_close_text : MatchNames → Bytes
match_close_text names.Nothing = sign CloseBlock
match_close_text (names.One name) = match_word CloseBound
match_close_text (names.Parts parts) = match_word CloseBound

-- `P::C(x) => {`
abbrev pub arm_open_text : ArmPattern → Bytes
arm_open_text p = arm_pattern_text p ++ match_word OpenArm

-- `debug_assert_eq!(n, 5, "invalid enum discriminant");`
abbrev pub assert_last_text : Bytes → ℕ → Bytes
assert_last_text name n = match_word Assert ++ name ++ sign Comma ++ decimal n ++ match_word AssertEnd

-- `let mut x = ::core::mem::MaybeUninit::<u64>::uninit();`
abbrev pub let_slot_text : Bytes → Bytes
let_slot_text name = sign LetMut ++ name ++ slot_word Uninit

-- `x.as_mut_ptr().cast::<*mut u8>().write(e);`
abbrev pub write_slot_text : Bytes → Expr → Bytes
write_slot_text name e = name ++ slot_word Write ++ expr_text e ++ slot_word WriteEnd

-- one level of a statement, with the texts of the arms in it
abbrev pub stmt_step : Stmt-F Bytes Bytes Bytes → Bytes
stmt_step (Stmt-F.Import d) = linked_text d ++ unlinked_text d
stmt_step (Stmt-F.Let name e) = let_text name e
stmt_step (Stmt-F.Expr e) = expr_text e ++ sign StatementEnd
stmt_step (Stmt-F.Area a) = area_text a
stmt_step (Stmt-F.Store address offset ty e) = store_text address offset ty e
stmt_step (Stmt-F.StoreSmall address offset ty e) = small_store_text address offset ty e
stmt_step (Stmt-F.LetParts p e) = let_parts_text p e
stmt_step (Stmt-F.Match bound e arms) = match_open_text bound e ++ flat_map (λ a. a) arms ++ match_close_text bound
stmt_step (Stmt-F.AssertLast name n) = assert_last_text name n
stmt_step (Stmt-F.LetSlot name) = let_slot_text name
stmt_step (Stmt-F.WriteSlot name e) = write_slot_text name e

-- one level of an arm, with the text of its block
abbrev pub arm_step : Arm-F Bytes Bytes Bytes → Bytes
arm_step a = arm_open_text a.pattern ++ a.body ++ match_word CloseArm

-- one level of a block, with the texts of its statements
abbrev pub block_step : Block-F Bytes Bytes Bytes → Bytes
block_step b = flat_map (λ s. s) b.stmts ++ tail_text b.tail

abbrev pub stmt_text : Stmt → Bytes
stmt_text = fold-Stmt Bytes Bytes Bytes stmt_step arm_step block_step

abbrev pub arm_text : Arm → Bytes
arm_text = fold-Arm Bytes Bytes Bytes stmt_step arm_step block_step

abbrev pub block_text : Block → Bytes
block_text = fold-Block Bytes Bytes Bytes stmt_step arm_step block_step
