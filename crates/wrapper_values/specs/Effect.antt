-- What the forms of the tree do to values: casts, the functions of `_rt`, and what counts as a core word or as a value of a
-- printed type. A form that has no meaning at a value gives nothing.
use Rattle.std.specs.Prelude.{ℕ, zero, suc, ◌-◌, ◌^◌, Bool, true, false, ◌&&◌, ◌||◌, nat_lt, nat_le, ℤ, pos, negsuc, int_lt, int_le, unsigned_abs, Option, None, Some, Result, Ok, Err, option_and_then, if◌then◌else◌}
use Rattle.std.specs.Int.{w8, w16, w32, w64, cast_signed, int_rem_euclid}
use Rattle.std.specs.Option.{option_map, option_or}
use Rattle.wit_model.specs.declared.wasm_type.WasmType.{WasmType}
use Rattle.wit_model.specs.declared.wasm_type.WasmType.TheVariants as core
use Rattle.wit_model.specs.declared.types.WitType.{WitType}
use Rattle.wit_model.specs.declared.types.WitType.TheVariants as wit
use Rattle.rust_tree.specs.declared.expr.CastType.{CastType}
use Rattle.rust_tree.specs.declared.expr.CastType.TheVariants as cast
use Rattle.rust_tree.specs.declared.runtime_item.RuntimeItem.{RuntimeItem}
use Rattle.rust_tree.specs.declared.runtime_item.RuntimeItem.TheVariants as item
use Rattle.rust_tree.specs.declared.type_expr.Primitive.{Primitive}
use Rattle.rust_tree.specs.declared.type_expr.Primitive.TheVariants as prim
use Rattle.rust_tree.specs.declared.type_expr.TypeExpr.{TypeExpr, TypeExpr-F, out-TypeExpr}
use Rattle.wrapper_data.specs.declared.form.Form.{Form}
use Rattle.wrapper_data.specs.declared.form.Form.TheVariants as form
use Rattle.wrapper_data.specs.declared.run.TrapKind.{TrapKind}
use Rattle.wrapper_data.specs.declared.run.TrapKind.TheVariants as trap
use Rattle.wrapper_data.specs.declared.value.RustValue.{RustValue, RustValue-F, out-RustValue}
use Rattle.wrapper_data.specs.declared.value.RustValue.TheVariants as value
use Rattle.wrapper_data.specs.declared.word.Word.{Word}
use Rattle.wrapper_data.specs.declared.word.Word.TheVariants as word
use Rattle.wrapper_values.specs.declared.state.Val.{Val}
use Rattle.wrapper_values.specs.declared.state.Val.TheVariants as val

-- whole numbers

-- from 0 to 2^n - 1
abbrev pub is_unsigned : ℕ → ℤ → Bool
is_unsigned n z = int_le (pos 0) z && int_lt z (pos (2 ^ n))

-- from -2^n to 2^n - 1
abbrev pub is_signed : ℕ → ℤ → Bool
is_signed n z = int_le (negsuc (2 ^ n - 1)) z && int_lt z (pos (2 ^ n))

-- a number is one of a kind
abbrev pub is_of_kind : WitType → ℤ → Bool
is_of_kind wit.U8 z = is_unsigned 8 z
is_of_kind wit.U16 z = is_unsigned 16 z
is_of_kind wit.U32 z = is_unsigned 32 z
is_of_kind wit.U64 z = is_unsigned 64 z
is_of_kind wit.S8 z = is_signed 7 z
is_of_kind wit.S16 z = is_signed 15 z
is_of_kind wit.S32 z = is_signed 31 z
is_of_kind wit.S64 z = is_signed 63 z
is_of_kind _ z = false

-- kinds of at most 32 bits, and of 64
abbrev pub is_narrow : WitType → Bool
is_narrow wit.U64 = false
is_narrow wit.S64 = false
is_narrow _ = true

-- the low 32 bits, as a signed number
abbrev pub low_i32 : ℤ → ℤ
low_i32 z = cast_signed w32 (unsigned_abs (int_rem_euclid z (pos (2 ^ 32))))

abbrev pub low_i64 : ℤ → ℤ
low_i64 z = cast_signed w64 (unsigned_abs (int_rem_euclid z (pos (2 ^ 64))))

-- views of a value

-- the whole number that a value of the Rust side is, with its kind
abbrev pub num_of_level : RustValue-F RustValue → Option (WitType × ℤ)
num_of_level (RustValue-F.Num kind z) = if is_of_kind kind z then Some (kind, z) else None
num_of_level _ = None

-- an `i32` and an `i64` are whole numbers of the Rust side as they are
abbrev pub num_of_word : Word → Option (WitType × ℤ)
num_of_word (word.I32 z) = Some (wit.S32, z)
num_of_word (word.I64 z) = Some (wit.S64, z)
num_of_word _ = None

abbrev pub num_of : Val → Option (WitType × ℤ)
num_of (val.Value v) = num_of_level (out-RustValue v)
num_of (val.Word w) = num_of_word w
num_of (val.Area _ _) = None

-- a Unicode scalar value: a code below 0xD800, or from 0xE000 to 0x10FFFF
abbrev pub is_scalar : ℕ → Bool
is_scalar c = nat_lt c 0xD800 || (nat_le 0xE000 c && nat_lt c 0x110000)

abbrev pub bool_of_level : RustValue-F RustValue → Option Bool
bool_of_level (RustValue-F.Bool b) = Some b
bool_of_level _ = None

abbrev pub char_of_level : RustValue-F RustValue → Option ℕ
char_of_level (RustValue-F.Char c) = if is_scalar c then Some c else None
char_of_level _ = None

abbrev pub f32_of_level : RustValue-F RustValue → Option ℕ
f32_of_level (RustValue-F.F32 bits) = Some bits
f32_of_level _ = None

abbrev pub f64_of_level : RustValue-F RustValue → Option ℕ
f64_of_level (RustValue-F.F64 bits) = Some bits
f64_of_level _ = None

-- the value of the Rust side that something is
abbrev pub seen_as : {A : Type 0} → (RustValue-F RustValue → Option A) → Val → Option A
seen_as view (val.Value v) = view (out-RustValue v)
seen_as view _ = None

abbrev pub bool_of : Val → Option Bool
bool_of v = seen_as bool_of_level v

abbrev pub char_of : Val → Option ℕ
char_of v = seen_as char_of_level v

-- a float is one as a core word too

abbrev pub f32_of : Val → Option ℕ
f32_of (val.Word (word.F32 bits)) = Some bits
f32_of v = seen_as f32_of_level v

abbrev pub f64_of : Val → Option ℕ
f64_of (val.Word (word.F64 bits)) = Some bits
f64_of v = seen_as f64_of_level v

-- the number that a word is; an address is one too
abbrev pub integer_of_word : Word → Option ℤ
integer_of_word (word.I32 z) = Some z
integer_of_word (word.I64 z) = Some z
integer_of_word (word.Pointer address) = Some (pos address)
integer_of_word (word.Length n) = Some (pos n)
integer_of_word _ = None

-- a number that `as` casts
abbrev pub integer_of : Val → Option ℤ
integer_of (val.Word w) = integer_of_word w
integer_of (val.Value v) = option_map (λ k. k.1) (num_of (val.Value v))
integer_of (val.Area _ _) = None

-- casts: a narrower type keeps the low bits, and a wider one extends by the source's sign; a core type gives a core value, and
-- addresses and lengths have 32 bits

abbrev pub low : ℕ → ℤ → ℤ
low n z = int_rem_euclid z (pos (2 ^ n))

abbrev pub cast_integer : CastType → ℤ → Val
cast_integer cast.U8 z = val.Value (value.Num wit.U8 (low 8 z))
cast_integer cast.I8 z = val.Value (value.Num wit.S8 (cast_signed w8 (unsigned_abs (low 8 z))))
cast_integer cast.U16 z = val.Value (value.Num wit.U16 (low 16 z))
cast_integer cast.I16 z = val.Value (value.Num wit.S16 (cast_signed w16 (unsigned_abs (low 16 z))))
cast_integer cast.U32 z = val.Value (value.Num wit.U32 (low 32 z))
cast_integer cast.U64 z = val.Value (value.Num wit.U64 (low 64 z))
cast_integer cast.I32 z = val.Word (word.I32 (low_i32 z))
cast_integer cast.I64 z = val.Word (word.I64 (low_i64 z))
cast_integer cast.Usize z = val.Word (word.Length (unsigned_abs (low 32 z)))
cast_integer cast.Pointer z = val.Word (word.Pointer (unsigned_abs (low 32 z)))

unfoldable pub cast_to : CastType → Val → Option Val
cast_to to v = option_map (cast_integer to) (integer_of v)

-- the functions of `_rt`

abbrev pub i32_of_number : WitType × ℤ → Option Word
i32_of_number k = if is_narrow k.0 then Some (word.I32 (low_i32 k.1)) else None

abbrev pub i64_of_number : WitType × ℤ → Option Word
i64_of_number k = if is_narrow k.0 then None else Some (word.I64 (low_i64 k.1))

abbrev pub i32_of_char : ℕ → Word
i32_of_char c = word.I32 (pos c)

-- a value, or a reference to one, as the core value that a conversion gives; a lift is no conversion
unfoldable pub converted : RuntimeItem → Val → Option Word
converted item.AsI32 v = option_or (option_and_then i32_of_number (num_of v)) (option_map i32_of_char (char_of v))
converted item.AsI64 v = option_and_then i64_of_number (num_of v)
converted item.AsF32 v = option_map word.F32 (f32_of v)
converted item.AsF64 v = option_map word.F64 (f64_of v)
converted _ v = None

-- the word of a bool
abbrev pub bit : Bool → ℤ
bit true = pos 1
bit false = pos 0

unfoldable pub word_of_bool : Val → Option Word
word_of_bool v = option_map (λ b. word.I32 (bit b)) (bool_of v)

-- what a lift gives of the number behind `as u8` or `as u32`: a value, or the reason for which it is refused; the release
-- form takes each number but 0 for true
abbrev pub bool_of_number : Form → ℤ → Result RustValue TrapKind
bool_of_number f (pos zero) = Ok (value.Bool false)
bool_of_number f (pos (suc zero)) = Ok (value.Bool true)
bool_of_number form.Debug _ = Err trap.Bool
bool_of_number form.Release _ = Ok (value.Bool true)

abbrev pub char_of_number : ℤ → Result RustValue TrapKind
char_of_number (pos c) = if is_scalar c then Ok (value.Char c) else Err trap.Char
char_of_number (negsuc _) = Err trap.Char

abbrev pub lift_of_number : Form → RuntimeItem → WitType × ℤ → Option (Result RustValue TrapKind)
lift_of_number f item.BoolLift (wit.U8, z) = Some (bool_of_number f z)
lift_of_number f item.CharLift (wit.U32, z) = Some (char_of_number z)
lift_of_number _ _ _ = None

unfoldable pub lift_of : Form → RuntimeItem → Val → Option (Result RustValue TrapKind)
lift_of f i v = option_and_then (lift_of_number f i) (num_of v)

-- words and results

-- a core value of this type; an `i32` and an `i64` are whole numbers of the Rust side too
abbrev pub is_word_of : WasmType → Word → Bool
is_word_of core.I32 (word.I32 _) = true
is_word_of core.I64 (word.I64 _) = true
is_word_of core.F32 (word.F32 _) = true
is_word_of core.F64 (word.F64 _) = true
is_word_of core.Pointer (word.Pointer _) = true
is_word_of core.PointerOrI64 (word.Slot (Some _)) = true
is_word_of core.Length (word.Length _) = true
is_word_of _ _ = false

abbrev pub word_of : WasmType → Val → Option Word
word_of ty (val.Word w) = if is_word_of ty w then Some w else None
word_of ty _ = None

-- the value that a word of a printed type is: an `i32`, an `i64` and a float are core values as they are
abbrev pub value_of_word : Primitive → Word → Option RustValue
value_of_word prim.I32 (word.I32 z) = Some (value.Num wit.S32 z)
value_of_word prim.I64 (word.I64 z) = Some (value.Num wit.S64 z)
value_of_word prim.F32 (word.F32 bits) = Some (value.F32 bits)
value_of_word prim.F64 (word.F64 bits) = Some (value.F64 bits)
value_of_word _ _ = None

-- the printed type of a kind
abbrev pub is_printed_as : Primitive → WitType → Bool
is_printed_as prim.U8 wit.U8 = true
is_printed_as prim.U16 wit.U16 = true
is_printed_as prim.U32 wit.U32 = true
is_printed_as prim.U64 wit.U64 = true
is_printed_as prim.I8 wit.S8 = true
is_printed_as prim.I16 wit.S16 = true
is_printed_as prim.I32 wit.S32 = true
is_printed_as prim.I64 wit.S64 = true
is_printed_as _ _ = false

abbrev pub number_as : Primitive → WitType × ℤ → Option RustValue
number_as p k = if is_printed_as p k.0 then Some (value.Num k.0 k.1) else None

-- a value of a printed type
abbrev pub value_as : Primitive → Val → Option RustValue
value_as p (val.Word w) = value_of_word p w
value_as prim.Bool (val.Value v) = option_map value.Bool (bool_of (val.Value v))
value_as prim.Char (val.Value v) = option_map value.Char (char_of (val.Value v))
value_as prim.F32 (val.Value v) = option_map value.F32 (f32_of_level (out-RustValue v))
value_as prim.F64 (val.Value v) = option_map value.F64 (f64_of_level (out-RustValue v))
value_as p (val.Value v) = option_and_then (number_as p) (num_of (val.Value v))
value_as p (val.Area _ _) = None

-- the value of the Rust side that something is, as a part of another value
abbrev pub rust_of_word : Word → Option RustValue
rust_of_word (word.I32 z) = Some (value.Num wit.S32 z)
rust_of_word (word.I64 z) = Some (value.Num wit.S64 z)
rust_of_word (word.F32 bits) = Some (value.F32 bits)
rust_of_word (word.F64 bits) = Some (value.F64 bits)
rust_of_word _ = None

abbrev pub rust_of : Val → Option RustValue
rust_of (val.Word w) = rust_of_word w
rust_of (val.Value v) = Some v
rust_of (val.Area _ _) = None

abbrev pub is_unit_level : RustValue-F RustValue → Bool
is_unit_level RustValue-F.Unit = true
is_unit_level _ = false

abbrev pub is_unit : Val → Bool
is_unit (val.Value v) = is_unit_level (out-RustValue v)
is_unit _ = false

-- a text that owns its bytes; where it has none, its flag tells nothing
abbrev pub text_of_level : RustValue-F RustValue → Option RustValue
text_of_level (RustValue-F.Buffer address len true) = Some (value.Buffer address len true)
text_of_level (RustValue-F.Buffer address zero false) = Some (value.Buffer address 0 true)
text_of_level _ = None

-- what a function of this plain printed type answers: no value for `()`
abbrev pub answer_as : TypeExpr-F TypeExpr → Val → Option (Option RustValue)
answer_as TypeExpr-F.Unit v = if is_unit v then Some None else None
answer_as (TypeExpr-F.Primitive p) v = option_map Some (value_as p v)
answer_as TypeExpr-F.String v = option_map Some (seen_as text_of_level v)
answer_as _ v = None

unfoldable pub answer_of : TypeExpr → Val → Option (Option RustValue)
answer_of ty v = answer_as (out-TypeExpr ty) v
