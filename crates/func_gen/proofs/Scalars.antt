-- What the forms of scalars give: core words of numbers and chars, and numbers of core words.
use Rattle.std.proofs.Common.{◌≡◌, ℤ, Bool, true, false, [], Option, None, Some, refl, sym, ap, ◌∙◌, subst}
use Rattle.std.specs.Prelude.{option_and_then, unsigned_abs}
use Rattle.std.specs.Int.{w8, w16, cast_signed}
use Rattle.std.specs.Option.{option_map}
use Rattle.wit_layout.specs.Tree.{Scalar}
use Rattle.wit_model.specs.declared.types.WitType.{WitType}
use Rattle.wit_model.specs.declared.types.WitType.TheVariants as wit
use Rattle.rust_tree.specs.declared.expr.CastType.{CastType}
use Rattle.rust_tree.specs.declared.runtime_item.RuntimeItem.{RuntimeItem}
use Rattle.rust_tree.specs.declared.runtime_item.RuntimeItem.TheVariants.{AsI32, AsI64, AsF32, AsF64}
use Rattle.wrapper_data.specs.declared.value.RustValue.{RustValue, RustValue-F, out-RustValue}
use Rattle.wrapper_data.specs.declared.value.RustValue.TheVariants as value
use Rattle.wrapper_data.specs.declared.word.Word.{Word}
use Rattle.wrapper_data.specs.declared.word.Word.TheVariants as core
use Rattle.wrapper_meaning.specs.AsWords.{IsTaken, passed_word}
use Rattle.wrapper_meaning.specs.Direction.{Direction, give}
use Rattle.wrapper_meaning.specs.InRange.{IsScalar}
use Rattle.wrapper_meaning.specs.Shape.Shape.{scalar}
use Rattle.wrapper_meaning.specs.StandsFor.{rust_scalar}
use Rattle.wrapper_meaning.specs.Value.{ScalarValue}
use Rattle.wrapper_meaning.proofs.Lists.{some_or}
use Rattle.wrapper_meaning.proofs.RustValues.{f32_same, f64_same, num_same, out-num, out-f32, out-f64, out-bool, out-char}
use Rattle.wrapper_values.specs.declared.state.Val.{Val}
use Rattle.wrapper_values.specs.declared.state.Val.TheVariants as val
use Rattle.wrapper_values.specs.Effect.{cast_integer, cast_to, converted, integer_of, low, rust_of, rust_of_word}
use Rattle.wrapper_values.specs.Owning.{owned}
use Rattle.wrapper_run.proofs.NumberLemmas.{converted-char, converted-f32, converted-f64, converted-narrow, converted-wide, low_i32-s16, low_i32-s32, low_i32-s8, low_i32-u16, low_i32-u8, low_i64-s64}
use Rattle.func_gen.specs.Meaning.{IsNormal, StandsAsItIs}
use Rattle.func_gen.specs.NormalLemmas.{scalar_normal}
use Rattle.func_gen.specs.StandLemmas.{scalar_owns}
use Rattle.func_gen.specs.Read.{bare_or, converts, on_bare}
use Rattle.func_gen.proofs.LowBits.{read_s16, read_s8, read_u16, read_u32, read_u64, read_u8}

-- 1. The values of scalars

-- a value that is equal to a scalar stands for it
pub stands_scalar : (dir : Direction) (s : Scalar) (v : ScalarValue s) (r : RustValue) → r ≡ rust_scalar s v → StandsAsItIs dir (scalar s) v r []
stands_scalar dir s v r e = ((e, refl), subst (IsNormal dir) (sym e) (scalar_normal dir s v))

-- 2. Which scalar a value is

abbrev pub kind_shown : WitType → Option Scalar
kind_shown wit.U8 = Some Scalar.u8
kind_shown wit.S8 = Some Scalar.s8
kind_shown wit.U16 = Some Scalar.u16
kind_shown wit.S16 = Some Scalar.s16
kind_shown wit.U32 = Some Scalar.u32
kind_shown wit.S32 = Some Scalar.s32
kind_shown wit.U64 = Some Scalar.u64
kind_shown wit.S64 = Some Scalar.s64
kind_shown _ = None

abbrev pub shown_level : RustValue-F RustValue → Option Scalar
shown_level (RustValue-F.Bool b) = Some Scalar.bool
shown_level (RustValue-F.Num k z) = kind_shown k
shown_level (RustValue-F.F32 x) = Some Scalar.f32
shown_level (RustValue-F.F64 x) = Some Scalar.f64
shown_level (RustValue-F.Char c) = Some Scalar.char
shown_level _ = None

abbrev pub shown : RustValue → Option Scalar
shown r = shown_level (out-RustValue r)

pub shown_scalar : (s : Scalar) (v : ScalarValue s) → shown (rust_scalar s v) ≡ Some s
shown_scalar Scalar.bool v = ap shown_level (out-bool v)
shown_scalar Scalar.f32 v = ap shown_level (out-f32 v)
shown_scalar Scalar.f64 v = ap shown_level (out-f64 v)
shown_scalar Scalar.char v = ap shown_level (out-char v)
shown_scalar Scalar.handle v = elim v [ ]
shown_scalar Scalar.u8 v = ap shown_level (out-num wit.U8 v)
shown_scalar Scalar.s8 v = ap shown_level (out-num wit.S8 v)
shown_scalar Scalar.u16 v = ap shown_level (out-num wit.U16 v)
shown_scalar Scalar.s16 v = ap shown_level (out-num wit.S16 v)
shown_scalar Scalar.u32 v = ap shown_level (out-num wit.U32 v)
shown_scalar Scalar.s32 v = ap shown_level (out-num wit.S32 v)
shown_scalar Scalar.u64 v = ap shown_level (out-num wit.U64 v)
shown_scalar Scalar.s64 v = ap shown_level (out-num wit.S64 v)

-- scalars that core code has as they are
abbrev pub is_core : Scalar → Bool
is_core Scalar.s32 = true
is_core Scalar.s64 = true
is_core Scalar.f32 = true
is_core Scalar.f64 = true
is_core _ = false

value_same : (r q : RustValue) → (let o : Option RustValue = Some r in o ≡ Some q) → r ≡ q
value_same r q h = ap (some_or r) h

same_shown : (s t : Scalar) (v : ScalarValue t) (r : RustValue) → shown r ≡ Some s → r ≡ rust_scalar t v → s ≡ t
same_shown s t v r h e = ap (some_or s) (sym h ∙ ap shown e ∙ shown_scalar t v)

as_word : (s t : Scalar) (v : ScalarValue t) → s ≡ t → is_core s ≡ true → is_core t ≡ true
as_word s t v e h = sym (ap is_core e) ∙ h

-- a core word that is a scalar of the Rust side is its own word
pub word_is : (s : Scalar) (v : ScalarValue s) (x : Word) → rust_of_word x ≡ Some (rust_scalar s v) → is_core s ≡ true
word_is s v (core.I32 z) h = as_word Scalar.s32 s v (same_shown Scalar.s32 s v (value.Num wit.S32 z) (ap shown_level (out-num wit.S32 z)) (value_same _ _ h)) refl
word_is s v (core.I64 z) h = as_word Scalar.s64 s v (same_shown Scalar.s64 s v (value.Num wit.S64 z) (ap shown_level (out-num wit.S64 z)) (value_same _ _ h)) refl
word_is s v (core.F32 z) h = as_word Scalar.f32 s v (same_shown Scalar.f32 s v (value.F32 z) (ap shown_level (out-f32 z)) (value_same _ _ h)) refl
word_is s v (core.F64 z) h = as_word Scalar.f64 s v (same_shown Scalar.f64 s v (value.F64 z) (ap shown_level (out-f64 z)) (value_same _ _ h)) refl
word_is s v (core.Pointer z) h = absurd cc
word_is s v (core.Length z) h = absurd cc
word_is s v (core.Slot z) h = absurd cc

wrong_word : (s t : Scalar) (v : ScalarValue t) (r : RustValue) → shown r ≡ Some s → (let o : Option RustValue = Some r in o ≡ Some (rust_scalar t v)) → s ≡ t
wrong_word s t v r h e = same_shown s t v r h (value_same r (rust_scalar t v) e)

pub core_word : (s : Scalar) (v : ScalarValue s) (x : Word) → is_core s ≡ true → rust_of_word x ≡ Some (rust_scalar s v) → x ≡ passed_word s v
core_word Scalar.s32 v (core.I32 z) c h = ap core.I32 (num_same _ _ z v (value_same _ _ h))
core_word Scalar.s32 v (core.I64 z) c h = absurd (let e = wrong_word Scalar.s64 Scalar.s32 v (value.Num wit.S64 z) (ap shown_level (out-num wit.S64 z)) h in cc)
core_word Scalar.s32 v (core.F32 z) c h = absurd (let e = wrong_word Scalar.f32 Scalar.s32 v (value.F32 z) (ap shown_level (out-f32 z)) h in cc)
core_word Scalar.s32 v (core.F64 z) c h = absurd (let e = wrong_word Scalar.f64 Scalar.s32 v (value.F64 z) (ap shown_level (out-f64 z)) h in cc)
core_word Scalar.s64 v (core.I64 z) c h = ap core.I64 (num_same _ _ z v (value_same _ _ h))
core_word Scalar.s64 v (core.I32 z) c h = absurd (let e = wrong_word Scalar.s32 Scalar.s64 v (value.Num wit.S32 z) (ap shown_level (out-num wit.S32 z)) h in cc)
core_word Scalar.s64 v (core.F32 z) c h = absurd (let e = wrong_word Scalar.f32 Scalar.s64 v (value.F32 z) (ap shown_level (out-f32 z)) h in cc)
core_word Scalar.s64 v (core.F64 z) c h = absurd (let e = wrong_word Scalar.f64 Scalar.s64 v (value.F64 z) (ap shown_level (out-f64 z)) h in cc)
core_word Scalar.f32 v (core.F32 z) c h = ap core.F32 (f32_same z v (value_same _ _ h))
core_word Scalar.f32 v (core.I32 z) c h = absurd (let e = wrong_word Scalar.s32 Scalar.f32 v (value.Num wit.S32 z) (ap shown_level (out-num wit.S32 z)) h in cc)
core_word Scalar.f32 v (core.I64 z) c h = absurd (let e = wrong_word Scalar.s64 Scalar.f32 v (value.Num wit.S64 z) (ap shown_level (out-num wit.S64 z)) h in cc)
core_word Scalar.f32 v (core.F64 z) c h = absurd (let e = wrong_word Scalar.f64 Scalar.f32 v (value.F64 z) (ap shown_level (out-f64 z)) h in cc)
core_word Scalar.f64 v (core.F64 z) c h = ap core.F64 (f64_same z v (value_same _ _ h))
core_word Scalar.f64 v (core.I32 z) c h = absurd (let e = wrong_word Scalar.s32 Scalar.f64 v (value.Num wit.S32 z) (ap shown_level (out-num wit.S32 z)) h in cc)
core_word Scalar.f64 v (core.I64 z) c h = absurd (let e = wrong_word Scalar.s64 Scalar.f64 v (value.Num wit.S64 z) (ap shown_level (out-num wit.S64 z)) h in cc)
core_word Scalar.f64 v (core.F32 z) c h = absurd (let e = wrong_word Scalar.f32 Scalar.f64 v (value.F32 z) (ap shown_level (out-f32 z)) h in cc)
core_word s v (core.Pointer z) c h = absurd cc
core_word s v (core.Length z) c h = absurd cc
core_word s v (core.Slot z) c h = absurd cc
core_word s v x c h = absurd (let e : false ≡ true = c in cc)

-- 3. The core words of scalars

-- the function that gives them; a bool has none
abbrev pub conversion_to : Scalar → Option RuntimeItem
conversion_to Scalar.bool = None
conversion_to Scalar.handle = None
conversion_to Scalar.u64 = Some AsI64
conversion_to Scalar.s64 = Some AsI64
conversion_to Scalar.f32 = Some AsF32
conversion_to Scalar.f64 = Some AsF64
conversion_to _ = Some AsI32

value_converts : (s : Scalar) (v : ScalarValue s) (i : RuntimeItem) → conversion_to s ≡ Some i → IsScalar s v → converts (conversion_to s) (val.Value (rust_scalar s v)) ≡ Some (val.Word (passed_word s v))
value_converts Scalar.bool v i e h = absurd cc
value_converts Scalar.handle v i e h = elim v [ ]
value_converts Scalar.u8 v i e h = ap (option_map val.Word) (converted-narrow wit.U8 v refl h ∙ ap (λ z. Some (core.I32 z)) (low_i32-u8 v h))
value_converts Scalar.s8 v i e h = ap (option_map val.Word) (converted-narrow wit.S8 v refl h ∙ ap (λ z. Some (core.I32 z)) (low_i32-s8 v h))
value_converts Scalar.u16 v i e h = ap (option_map val.Word) (converted-narrow wit.U16 v refl h ∙ ap (λ z. Some (core.I32 z)) (low_i32-u16 v h))
value_converts Scalar.s16 v i e h = ap (option_map val.Word) (converted-narrow wit.S16 v refl h ∙ ap (λ z. Some (core.I32 z)) (low_i32-s16 v h))
value_converts Scalar.u32 v i e h = ap (option_map val.Word) (converted-narrow wit.U32 v refl h)
value_converts Scalar.s32 v i e h = ap (option_map val.Word) (converted-narrow wit.S32 v refl h ∙ ap (λ z. Some (core.I32 z)) (low_i32-s32 v h))
value_converts Scalar.u64 v i e h = ap (option_map val.Word) (converted-wide wit.U64 v refl h)
value_converts Scalar.s64 v i e h = ap (option_map val.Word) (converted-wide wit.S64 v refl h ∙ ap (λ z. Some (core.I64 z)) (low_i64-s64 v h))
value_converts Scalar.f32 v i e h = ap (option_map val.Word) (converted-f32 v)
value_converts Scalar.f64 v i e h = ap (option_map val.Word) (converted-f64 v)
value_converts Scalar.char v i e h = ap (option_map val.Word) (converted-char v h)

-- and of those that are core words already
core_converts : (s : Scalar) (v : ScalarValue s) → is_core s ≡ true → IsScalar s v → converts (conversion_to s) (val.Word (passed_word s v)) ≡ Some (val.Word (passed_word s v))
unfolding converted
core_converts Scalar.s32 v c h = ap (λ z. Some (val.Word (core.I32 z))) (low_i32-s32 v h)
core_converts Scalar.s64 v c h = ap (λ z. Some (val.Word (core.I64 z))) (low_i64-s64 v h)
core_converts Scalar.f32 v c h = refl
core_converts Scalar.f64 v c h = refl
core_converts s v c h = absurd (let e : false ≡ true = c in cc)

on_owner : (f : Val → Option Val) (x y : Val) → owned x ≡ [] → f x ≡ Some y → on_bare f x ≡ Some y
on_owner f x y none h = ap (λ bs. option_and_then f (bare_or x bs)) none ∙ h

-- what is a scalar for the Rust side is converted to its word
pub converts_scalar : (s : Scalar) (v : ScalarValue s) (i : RuntimeItem) (o : Option Val) → conversion_to s ≡ Some i → IsScalar s v → option_and_then rust_of o ≡ Some (rust_scalar s v) → option_and_then (on_bare (converts (conversion_to s))) o ≡ Some (val.Word (passed_word s v))
converts_scalar s v i None e h is = absurd cc
converts_scalar s v i (Some (val.Value r)) e h is =
    let same : r ≡ rust_scalar s v = value_same r (rust_scalar s v) is in
    ap (λ q. on_bare (converts (conversion_to s)) (val.Value q)) same ∙ on_owner (converts (conversion_to s)) (val.Value (rust_scalar s v)) (val.Word (passed_word s v)) (scalar_owns s v) (value_converts s v i e h)
converts_scalar s v i (Some (val.Word x)) e h is =
    let c = word_is s v x is in
    ap (λ y. on_bare (converts (conversion_to s)) (val.Word y)) (core_word s v x c is) ∙ on_owner (converts (conversion_to s)) (val.Word (passed_word s v)) (val.Word (passed_word s v)) refl (core_converts s v c h)
converts_scalar s v i (Some (val.Area a n)) e h is = absurd cc

-- 4. Numbers of core words

-- the number that a word is read as
abbrev pub taken_word : Scalar → Word → RustValue
taken_word Scalar.u8 (core.I32 z) = value.Num wit.U8 (low 8 z)
taken_word Scalar.s8 (core.I32 z) = value.Num wit.S8 (cast_signed w8 (unsigned_abs (low 8 z)))
taken_word Scalar.u16 (core.I32 z) = value.Num wit.U16 (low 16 z)
taken_word Scalar.s16 (core.I32 z) = value.Num wit.S16 (cast_signed w16 (unsigned_abs (low 16 z)))
taken_word Scalar.u32 (core.I32 z) = value.Num wit.U32 (low 32 z)
taken_word Scalar.s32 (core.I32 z) = value.Num wit.S32 z
taken_word Scalar.u64 (core.I64 z) = value.Num wit.U64 (low 64 z)
taken_word Scalar.s64 (core.I64 z) = value.Num wit.S64 z
taken_word Scalar.f32 (core.F32 x) = value.F32 x
taken_word Scalar.f64 (core.F64 x) = value.F64 x
taken_word s x = value.Unit

abbrev pub is_number : Scalar → Bool
is_number Scalar.bool = false
is_number Scalar.char = false
is_number Scalar.handle = false
is_number _ = true

pub taken_is : (s : Scalar) (v : ScalarValue s) (x : Word) → is_number s ≡ true → IsScalar s v → IsTaken s v x → taken_word s x ≡ rust_scalar s v
taken_is Scalar.u8 v x n h (z, e, is) = ap (taken_word Scalar.u8) e ∙ ap (value.Num wit.U8) (read_u8 v z h is)
taken_is Scalar.s8 v x n h (z, e, is) = ap (taken_word Scalar.s8) e ∙ ap (value.Num wit.S8) (read_s8 v z h is)
taken_is Scalar.u16 v x n h (z, e, is) = ap (taken_word Scalar.u16) e ∙ ap (value.Num wit.U16) (read_u16 v z h is)
taken_is Scalar.s16 v x n h (z, e, is) = ap (taken_word Scalar.s16) e ∙ ap (value.Num wit.S16) (read_s16 v z h is)
taken_is Scalar.u32 v x n h (z, e, is) = ap (taken_word Scalar.u32) e ∙ ap (value.Num wit.U32) (read_u32 v z h is)
taken_is Scalar.u64 v x n h (z, e, is) = ap (taken_word Scalar.u64) e ∙ ap (value.Num wit.U64) (read_u64 v z h is)
taken_is Scalar.s32 v x n h t = ap (taken_word Scalar.s32) t
taken_is Scalar.s64 v x n h t = ap (taken_word Scalar.s64) t
taken_is Scalar.f32 v x n h t = ap (taken_word Scalar.f32) t
taken_is Scalar.f64 v x n h t = ap (taken_word Scalar.f64) t
taken_is Scalar.bool v x n h t = absurd cc
taken_is Scalar.char v x n h t = absurd cc
taken_is Scalar.handle v x n h t = elim v [ ]

-- a cast of a word
pub cast_word : (to : CastType) (z : ℤ) (x : Word) (o : Option Val) → integer_of (val.Word x) ≡ Some z → o ≡ Some (val.Word x) → option_and_then (on_bare (cast_to to)) o ≡ Some (cast_integer to z)
unfolding cast_to
cast_word to z x o i h = ap (option_and_then (on_bare (cast_to to))) h ∙ ap (option_map (cast_integer to)) i
