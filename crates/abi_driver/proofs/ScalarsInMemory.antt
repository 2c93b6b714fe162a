-- Scalars in memory: the word of each has its bytes, and is read from them.
use Rattle.std.proofs.Common.{◌≡◌, ℕ, ◌%◌, ◌^◌, ◌<◌, Bool, true, false, ℤ, pos, refl, ap, arith}
use Rattle.std.specs.Int.{w8, w16, w32, w64, cast_signed}
use Rattle.std.proofs.lemmas.Int.{ints}
use Rattle.wit_model.specs.declared.wasm_type.WasmType.TheVariants as wasm
use Rattle.wit_layout.specs.Flat.{core_type}
use Rattle.wit_layout.specs.Sizes.{alignment, elem_size}
use Rattle.wit_layout.specs.Tree.{Scalar}
use Rattle.wrapper_data.specs.declared.word.Word.TheVariants as core
use Rattle.wrapper_meaning.specs.AsWords.{IsTaken, passed_word}
use Rattle.wrapper_meaning.specs.InMemory.{stored_bits}
use Rattle.wrapper_meaning.specs.InRange.{IsScalar}
use Rattle.wrapper_meaning.specs.Layout.{layout}
use Rattle.wrapper_meaning.specs.Numbers.{bit, is_scalar_value, is_signed, is_unsigned, low_bits}
use Rattle.wrapper_meaning.specs.Shape.Shape.{scalar}
use Rattle.wrapper_meaning.specs.Value.{ScalarValue}
use Rattle.wrapper_meaning.specs.Words.{bits_of}
use Rattle.abi_bindgen.specs.Account.{has_type}
use Rattle.abi_bindgen.specs.Memory.{Access, access, signed_access, word_read}

-- 1. How a scalar is stored and loaded

abbrev pub store_access : Scalar → Access
store_access Scalar.bool = access wasm.I32 0
store_access Scalar.u8 = access wasm.I32 0
store_access Scalar.s8 = access wasm.I32 0
store_access Scalar.u16 = access wasm.I32 1
store_access Scalar.s16 = access wasm.I32 1
store_access Scalar.u32 = access wasm.I32 2
store_access Scalar.s32 = access wasm.I32 2
store_access Scalar.u64 = access wasm.I64 3
store_access Scalar.s64 = access wasm.I64 3
store_access Scalar.f32 = access wasm.F32 2
store_access Scalar.f64 = access wasm.F64 3
store_access Scalar.char = access wasm.I32 2
store_access Scalar.handle = access wasm.I32 2

abbrev pub load_access : Scalar → Access
load_access Scalar.s8 = signed_access wasm.I32 0
load_access Scalar.s16 = signed_access wasm.I32 1
load_access s = store_access s

-- 2. Its bytes

u8_stored : (v : ℤ) → is_unsigned 8 v ≡ true → low_bits 32 v % 256 ≡ low_bits 8 v
u8_stored v h = grind (arith, ints)

u16_stored : (v : ℤ) → is_unsigned 16 v ≡ true → low_bits 32 v % 2 ^ 16 ≡ low_bits 16 v
u16_stored v h = grind (arith, ints)

u32_stored : (v : ℤ) → is_unsigned 32 v ≡ true → low_bits 32 (cast_signed w32 (low_bits 32 v)) % 2 ^ 32 ≡ low_bits 32 v
u32_stored v h = grind (arith, ints)

u64_stored : (v : ℤ) → is_unsigned 64 v ≡ true → low_bits 64 (cast_signed w64 (low_bits 64 v)) % 2 ^ 64 ≡ low_bits 64 v
u64_stored v h = grind (arith, ints)

s8_stored : (v : ℤ) → is_signed 7 v ≡ true → low_bits 32 v % 256 ≡ low_bits 8 v
s8_stored v h = grind (arith, ints)

s16_stored : (v : ℤ) → is_signed 15 v ≡ true → low_bits 32 v % 2 ^ 16 ≡ low_bits 16 v
s16_stored v h = grind (arith, ints)

s32_stored : (v : ℤ) → is_signed 31 v ≡ true → low_bits 32 v % 2 ^ 32 ≡ low_bits 32 v
s32_stored v h = grind (arith, ints)

s64_stored : (v : ℤ) → is_signed 63 v ≡ true → low_bits 64 v % 2 ^ 64 ≡ low_bits 64 v
s64_stored v h = grind (arith, ints)

bool_stored : (v : Bool) → low_bits 32 (pos (bit v)) % 256 ≡ bit v
bool_stored true = refl
bool_stored false = refl

char_below : (c : ℕ) → is_scalar_value c ≡ true → c < 2 ^ 32
char_below c h = grind arith

pub low_of_nat : (c : ℕ) → c < 2 ^ 32 → low_bits 32 (pos c) ≡ c
low_of_nat c h = grind (arith, ints)

char_stored : (c : ℕ) → is_scalar_value c ≡ true → low_bits 32 (pos c) % 2 ^ 32 ≡ c
char_stored c h = let small = char_below c h in let same = low_of_nat c small in omega arith

pub stored_scalar : (s : Scalar) (v : ScalarValue s) → IsScalar s v → bits_of (passed_word s v) % 256 ^ (2 ^ (store_access s).grain) ≡ stored_bits s v
stored_scalar Scalar.bool v h = bool_stored v
stored_scalar Scalar.u8 v h = u8_stored v h
stored_scalar Scalar.s8 v h = s8_stored v h
stored_scalar Scalar.u16 v h = u16_stored v h
stored_scalar Scalar.s16 v h = s16_stored v h
stored_scalar Scalar.u32 v h = u32_stored v h
stored_scalar Scalar.s32 v h = s32_stored v h
stored_scalar Scalar.u64 v h = u64_stored v h
stored_scalar Scalar.s64 v h = s64_stored v h
stored_scalar Scalar.f32 v h = omega arith
stored_scalar Scalar.f64 v h = omega arith
stored_scalar Scalar.char v h = char_stored v h
stored_scalar Scalar.handle v h = elim v [ ]

-- the word that is stored is of the type that the store takes
pub stored_type : (s : Scalar) (v : ScalarValue s) → has_type (store_access s).word (passed_word s v) ≡ true
stored_type Scalar.bool v = refl
stored_type Scalar.u8 v = refl
stored_type Scalar.s8 v = refl
stored_type Scalar.u16 v = refl
stored_type Scalar.s16 v = refl
stored_type Scalar.u32 v = refl
stored_type Scalar.s32 v = refl
stored_type Scalar.u64 v = refl
stored_type Scalar.s64 v = refl
stored_type Scalar.f32 v = refl
stored_type Scalar.f64 v = refl
stored_type Scalar.char v = refl
stored_type Scalar.handle v = elim v [ ]

-- 3. What is read from them

u8_loaded : (v : ℤ) → is_unsigned 8 v ≡ true → low_bits 8 v ≡ low_bits 8 (cast_signed w32 (low_bits 8 v % 2 ^ 32))
u8_loaded v h = grind (arith, ints)

u16_loaded : (v : ℤ) → is_unsigned 16 v ≡ true → low_bits 16 v ≡ low_bits 16 (cast_signed w32 (low_bits 16 v % 2 ^ 32))
u16_loaded v h = grind (arith, ints)

u32_loaded : (v : ℤ) → is_unsigned 32 v ≡ true → low_bits 32 v ≡ low_bits 32 (cast_signed w32 (low_bits 32 v % 2 ^ 32))
u32_loaded v h = grind (arith, ints)

u64_loaded : (v : ℤ) → is_unsigned 64 v ≡ true → low_bits 64 v ≡ low_bits 64 (cast_signed w64 (low_bits 64 v % 2 ^ 64))
u64_loaded v h = grind (arith, ints)

s8_loaded : (v : ℤ) → is_signed 7 v ≡ true → low_bits 8 v ≡ low_bits 8 (cast_signed w8 (low_bits 8 v))
s8_loaded v h = grind (arith, ints)

s16_loaded : (v : ℤ) → is_signed 15 v ≡ true → low_bits 16 v ≡ low_bits 16 (cast_signed w16 (low_bits 16 v))
s16_loaded v h = grind (arith, ints)

s32_loaded : (v : ℤ) → is_signed 31 v ≡ true → cast_signed w32 (low_bits 32 v % 2 ^ 32) ≡ v
s32_loaded v h = grind (arith, ints)

s64_loaded : (v : ℤ) → is_signed 63 v ≡ true → cast_signed w64 (low_bits 64 v % 2 ^ 64) ≡ v
s64_loaded v h = grind (arith, ints)

bool_loaded : (v : Bool) → bit v ≡ low_bits 8 (cast_signed w32 (bit v % 2 ^ 32))
bool_loaded true = refl
bool_loaded false = refl

low_of_cast : (c : ℕ) → c < 2 ^ 32 → c ≡ low_bits 32 (cast_signed w32 (c % 2 ^ 32))
low_of_cast c h = grind (arith, ints)

pub loaded_scalar : (w : ℕ) (s : Scalar) (v : ScalarValue s) → IsScalar s v → IsTaken s v (word_read w (load_access s) (stored_bits s v))
loaded_scalar w Scalar.bool v h = (cast_signed w32 (bit v % 2 ^ 32), refl, bool_loaded v)
loaded_scalar w Scalar.u8 v h = (cast_signed w32 (low_bits 8 v % 2 ^ 32), refl, u8_loaded v h)
loaded_scalar w Scalar.s8 v h = (cast_signed w8 (low_bits 8 v), refl, s8_loaded v h)
loaded_scalar w Scalar.u16 v h = (cast_signed w32 (low_bits 16 v % 2 ^ 32), refl, u16_loaded v h)
loaded_scalar w Scalar.s16 v h = (cast_signed w16 (low_bits 16 v), refl, s16_loaded v h)
loaded_scalar w Scalar.u32 v h = (cast_signed w32 (low_bits 32 v % 2 ^ 32), refl, u32_loaded v h)
loaded_scalar w Scalar.s32 v h = ap core.I32 (s32_loaded v h)
loaded_scalar w Scalar.u64 v h = (cast_signed w64 (low_bits 64 v % 2 ^ 64), refl, u64_loaded v h)
loaded_scalar w Scalar.s64 v h = ap core.I64 (s64_loaded v h)
loaded_scalar w Scalar.f32 v h = ap core.F32 (omega arith)
loaded_scalar w Scalar.f64 v h = ap core.F64 (omega arith)
loaded_scalar w Scalar.char v h = (cast_signed w32 (v % 2 ^ 32), refl, low_of_cast v (char_below v h))
loaded_scalar w Scalar.handle v h = elim v [ ]

-- whatever the bytes are, the word that is read is of the scalar's core type
pub loaded_type : (w : ℕ) (s : Scalar) (x : ℕ) → has_type (core_type s) (word_read w (load_access s) x) ≡ true
loaded_type w Scalar.bool x = refl
loaded_type w Scalar.u8 x = refl
loaded_type w Scalar.s8 x = refl
loaded_type w Scalar.u16 x = refl
loaded_type w Scalar.s16 x = refl
loaded_type w Scalar.u32 x = refl
loaded_type w Scalar.s32 x = refl
loaded_type w Scalar.u64 x = refl
loaded_type w Scalar.s64 x = refl
loaded_type w Scalar.f32 x = refl
loaded_type w Scalar.f64 x = refl
loaded_type w Scalar.char x = refl
loaded_type w Scalar.handle x = refl

-- 4. Its place

-- a load takes as many bytes as a store
pub load_grain : (s : Scalar) → (load_access s).grain ≡ (store_access s).grain
load_grain Scalar.bool = refl
load_grain Scalar.u8 = refl
load_grain Scalar.s8 = refl
load_grain Scalar.u16 = refl
load_grain Scalar.s16 = refl
load_grain Scalar.u32 = refl
load_grain Scalar.s32 = refl
load_grain Scalar.u64 = refl
load_grain Scalar.s64 = refl
load_grain Scalar.f32 = refl
load_grain Scalar.f64 = refl
load_grain Scalar.char = refl
load_grain Scalar.handle = refl

pub scalar_size : (w : ℕ) (s : Scalar) → elem_size w (layout (scalar s)) ≡ 2 ^ (store_access s).grain
scalar_size w Scalar.bool = refl
scalar_size w Scalar.u8 = refl
scalar_size w Scalar.s8 = refl
scalar_size w Scalar.u16 = refl
scalar_size w Scalar.s16 = refl
scalar_size w Scalar.u32 = refl
scalar_size w Scalar.s32 = refl
scalar_size w Scalar.u64 = refl
scalar_size w Scalar.s64 = refl
scalar_size w Scalar.f32 = refl
scalar_size w Scalar.f64 = refl
scalar_size w Scalar.char = refl
scalar_size w Scalar.handle = refl

pub scalar_alignment : (w : ℕ) (s : Scalar) → alignment w (layout (scalar s)) ≡ 2 ^ (store_access s).grain
scalar_alignment w s = scalar_size w s
