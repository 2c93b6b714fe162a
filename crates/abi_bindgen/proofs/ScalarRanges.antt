-- The words that scalars are passed as are within the range of their core types.
use Rattle.std.proofs.Common.{◌≡◌, ℕ, ◌^◌, ◌<◌, Bool, true, false, ℤ, pos, refl, arith}
use Rattle.std.specs.Int.{w32, w64, cast_signed}
use Rattle.std.proofs.lemmas.Int.{ints}
use Rattle.wit_layout.specs.Tree.{Scalar}
use Rattle.wrapper_meaning.specs.AsWords.{passed_word}
use Rattle.wrapper_meaning.specs.InRange.{IsScalar}
use Rattle.wrapper_meaning.specs.Numbers.{bit, is_scalar_value, is_signed, is_unsigned, low_bits}
use Rattle.wrapper_meaning.specs.Value.{ScalarValue}
use Rattle.abi_bindgen.specs.Memory.{is_ranged}

u8_ranged : (v : ℤ) → is_unsigned 8 v ≡ true → is_signed 31 v ≡ true
u8_ranged v h = grind (arith, ints)

u16_ranged : (v : ℤ) → is_unsigned 16 v ≡ true → is_signed 31 v ≡ true
u16_ranged v h = grind (arith, ints)

s8_ranged : (v : ℤ) → is_signed 7 v ≡ true → is_signed 31 v ≡ true
s8_ranged v h = grind (arith, ints)

s16_ranged : (v : ℤ) → is_signed 15 v ≡ true → is_signed 31 v ≡ true
s16_ranged v h = grind (arith, ints)

cast_32_ranged : (n : ℕ) → n < 2 ^ 32 → is_signed 31 (cast_signed w32 n) ≡ true
cast_32_ranged n l = grind (arith, ints)

cast_64_ranged : (n : ℕ) → n < 2 ^ 64 → is_signed 63 (cast_signed w64 n) ≡ true
cast_64_ranged n l = grind (arith, ints)

bool_ranged : (v : Bool) → is_signed 31 (pos (bit v)) ≡ true
bool_ranged true = refl
bool_ranged false = refl

char_ranged : (c : ℕ) → is_scalar_value c ≡ true → is_signed 31 (pos c) ≡ true
char_ranged c h = grind (arith, ints)

low_below_32 : (v : ℤ) → is_unsigned 32 v ≡ true → low_bits 32 v < 2 ^ 32
low_below_32 v h = grind (arith, ints)

low_below_64 : (v : ℤ) → is_unsigned 64 v ≡ true → low_bits 64 v < 2 ^ 64
low_below_64 v h = grind (arith, ints)

pub stored_ranged : (s : Scalar) (v : ScalarValue s) → IsScalar s v → is_ranged (passed_word s v) ≡ true
stored_ranged Scalar.bool v h = bool_ranged v
stored_ranged Scalar.u8 v h = u8_ranged v h
stored_ranged Scalar.s8 v h = s8_ranged v h
stored_ranged Scalar.u16 v h = u16_ranged v h
stored_ranged Scalar.s16 v h = s16_ranged v h
stored_ranged Scalar.u32 v h = cast_32_ranged (low_bits 32 v) (low_below_32 v h)
stored_ranged Scalar.s32 v h = h
stored_ranged Scalar.u64 v h = cast_64_ranged (low_bits 64 v) (low_below_64 v h)
stored_ranged Scalar.s64 v h = h
stored_ranged Scalar.f32 v h = refl
stored_ranged Scalar.f64 v h = refl
stored_ranged Scalar.char v h = char_ranged v h
stored_ranged Scalar.handle v h = elim v [ ]
