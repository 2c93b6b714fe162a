-- The bits of a scalar determine it.
use Rattle.std.proofs.Common.{◌≡◌, Bool, true, false, ℤ, refl, arith}
use Rattle.std.proofs.lemmas.Int.{ints}
use Rattle.wit_layout.specs.Tree.{Scalar}
use Rattle.wrapper_meaning.specs.InMemory.{stored_bits}
use Rattle.wrapper_meaning.specs.Numbers.{bit, is_signed, is_unsigned, low_bits}
use Rattle.wrapper_meaning.specs.InRange.{IsScalar}
use Rattle.wrapper_meaning.specs.Value.{ScalarValue}

pub bit_same : (u v : Bool) → bit u ≡ bit v → u ≡ v
bit_same true true e = refl
bit_same false false e = refl
bit_same true false e = absurd (omega (e, arith))
bit_same false true e = absurd (omega (e, arith))

u8_same : (u v : ℤ) → is_unsigned 8 u ≡ true → is_unsigned 8 v ≡ true → low_bits 8 u ≡ low_bits 8 v → u ≡ v
u8_same u v hu hv e = grind (arith, ints)

u16_same : (u v : ℤ) → is_unsigned 16 u ≡ true → is_unsigned 16 v ≡ true → low_bits 16 u ≡ low_bits 16 v → u ≡ v
u16_same u v hu hv e = grind (arith, ints)

u32_same : (u v : ℤ) → is_unsigned 32 u ≡ true → is_unsigned 32 v ≡ true → low_bits 32 u ≡ low_bits 32 v → u ≡ v
u32_same u v hu hv e = grind (arith, ints)

u64_same : (u v : ℤ) → is_unsigned 64 u ≡ true → is_unsigned 64 v ≡ true → low_bits 64 u ≡ low_bits 64 v → u ≡ v
u64_same u v hu hv e = grind (arith, ints)

s8_same : (u v : ℤ) → is_signed 7 u ≡ true → is_signed 7 v ≡ true → low_bits 8 u ≡ low_bits 8 v → u ≡ v
s8_same u v hu hv e = grind (arith, ints)

s16_same : (u v : ℤ) → is_signed 15 u ≡ true → is_signed 15 v ≡ true → low_bits 16 u ≡ low_bits 16 v → u ≡ v
s16_same u v hu hv e = grind (arith, ints)

s32_same : (u v : ℤ) → is_signed 31 u ≡ true → is_signed 31 v ≡ true → low_bits 32 u ≡ low_bits 32 v → u ≡ v
s32_same u v hu hv e = grind (arith, ints)

s64_same : (u v : ℤ) → is_signed 63 u ≡ true → is_signed 63 v ≡ true → low_bits 64 u ≡ low_bits 64 v → u ≡ v
s64_same u v hu hv e = grind (arith, ints)

pub scalar_same : (s : Scalar) (u v : ScalarValue s) → IsScalar s u → IsScalar s v → stored_bits s u ≡ stored_bits s v → u ≡ v
scalar_same Scalar.bool u v hu hv e = bit_same u v e
scalar_same Scalar.f32 u v hu hv e = e
scalar_same Scalar.f64 u v hu hv e = e
scalar_same Scalar.char u v hu hv e = e
scalar_same Scalar.handle u v hu hv e = elim u [ ]
scalar_same Scalar.u8 u v hu hv e = u8_same u v hu hv e
scalar_same Scalar.u16 u v hu hv e = u16_same u v hu hv e
scalar_same Scalar.u32 u v hu hv e = u32_same u v hu hv e
scalar_same Scalar.u64 u v hu hv e = u64_same u v hu hv e
scalar_same Scalar.s8 u v hu hv e = s8_same u v hu hv e
scalar_same Scalar.s16 u v hu hv e = s16_same u v hu hv e
scalar_same Scalar.s32 u v hu hv e = s32_same u v hu hv e
scalar_same Scalar.s64 u v hu hv e = s64_same u v hu hv e
