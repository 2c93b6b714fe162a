-- A number in its range is told by its low bits, as the machine reads them.
use Rattle.std.proofs.Common.{◌≡◌, ℕ, ℤ, pos, negsuc, true, unsigned_abs, refl, sym, ap, arith, ◌∙◌}
use Rattle.std.specs.Int.{cast_signed, w8, w16}
use Rattle.std.proofs.lemmas.Int.{ints}
use Rattle.wrapper_meaning.specs.Numbers.{is_signed, is_unsigned, low_bits}
use Rattle.wrapper_values.specs.Effect.{low}

pub same_low : (n : ℕ) (z : ℤ) → low n z ≡ pos (low_bits n z)
same_low n (pos a) = refl
same_low n (negsuc a) = refl

signed_word : (n : ℕ) (z : ℤ) → low_bits n z ≡ unsigned_abs (low n z)
signed_word n z = ap unsigned_abs (sym (same_low n z))

low_u8 : (v : ℤ) → is_unsigned 8 v ≡ true → v ≡ pos (low_bits 8 v)
low_u8 v h = grind (arith, ints)

low_u16 : (v : ℤ) → is_unsigned 16 v ≡ true → v ≡ pos (low_bits 16 v)
low_u16 v h = grind (arith, ints)

low_u32 : (v : ℤ) → is_unsigned 32 v ≡ true → v ≡ pos (low_bits 32 v)
low_u32 v h = grind (arith, ints)

low_u64 : (v : ℤ) → is_unsigned 64 v ≡ true → v ≡ pos (low_bits 64 v)
low_u64 v h = grind (arith, ints)

low_s8 : (v : ℤ) → is_signed 7 v ≡ true → v ≡ cast_signed w8 (low_bits 8 v)
low_s8 v h = grind (arith, ints)

low_s16 : (v : ℤ) → is_signed 15 v ≡ true → v ≡ cast_signed w16 (low_bits 16 v)
low_s16 v h = grind (arith, ints)

-- what is read of a word with the same low bits is the number

pub read_u8 : (v z : ℤ) → is_unsigned 8 v ≡ true → low_bits 8 v ≡ low_bits 8 z → low 8 z ≡ v
read_u8 v z h e = same_low 8 z ∙ ap pos (sym e) ∙ sym (low_u8 v h)

pub read_u16 : (v z : ℤ) → is_unsigned 16 v ≡ true → low_bits 16 v ≡ low_bits 16 z → low 16 z ≡ v
read_u16 v z h e = same_low 16 z ∙ ap pos (sym e) ∙ sym (low_u16 v h)

pub read_u32 : (v z : ℤ) → is_unsigned 32 v ≡ true → low_bits 32 v ≡ low_bits 32 z → low 32 z ≡ v
read_u32 v z h e = same_low 32 z ∙ ap pos (sym e) ∙ sym (low_u32 v h)

pub read_u64 : (v z : ℤ) → is_unsigned 64 v ≡ true → low_bits 64 v ≡ low_bits 64 z → low 64 z ≡ v
read_u64 v z h e = same_low 64 z ∙ ap pos (sym e) ∙ sym (low_u64 v h)

pub read_s8 : (v z : ℤ) → is_signed 7 v ≡ true → low_bits 8 v ≡ low_bits 8 z → cast_signed w8 (unsigned_abs (low 8 z)) ≡ v
read_s8 v z h e = ap (cast_signed w8) (sym (signed_word 8 z) ∙ sym e) ∙ sym (low_s8 v h)

pub read_s16 : (v z : ℤ) → is_signed 15 v ≡ true → low_bits 16 v ≡ low_bits 16 z → cast_signed w16 (unsigned_abs (low 16 z)) ≡ v
read_s16 v z h e = ap (cast_signed w16) (sym (signed_word 16 z) ∙ sym e) ∙ sym (low_s16 v h)
