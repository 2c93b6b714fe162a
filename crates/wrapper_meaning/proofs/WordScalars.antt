-- The word of a scalar determines it.
use Rattle.std.proofs.Common.{◌≡◌, ℕ, ◌<◌, ◌-◌, ◌^◌, true, ℤ, pos, unsigned_abs, sym, ap, arith, ◌∙◌}
use Rattle.std.specs.Int.{w32, w64, cast_signed}
use Rattle.std.proofs.lemmas.Int.{ints}
use Rattle.wrapper_data.specs.declared.word.Word.{Word}
use Rattle.wrapper_data.specs.declared.word.Word.TheVariants as word
use Rattle.wit_layout.specs.Tree.{Scalar}
use Rattle.wrapper_meaning.specs.AsWords.{IsTaken, SaysScalar, handle_word, passed_word}
use Rattle.wrapper_meaning.specs.Direction.{Direction, take}
use Rattle.wrapper_meaning.specs.Numbers.{is_unsigned, low_bits, scalar_bits}
use Rattle.wrapper_meaning.specs.InMemory.{stored_bits}
use Rattle.wrapper_meaning.specs.InRange.{IsScalar}
use Rattle.wrapper_meaning.specs.Value.{ScalarValue}
use Rattle.wrapper_meaning.proofs.Scalars.{bit_same, scalar_same}

integer : Word → ℤ
integer (word.I32 z) = z
integer (word.I64 z) = z
integer _ = pos 0

float : Word → ℕ
float (word.F32 x) = x
float (word.F64 x) = x
float _ = 0

natural : ℤ → ℕ
natural z = unsigned_abs z

i32_same : (a b : ℤ) → word.I32 a ≡ word.I32 b → a ≡ b
unfolding integer
i32_same a b e = ap integer e

i64_same : (a b : ℤ) → word.I64 a ≡ word.I64 b → a ≡ b
unfolding integer
i64_same a b e = ap integer e

f32_same : (a b : ℕ) → word.F32 a ≡ word.F32 b → a ≡ b
unfolding float
f32_same a b e = ap float e

f64_same : (a b : ℕ) → word.F64 a ≡ word.F64 b → a ≡ b
unfolding float
f64_same a b e = ap float e

pos_same : (a b : ℕ) → pos a ≡ pos b → a ≡ b
unfolding natural
pos_same a b e = ap natural e

u32_passed : (u v : ℤ) → is_unsigned 32 u ≡ true → is_unsigned 32 v ≡ true → cast_signed w32 (low_bits 32 u) ≡ cast_signed w32 (low_bits 32 v) → u ≡ v
u32_passed u v hu hv e = grind (arith, ints)

u64_passed : (u v : ℤ) → is_unsigned 64 u ≡ true → is_unsigned 64 v ≡ true → cast_signed w64 (low_bits 64 u) ≡ cast_signed w64 (low_bits 64 v) → u ≡ v
u64_passed u v hu hv e = grind (arith, ints)

pub handle_same : (u v : ℕ) → u < 2 ^ 32 - 1 → v < 2 ^ 32 - 1 → handle_word u ≡ handle_word v → u ≡ v
handle_same u v hu hv e = signed_same u v hu hv (i32_same _ _ e)
  where
    signed_same : (u v : ℕ) → u < 2 ^ 32 - 1 → v < 2 ^ 32 - 1 → cast_signed w32 u ≡ cast_signed w32 v → u ≡ v
    signed_same u v hu hv e = grind (arith, ints)

passed_same : (s : Scalar) (u v : ScalarValue s) → IsScalar s u → IsScalar s v → passed_word s u ≡ passed_word s v → u ≡ v
passed_same Scalar.bool u v hu hv e = bit_same u v (pos_same _ _ (i32_same _ _ e))
passed_same Scalar.u32 u v hu hv e = u32_passed u v hu hv (i32_same _ _ e)
passed_same Scalar.u64 u v hu hv e = u64_passed u v hu hv (i64_same _ _ e)
passed_same Scalar.s64 u v hu hv e = i64_same _ _ e
passed_same Scalar.f32 u v hu hv e = f32_same _ _ e
passed_same Scalar.f64 u v hu hv e = f64_same _ _ e
passed_same Scalar.char u v hu hv e = pos_same _ _ (i32_same _ _ e)
passed_same Scalar.handle u v hu hv e = elim u [ ]
passed_same s u v hu hv e = i32_same _ _ e

-- two scalars that are read of one word have the same bits
same_bits : (s : Scalar) (u v : ScalarValue s) (n : ℕ) (y z : ℤ) → IsScalar s u → IsScalar s v → y ≡ z → stored_bits s u ≡ low_bits n y → stored_bits s v ≡ low_bits n z → u ≡ v
same_bits s u v n y z gu gv e hu hv = scalar_same s u v gu gv (hu ∙ ap (low_bits n) e ∙ sym hv)

taken_same : (s : Scalar) (u v : ScalarValue s) (x : Word) → IsScalar s u → IsScalar s v → IsTaken s u x → IsTaken s v x → u ≡ v
taken_same Scalar.f32 u v x gu gv h g = f32_same _ _ (sym h ∙ g)
taken_same Scalar.f64 u v x gu gv h g = f64_same _ _ (sym h ∙ g)
taken_same Scalar.u64 u v x gu gv (y, d, h) (z, e, g) = same_bits Scalar.u64 u v 64 y z gu gv (i64_same _ _ (sym d ∙ e)) h g
taken_same Scalar.s32 u v x gu gv h g = i32_same _ _ (sym h ∙ g)
taken_same Scalar.s64 u v x gu gv h g = i64_same _ _ (sym h ∙ g)
taken_same s u v x gu gv (y, d, h) (z, e, g) = same_bits s u v (scalar_bits s) y z gu gv (i32_same _ _ (sym d ∙ e)) h g

pub word_same : (dir : Direction) (s : Scalar) (u v : ScalarValue s) (x : Word) → IsScalar s u → IsScalar s v → SaysScalar dir s u x → SaysScalar dir s v x → u ≡ v
word_same take s u v x gu gv hu hv = taken_same s u v x gu gv hu hv
word_same _ s u v x gu gv hu hv = passed_same s u v gu gv (sym hu ∙ hv)

pub case_same : (m n : ℕ) → word.I32 (pos m) ≡ word.I32 (pos n) → m ≡ n
case_same m n e = pos_same m n (i32_same _ _ e)
