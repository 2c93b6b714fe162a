-- Numbers, bools and chars as words: which word is made, and which words are read.
use Rattle.std.proofs.Common.{◌≡◌, ◌∙◌, ℤ, Bool, true, false, [], ◌∷◌, negsuc, pos, refl, ap, arith}
use Rattle.wit_layout.specs.Tree.{Scalar}
use Rattle.wrapper_data.specs.declared.word.Word.{Word}
use Rattle.wrapper_data.specs.declared.word.Word.TheVariants as word
use Rattle.wrapper_meaning.specs.AsWords.{Says, passed_word}
use Rattle.wrapper_meaning.specs.Direction.{give, lend, take}
use Rattle.wrapper_meaning.specs.Numbers.{low_bits}
use Rattle.wrapper_meaning.specs.Shape.Shape.{scalar}
use Rattle.wrapper_meaning.proofs.Lists.{first_or}

-- 1. Made: the greatest number of eight bits, -1 by its sign, and a number of 32 bits that is no signed one

byte : passed_word Scalar.u8 (pos 255) ≡ word.I32 (pos 255)
byte = refl

signed_byte : passed_word Scalar.s8 (negsuc 0) ≡ word.I32 (negsuc 0)
signed_byte = refl

whole_word : passed_word Scalar.u32 (pos 4294967295) ≡ word.I32 (negsuc 0)
whole_word = refl

yes : Says 2 give (scalar Scalar.bool) true (word.I32 (pos 1) ∷ []) []
yes = (word.I32 (pos 1), refl, refl, refl)

-- 2. Read: whatever the upper bits are

read_byte : Says 2 take (scalar Scalar.u8) (pos 255) (word.I32 (pos 511) ∷ []) []
read_byte = (word.I32 (pos 511), refl, (pos 511, refl, refl), refl)

read_signed_byte : Says 2 take (scalar Scalar.s8) (negsuc 0) (word.I32 (pos 255) ∷ []) []
read_signed_byte = (word.I32 (pos 255), refl, (pos 255, refl, refl), refl)

read_bool : Says 2 take (scalar Scalar.bool) true (word.I32 (pos 257) ∷ []) []
read_bool = (word.I32 (pos 257), refl, (pos 257, refl, refl), refl)

-- 3. What is refused

number_in : Word → ℤ
number_in (word.I32 z) = z
number_in _ = pos 0

-- a word that is lent with other upper bits
lent_otherwise : Says 2 (lend []) (scalar Scalar.s8) (negsuc 0) (word.I32 (pos 255) ∷ []) [] → ⊥
unfolding number_in
lent_otherwise (x, words, says, blocks) = absurd cc

-- a word that is no bool
no_bool : (v : Bool) → Says 2 take (scalar Scalar.bool) v (word.I32 (pos 2) ∷ []) [] → ⊥
unfolding number_in
no_bool true (x, words, (z, e, bits), blocks) = omega (bits, ap (λ y. low_bits 8 y) (ap number_in (ap (first_or (word.I32 (pos 2))) words ∙ e)), arith)
no_bool false (x, words, (z, e, bits), blocks) = omega (bits, ap (λ y. low_bits 8 y) (ap number_in (ap (first_or (word.I32 (pos 2))) words ∙ e)), arith)
