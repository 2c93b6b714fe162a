-- The words of flags, and the flags that words are, as numbers.
use Rattle.std.proofs.Common.{◌≡◌, ℕ, zero, suc, ℤ, pos, ◌+◌, ◌-◌, ◌*◌, ◌/◌, ◌%◌, ◌^◌, ◌<◌, ◌≤◌, Bool, true, false, cond, nat_le, List, [], ◌∷◌, map, refl, sym, ap, ap₂, ◌∙◌, arith}
use Rattle.std.specs.Prelude.{replicate}
use Rattle.std.proofs.Math.Nat.{add_comm, div-one, mod-lt, mod-one, mul_comm}
use Rattle.std.proofs.Math.Pow.{mod-mod-pow, mod-pow-add, pow_pos, shr-shr}
use Rattle.std.proofs.lemmas.Bool.{and_parts, leb-true}
use Rattle.std.proofs.lemmas.Int.{ints}
use Rattle.wit_layout.specs.Extent.{flag_words}
use Rattle.wit_model.specs.declared.wasm_type.WasmType.TheVariants as wasm
use Rattle.rust_tree.specs.declared.repr.Repr.{Repr}
use Rattle.wrapper_data.specs.declared.word.Word.{Word}
use Rattle.wrapper_data.specs.declared.word.Word.TheVariants as core
use Rattle.wrapper_meaning.specs.AsWords.{flag_bits}
use Rattle.wrapper_meaning.specs.Numbers.{flags_width, is_signed, low_bits}
use Rattle.wrapper_meaning.specs.Words.{AreWords, bits_of}
use Rattle.wrapper_values.specs.Effect.{low_i32}
use Rattle.wrapper_values.specs.Flags.{joined, repr_bits, word_at}
use Rattle.wrapper_values.proofs.FlagsLemmas.{joined_words, words_from, words_sum}
use Rattle.abi_bindgen.specs.Account.{has_type, have_types}
use Rattle.func_gen.proofs.ScalarRows.{i32_word}

-- 1. The words of bits, the lowest first

abbrev pub bits_words : (bits by count : ℕ) → List Word
bits_words bits by zero = []
bits_words bits by (suc n) = word_at by bits ∷ bits_words bits (32 + by) n

low_word : (q : ℕ) → low_bits 32 (low_i32 (pos q)) ≡ q % 2 ^ 32
low_word q = grind (arith, ints)

word_signed : (z : ℤ) → is_signed 31 (low_i32 z) ≡ true
word_signed z = grind (arith, ints)

pub words_typed : (bits by count : ℕ) → AreWords 2 (replicate count wasm.I32) (bits_words bits by count)
words_typed bits by zero = refl
words_typed bits by (suc n) = (word_signed (pos (bits / 2 ^ by)), words_typed bits (32 + by) n)

-- they say the bits that they have room for
words_say : (bits by count : ℕ) → flag_bits (bits_words bits by count) ≡ (bits / 2 ^ by) % 2 ^ (32 * count)
words_say bits by zero = sym (mod-one (bits / 2 ^ by))
words_say bits by (suc n) =
    let q = bits / 2 ^ by in
    let behind : bits / 2 ^ (32 + by) ≡ q / 2 ^ 32 = ap (λ k. bits / 2 ^ k) (add_comm 32 by) ∙ sym (shr-shr bits by 32) in
    let more : 32 * suc n ≡ 32 * n + 32 = omega arith in
    ap₂ (λ x y. x + 2 ^ 32 * y) (low_word q) (words_say bits (32 + by) n ∙ ap (λ x. x % 2 ^ (32 * n)) behind)
    ∙ add_comm (q % 2 ^ 32) (2 ^ 32 * (q / 2 ^ 32 % 2 ^ (32 * n))) ∙ ap (λ x. x + q % 2 ^ 32) (mul_comm (2 ^ 32) (q / 2 ^ 32 % 2 ^ (32 * n)))
    ∙ sym (ap (λ k. q % 2 ^ k) more ∙ mod-pow-add q (32 * n) 32)

room_for : (n : ℕ) → n ≤ 32 * flag_words n
room_for n = grind (arith)

cut : (x a b : ℕ) → b ≤ a → x % 2 ^ a % 2 ^ b ≡ x % 2 ^ b
cut x a b le = let e : a ≡ (a - b) + b = omega (arith, le) in ap (λ k. x % 2 ^ k % 2 ^ b) e ∙ mod-mod-pow x (a - b) b

-- of as many members as there is room for
pub members_said : (bits n : ℕ) → flag_bits (bits_words bits 0 (flag_words n)) % 2 ^ n ≡ bits % 2 ^ n
members_said bits n = ap (λ x. x % 2 ^ n) (words_say bits 0 (flag_words n) ∙ ap (λ x. x % 2 ^ (32 * flag_words n)) (div-one bits)) ∙ cut bits (32 * flag_words n) n (room_for n)

-- 2. The numbers of words

abbrev pub number_in : Word → ℤ
number_in (core.I32 z) = z
number_in _ = pos 0

abbrev pub numbers_in : List Word → List ℤ
numbers_in ws = map number_in ws

-- each is a word of 32 bits
abbrev pub AreNarrow : List Word → Type 0
AreNarrow [] = Unit {0}
AreNarrow (x ∷ ws) = (x ≡ core.I32 (number_in x)) × AreNarrow ws

pub are_narrow : (n : ℕ) (ws : List Word) → have_types (replicate n wasm.I32) ws ≡ true → AreNarrow ws
are_narrow zero [] h = tt
are_narrow zero (x ∷ ws) h = absurd cc
are_narrow (suc n) [] h = tt
are_narrow (suc n) (x ∷ ws) h =
    let two = and_parts (has_type wasm.I32 x) (have_types (replicate n wasm.I32) ws) h in
    let (z, is) = i32_word x two.0 in
    (is ∙ ap (λ y. core.I32 (number_in y)) (sym is), are_narrow n ws two.1)

sums : (ws : List Word) → AreNarrow ws → words_sum (numbers_in ws) ≡ flag_bits ws
sums [] h = refl
sums (x ∷ ws) h = ap₂ (λ a b. a + 2 ^ 32 * b) (ap bits_of (sym h.0)) (sums ws h.1)

-- the flags that they are
pub joins : (repr : Repr) (ws : List Word) → AreNarrow ws → joined repr (words_from 0 (numbers_in ws)) ≡ flag_bits ws % 2 ^ repr_bits repr
joins repr ws h = joined_words repr (numbers_in ws) ∙ ap (λ x. x % 2 ^ repr_bits repr) (sums ws h)

width_holds : (n : ℕ) → n ≤ 128 → n ≤ flags_width n
width_holds n le = go (nat_le n 8) refl (nat_le n 16) refl (nat_le n 32) refl (nat_le n 64) refl
  where
    go : (a : Bool) → nat_le n 8 ≡ a → (b : Bool) → nat_le n 16 ≡ b → (c : Bool) → nat_le n 32 ≡ c → (d : Bool) → nat_le n 64 ≡ d → n ≤ cond a 8 (cond b 16 (cond c 32 (cond d 64 128)))
    go true ea b eb c ec d ed = leb-true n 8 ea
    go false ea true eb c ec d ed = leb-true n 16 eb
    go false ea false eb true ec d ed = leb-true n 32 ec
    go false ea false eb false ec true ed = leb-true n 64 ed
    go false ea false eb false ec false ed = le

-- which are within the width, and the members that the words say
pub bits_within : (x n : ℕ) → x % 2 ^ flags_width n < 2 ^ flags_width n
bits_within x n = mod-lt x (pow_pos (flags_width n))

pub members_kept : (x n : ℕ) → n ≤ 128 → x % 2 ^ flags_width n % 2 ^ n ≡ x % 2 ^ n
members_kept x n le = cut x (flags_width n) n (width_holds n le)
