-- The words that are given or lent are words of their core types.
use Rattle.std.proofs.Common.{◌≡◌, ◌⊎◌, ℕ, ◌*◌, ◌^◌, ◌<◌, Bool, true, false, List, [], ◌∷◌, ◌++◌, length, refl, sym, subst, arith, inl, inr}
use Rattle.wit_model.specs.declared.wasm_type.WasmType.{WasmType}
use Rattle.wit_model.specs.declared.wasm_type.WasmType.TheVariants as wasm
use Rattle.wit_layout.specs.Flat.{core_type}
use Rattle.wit_layout.specs.Tree.{Scalar}
use Rattle.wrapper_data.specs.declared.block.Block.{Block}
use Rattle.wrapper_data.specs.declared.word.Word.{Word}
use Rattle.wrapper_meaning.specs.AsWords.{Says, SaysScalar, passed_word}
use Rattle.wrapper_meaning.specs.InRange.{IsScalar}
use Rattle.wrapper_meaning.specs.Shape.Shape.{scalar, text}
use Rattle.wrapper_meaning.specs.Value.{ScalarValue}
use Rattle.wrapper_meaning.specs.Words.{AreWords, IsWord}
use Rattle.abi_bindgen.specs.Lowering.{said}
use Rattle.abi_bindgen.proofs.ScalarRanges.{stored_ranged}

passed_word_ranged : (w : ℕ) (s : Scalar) (v : ScalarValue s) → IsScalar s v → IsWord w (core_type s) (passed_word s v)
passed_word_ranged w Scalar.f32 v h = h
passed_word_ranged w Scalar.f64 v h = h
passed_word_ranged w Scalar.bool v h = stored_ranged Scalar.bool v h
passed_word_ranged w Scalar.u8 v h = stored_ranged Scalar.u8 v h
passed_word_ranged w Scalar.s8 v h = stored_ranged Scalar.s8 v h
passed_word_ranged w Scalar.u16 v h = stored_ranged Scalar.u16 v h
passed_word_ranged w Scalar.s16 v h = stored_ranged Scalar.s16 v h
passed_word_ranged w Scalar.u32 v h = stored_ranged Scalar.u32 v h
passed_word_ranged w Scalar.s32 v h = stored_ranged Scalar.s32 v h
passed_word_ranged w Scalar.u64 v h = stored_ranged Scalar.u64 v h
passed_word_ranged w Scalar.s64 v h = stored_ranged Scalar.s64 v h
passed_word_ranged w Scalar.char v h = stored_ranged Scalar.char v h
passed_word_ranged w Scalar.handle v h = elim v [ ]

is_passed : (realloc : Bool) (given : List Block) (s : Scalar) (v : ScalarValue s) (x : Word) → SaysScalar (said realloc given) s v x → x ≡ passed_word s v
is_passed true given s v x h = h
is_passed false given s v x h = h

pub scalar_ranged : (w : ℕ) (realloc : Bool) (given : List Block) (s : Scalar) (v : ScalarValue s) (ws : List Word) (blocks : List Block) → IsScalar s v → Says w (said realloc given) (scalar s) v ws blocks → AreWords w (core_type s ∷ []) ws
scalar_ranged w realloc given s v ws blocks listed says =
    subst (AreWords w (core_type s ∷ [])) (sym says.1) (subst (IsWord w (core_type s)) (sym (is_passed realloc given s v says.0 says.2)) (passed_word_ranged w s v listed), refl)

length_ranged : (w n : ℕ) → (w ≡ 2) ⊎ (w ≡ 3) → n < 2 ^ 31 → n < 2 ^ (8 * 2 ^ w)
length_ranged w n (inl e) l = subst (λ k. n < 2 ^ (8 * 2 ^ k)) (sym e) (omega (arith, l))
length_ranged w n (inr e) l = subst (λ k. n < 2 ^ (8 * 2 ^ k)) (sym e) (omega (arith, l))

pub text_ranged : (w : ℕ) → (w ≡ 2) ⊎ (w ≡ 3) → (realloc : Bool) (given : List Block) (v : List ℕ) (ws : List Word) (blocks : List Block) → Says w (said realloc given) text v ws blocks → AreWords w (wasm.Pointer ∷ wasm.Length ∷ []) ws
text_ranged w wide realloc given v ws blocks says =
    subst (AreWords w (wasm.Pointer ∷ wasm.Length ∷ [])) (sym says.pair) (says.range, (length_ranged w (length v) wide (omega (arith, says.buffer.bounded)), refl))

pub words_both : (w : ℕ) (xs ys : List WasmType) (us vs : List Word) → AreWords w xs us → AreWords w ys vs → AreWords w (xs ++ ys) (us ++ vs)
words_both w [] ys us vs g h = subst (λ ws. AreWords w ys (ws ++ vs)) (sym g) h
words_both w (x ∷ xs) ys [] vs g h = absurd g
words_both w (x ∷ xs) ys (u ∷ us) vs g h = (g.0, words_both w xs ys us vs g.1 h)
