-- A variant of a float, a number of 64 bits and a text, which share their slots, as an argument of an import.
use Rattle.std.proofs.Common.{◌≡◌, [], ◌∷◌, Some, codes, drop, pos, refl, sym, ap, subst, arith}
use mathlib.Core.Logic.{inl, inr}
use Rattle.wit_model.specs.declared.wasm_type.WasmType.TheVariants as core
use Rattle.wit_layout.specs.Tree.{Scalar}
use Rattle.wrapper_data.specs.declared.block.Block.{Block}
use Rattle.wrapper_data.specs.declared.word.Word.TheVariants as word
use Rattle.wrapper_meaning.specs.AsWords.{Says}
use Rattle.wrapper_meaning.specs.Direction.{lend, take}
use Rattle.wrapper_meaning.specs.Represents.{LendsArguments, param_words}
use Rattle.wrapper_meaning.specs.Shape.{Shape}
use Rattle.wrapper_meaning.specs.Shape.Shape.{scalar, text, cases}
use Rattle.wrapper_meaning.specs.Shape.Shapes.{none, more}
use Rattle.wrapper_meaning.specs.Words.{AreZero}
use Rattle.wrapper_meaning.proofs.Instances.Forms.{block_at, text_lent}
use Rattle.wrapper_meaning.proofs.Lists.{later}

abbrev three_cases : Shape
three_cases = cases (more (scalar Scalar.f32) (more (scalar Scalar.u64) (more text none)))

its_words : param_words (more three_cases none) ≡ core.I32 ∷ core.PointerOrI64 ∷ core.Length ∷ []
its_words = refl

-- the float of the bits 1069547520, and of bits whose highest of 32 is set

float_case : LendsArguments 2 [] [] (more three_cases none) (inl 1069547520, tt) (word.I32 (pos 0) ∷ word.Slot (Some 1069547520) ∷ word.Length 0 ∷ [])
float_case = (
  word.I32 (pos 0) ∷ word.Slot (Some 1069547520) ∷ word.Length 0 ∷ [],
  [],
  [],
  [],
  (word.Slot (Some 1069547520) ∷ word.Length 0 ∷ [], refl, (omega (arith), (omega (arith), refl)), ((word.F32 1069547520, refl, refl, refl), (refl, tt))),
  (refl, refl),
  refl,
  refl,
)

high_float_case : LendsArguments 2 [] [] (more three_cases none) (inl 2147483648, tt) (word.I32 (pos 0) ∷ word.Slot (Some 2147483648) ∷ word.Length 0 ∷ [])
high_float_case = (
  word.I32 (pos 0) ∷ word.Slot (Some 2147483648) ∷ word.Length 0 ∷ [],
  [],
  [],
  [],
  (word.Slot (Some 2147483648) ∷ word.Length 0 ∷ [], refl, (omega (arith), (omega (arith), refl)), ((word.F32 2147483648, refl, refl, refl), (refl, tt))),
  (refl, refl),
  refl,
  refl,
)

-- the case of the text: its address in the slot of 64 bits

abbrev hi : Block
hi = block_at 4096 (codes "hi")

text_case : LendsArguments 2 (hi ∷ []) [] (more three_cases none) (inr (inr (inl (codes "hi"))), tt) (word.I32 (pos 2) ∷ word.Slot (Some 4096) ∷ word.Length 2 ∷ [])
text_case = (
  word.I32 (pos 2) ∷ word.Slot (Some 4096) ∷ word.Length 2 ∷ [],
  [],
  [],
  [],
  (
    word.Slot (Some 4096) ∷ word.Length 2 ∷ [],
    refl,
    (omega (arith), (omega (arith), refl)),
    (record { address = 4096; pair = refl; range = omega (arith); buffer = text_lent (hi ∷ []) 0 hi 0 104 (105 ∷ []) (omega (arith)) refl (omega (arith)) (omega (arith)) refl }, tt),
  ),
  (refl, refl),
  refl,
  refl,
)

-- what is taken may have any word in a slot that is left over, and anything above a word in its slot
taken_case : Says 2 take three_cases (inl 5) (word.I32 (pos 0) ∷ word.Slot (Some 4294967301) ∷ word.Length 7 ∷ []) []
taken_case = (word.Slot (Some 4294967301) ∷ word.Length 7 ∷ [], refl, (omega (arith), (omega (arith), refl)), ((word.F32 5, refl, refl, refl), tt))

-- a slot that is left over and not zero, where words are lent
not_zero : Says 2 (lend []) three_cases (inl 1069547520) (word.I32 (pos 0) ∷ word.Slot (Some 1069547520) ∷ word.Length 1 ∷ []) [] → ⊥
not_zero (shared, e, kinds, says) =
    let zero_left : AreZero (word.Length 1 ∷ []) = subst (λ s. AreZero (drop 1 s)) (sym (ap later e)) says.1 in
    omega (zero_left.0, arith)
