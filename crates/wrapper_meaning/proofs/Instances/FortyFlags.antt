-- Forty flags, of which flag 31 alone is set, as an argument of an export.
use Rattle.std.proofs.Common.{◌-◌, ◌^◌, [], ◌∷◌, negsuc, pos, refl, arith}
use Rattle.wrapper_data.specs.declared.block.Block.{Block}
use Rattle.wrapper_data.specs.declared.value.RustValue.TheVariants as value
use Rattle.wrapper_data.specs.declared.word.Word.TheVariants as word
use Rattle.wrapper_meaning.specs.AsWords.{Says}
use Rattle.wrapper_meaning.specs.Direction.{take}
use Rattle.wrapper_meaning.specs.InMemory.{Holds}
use Rattle.wrapper_meaning.specs.Represents.{TakesArguments}
use Rattle.wrapper_meaning.specs.Shape.Shape.{flags}
use Rattle.wrapper_meaning.specs.Shape.Shapes.{none, more}
use Rattle.wrapper_meaning.specs.StandsFor.{PartsStand}
use Rattle.wrapper_meaning.proofs.Instances.Forms.{block_at}
use Rattle.wrapper_meaning.proofs.Lists.{some_same}

as_words : TakesArguments 2 (more (flags 40) none) (2147483648, tt) (word.I32 (negsuc 2147483647) ∷ word.I32 (pos 0) ∷ []) []
as_words = (word.I32 (negsuc 2147483647) ∷ word.I32 (pos 0) ∷ [], [], [], [], ((refl, (refl, refl)), refl, refl), (refl, refl), refl, refl)

as_value : PartsStand 2 take (more (flags 40) none) (2147483648, tt) (value.Bits 2147483648 ∷ []) []
as_value = (value.Bits 2147483648, [], [], [], refl, (2147483648, omega (arith), refl, refl, refl), (refl, refl), refl)

-- as if the word of the first 32 flags were extended by its sign
by_sign : Says 2 take (flags 40) (2 ^ 40 - 2 ^ 31) (word.I32 (negsuc 2147483647) ∷ word.I32 (pos 0) ∷ []) [] → ⊥
by_sign (words, bits, blocks) = omega (bits, arith)

-- in memory it is its two words
abbrev stored : Block
stored = block_at 64 (0 ∷ 0 ∷ 0 ∷ 128 ∷ 0 ∷ 0 ∷ 0 ∷ 0 ∷ [])

in_memory : Holds 2 take (flags 40) 2147483648 stored 0 []
in_memory = (2147483648, (2147483648, 0, (omega (arith), refl), (0, 0, (omega (arith), refl), refl, refl), refl), refl, refl)

-- as if the word of the first 32 flags came last
by_last : Holds 2 take (flags 40) 0 stored 0 [] → ⊥
by_last (bits, (low, high, has, (low', high', has', ended, e'), e), is, blocks) = omega (some_same _ _ has.1, some_same _ _ has'.1, ended, e', e, is, arith)
