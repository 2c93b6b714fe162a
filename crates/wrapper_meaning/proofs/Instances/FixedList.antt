-- A fixed-length list of two texts, `hi` and an empty one, as an argument of an import.
use Rattle.std.proofs.Common.{◌++◌, [], ◌∷◌, codes, refl, arith}
use Rattle.std.specs.Prelude.{false}
use Rattle.wrapper_data.specs.declared.block.Block.{Block}
use Rattle.wrapper_data.specs.declared.value.RustValue.TheVariants as value
use Rattle.wrapper_data.specs.declared.word.Word.TheVariants as word
use Rattle.wrapper_meaning.specs.AsWords.{Says}
use Rattle.wrapper_meaning.specs.Direction.{lend}
use Rattle.wrapper_meaning.specs.InMemory.{Holds}
use Rattle.wrapper_meaning.specs.InRange.{IsListed}
use Rattle.wrapper_meaning.specs.Shape.Shape.{text, fixed}
use Rattle.wrapper_meaning.specs.StandsFor.{Stands}
use Rattle.wrapper_meaning.proofs.Instances.Forms.{block_at, pair, pair_words, text_lent}

abbrev hi : Block
hi = block_at 4096 (codes "hi")

as_words : Says 2 (lend (hi ∷ [])) (fixed text 2) (codes "hi" ∷ [] ∷ []) (word.Pointer 4096 ∷ word.Length 2 ∷ word.Pointer 1 ∷ word.Length 0 ∷ []) []
as_words = (
  pair_words 4096 2,
  pair_words 1 0,
  [],
  [],
  record { address = 4096; pair = refl; range = omega (arith); buffer = text_lent (hi ∷ []) 0 hi 0 104 (105 ∷ []) (omega (arith)) refl (omega (arith)) (omega (arith)) refl },
  (pair_words 1 0, [], [], [], record { address = 1; pair = refl; range = omega (arith); buffer = record { aligned = refl; bounded = omega (arith); placed = (tt, refl) } }, (refl, refl), refl, refl),
  refl,
  refl,
)

as_value : Stands 2 (lend (hi ∷ [])) (fixed text 2) (codes "hi" ∷ [] ∷ []) (value.Struct (value.Buffer 4096 2 false ∷ value.Buffer 1 0 false ∷ [])) []
as_value = (
  value.Buffer 4096 2 false ∷ value.Buffer 1 0 false ∷ [],
  refl,
  (
    value.Buffer 4096 2 false,
    value.Buffer 1 0 false ∷ [],
    [],
    [],
    refl,
    record { address = 4096; nonzero = omega (arith); range = omega (arith); owned = false; flag = refl; is = refl; buffer = text_lent (hi ∷ []) 0 hi 0 104 (105 ∷ []) (omega (arith)) refl (omega (arith)) (omega (arith)) refl },
    (
      value.Buffer 1 0 false,
      [],
      [],
      [],
      refl,
      record { address = 1; nonzero = omega (arith); range = omega (arith); owned = false; flag = refl; is = refl; buffer = record { aligned = refl; bounded = omega (arith); placed = (tt, refl) } },
      (refl, refl),
      refl,
    ),
    refl,
  ),
)

-- in memory it is its elements, one after another
abbrev both : Block
both = block_at 64 (pair 4096 2 ++ pair 1 0)

in_memory : Holds 2 (lend (hi ∷ [])) (fixed text 2) (codes "hi" ∷ [] ∷ []) both 0 []
in_memory = (
  [],
  [],
  record { address = 4096; pointer = (omega (arith), refl); counted = (omega (arith), refl); buffer = text_lent (hi ∷ []) 0 hi 0 104 (105 ∷ []) (omega (arith)) refl (omega (arith)) (omega (arith)) refl },
  ([], [], record { address = 1; pointer = (omega (arith), refl); counted = (omega (arith), refl); buffer = record { aligned = refl; bounded = omega (arith); placed = (tt, refl) } }, refl, refl),
  refl,
)

-- a list of one text is no value of it
of_one : IsListed (fixed text 2) (codes "hi" ∷ []) → ⊥
of_one good = omega (good.0, arith)
