-- Two texts as the arguments of an import, `hi` and an empty one; and what is no lent text.
use Rattle.std.proofs.Common.{◌≡◌, true, false, [], ◌∷◌, None, codes, refl, arith, ◌∙◌}
use Rattle.std.proofs.lemmas.Bool.{true≢false}
use Rattle.wrapper_data.specs.declared.block.Block.{Block}
use Rattle.wrapper_data.specs.declared.value.RustValue.TheVariants as value
use Rattle.wrapper_data.specs.declared.word.Word.TheVariants as word
use Rattle.wrapper_meaning.specs.AsWords.{Says}
use Rattle.wrapper_meaning.specs.Direction.{lend}
use Rattle.wrapper_meaning.specs.Due.{due, import_bill}
use Rattle.wrapper_meaning.specs.Represents.{LendsArguments}
use Rattle.wrapper_meaning.specs.Shape.{Shapes}
use Rattle.wrapper_meaning.specs.Shape.Shape.{text}
use Rattle.wrapper_meaning.specs.Shape.Shapes.{none, more}
use Rattle.wrapper_meaning.specs.StandsFor.{ArgumentsStand, Stands}
use Rattle.wrapper_meaning.specs.Value.{Parts}
use Rattle.wrapper_meaning.proofs.Instances.Forms.{block_at, pair_words, text_lent}
use Rattle.wrapper_meaning.proofs.RustValues.{owned_same}

abbrev two : Shapes
two = more text (more text none)

abbrev texts : Parts two
texts = (codes "hi", ([], tt))

-- `hi` is lent at 4096, and the empty text at 1, where no block is

abbrev hi : Block
hi = block_at 4096 (codes "hi")

as_words : LendsArguments 2 (hi ∷ []) [] two texts (word.Pointer 4096 ∷ word.Length 2 ∷ word.Pointer 1 ∷ word.Length 0 ∷ [])
as_words = (
  pair_words 4096 2,
  pair_words 1 0,
  [],
  [],
  record { address = 4096; pair = refl; range = omega (arith); buffer = text_lent (hi ∷ []) 0 hi 0 104 (105 ∷ []) (omega (arith)) refl (omega (arith)) (omega (arith)) refl },
  (pair_words 1 0, [], [], [], record { address = 1; pair = refl; range = omega (arith); buffer = record { aligned = refl; bounded = omega (arith); placed = (tt, refl) } }, (refl, refl), refl, refl),
  refl,
  refl,
)

as_values : ArgumentsStand 2 (hi ∷ []) two texts (value.Buffer 4096 2 false ∷ value.Buffer 1 0 false ∷ []) []
as_values = (
  value.Buffer 4096 2 false,
  value.Buffer 1 0 false ∷ [],
  [],
  [],
  refl,
  record { address = 4096; nonzero = omega (arith); range = omega (arith); owned = false; flag = refl; is = refl; buffer = text_lent (hi ∷ []) 0 hi 0 104 (105 ∷ []) (omega (arith)) refl (omega (arith)) (omega (arith)) refl },
  (
    value.Buffer 1 0 false,
    [],
    [],
    [],
    refl,
    record { address = 1; nonzero = omega (arith); range = omega (arith); owned = false; flag = refl; is = refl; buffer = record { aligned = refl; bounded = omega (arith); placed = (tt, refl) } },
    (refl, refl),
    refl,
  ),
  refl,
)

-- nothing is asked for
nothing_due : due (import_bill 2 two texts None tt) ≡ []
nothing_due = refl

-- a text that is lent where no block is
in_no_block : Says 2 (lend []) text (codes "h") (word.Pointer 4096 ∷ word.Length 1 ∷ []) [] → ⊥
in_no_block says = let (at, inside, is) = says.buffer.placed.held.there in omega (inside, arith)

-- a text that is lent, and yet is owned
owned : Stands 2 (lend (hi ∷ [])) text (codes "hi") (value.Buffer 4096 2 true) [] → ⊥
owned stands = true≢false (owned_same _ _ _ _ true stands.owned stands.is ∙ stands.flag)
