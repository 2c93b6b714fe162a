-- What the one call of a wrapper carries, whatever is then answered. Its heap is well formed, so that its blocks are distinct.
use Rattle.std.specs.Prelude.{true, ◌≡◌, ◌⊎◌, ℕ, MatchBool, List, [], ◌∷◌, ◌++◌, map, Option, slice_get}
use Rattle.wrapper_data.specs.declared.block.Block.{Block}
use Rattle.wrapper_data.specs.declared.choice.Choice.{Choice}
use Rattle.wrapper_data.specs.declared.heap.Heap.{Heap}
use Rattle.wrapper_data.specs.declared.run.CallPoint.{CallPoint}
use Rattle.wrapper_data.specs.declared.run.Target.{Target}
use Rattle.wrapper_data.specs.declared.word.Word.{Word}
use Rattle.wrapper_data.specs.declared.word.Word.TheVariants as word
use Rattle.wrapper_data.specs.Heap.{is_heap}
use Rattle.wrapper_meaning.specs.Areas.{IsArea, import_area}
use Rattle.wrapper_meaning.specs.Direction.{take}
use Rattle.wrapper_meaning.specs.Items.{SameItems}
use Rattle.wrapper_meaning.specs.Represents.{LendsArguments, is_indirect}
use Rattle.wrapper_meaning.specs.Settled.{all_settled}
use Rattle.wrapper_meaning.specs.Shape.{Shape, Shapes}
use Rattle.wrapper_meaning.specs.StandsFor.{PartsStand}
use Rattle.wrapper_meaning.specs.Value.{Parts}

-- at most one call, which carries what it owes
abbrev pub CallsOnce : (CallPoint → Type 0) → List CallPoint → Type 0
CallsOnce Carries calls = (calls ≡ []) ⊎ ((c : CallPoint) × (calls ≡ c ∷ []) × Carries c)

-- the words that name areas
abbrev pub pointers : List Block → List Word
pointers blocks = map (λ b. word.Pointer b.address) blocks

-- the area is named for the result where the result passes by it
abbrev pub NamesArea : Option Shape → (area : List Block) → List Word → Type 0
NamesArea r area words = MatchBool (is_indirect r) (words ≡ pointers area) (words ≡ [])

-- A pointer has 2 ^ w bytes
module _ (w : ℕ) where
  -- The call of an import's wrapper, which was given a heap and choices

  -- words that represent the values, and behind them one that names the area where the result passes by it
  pub record PassesWords (ts : Shapes) (vs : Parts ts) (r : Option Shape) (heap area : List Block) (words : List Word) : Type 0 where
    pub arguments : List Word
    pub pointer : List Word
    pub all : words ≡ arguments ++ pointer
    pub represents : LendsArguments w heap area ts vs arguments
    pub named : NamesArea r area pointer

  -- it goes to the target, with words for the values. The blocks that were given are as they were; the area and others were made
  pub record CallsImport (target : Target) (ts : Shapes) (vs : Parts ts) (r : Option Shape) (heap : Heap) (choices : List Choice) (c : CallPoint) : Type 0 where
    pub aimed : c.target ≡ target
    pub area : List Block
    pub stands : IsArea (import_area w ts r) (slice_get choices 0) area
    pub words : PassesWords ts vs r c.heap.blocks area c.words
    pub values : c.values ≡ []
    pub formed : is_heap c.heap ≡ true
    pub made : List Block
    pub kept : SameItems c.heap.blocks (heap.blocks ++ area ++ made)

  -- The call of an export's wrapper, which was given words in a heap, with these blocks

  -- it goes to the target, with values that stand for those of the words. Where the words had blocks, the values have theirs
  pub record CallsExport (target : Target) (ts : Shapes) (us : Parts ts) (heap : Heap) (blocks : List Block) (c : CallPoint) : Type 0 where
    pub aimed : c.target ≡ target
    pub words : c.words ≡ []
    pub own : List Block
    pub stands : PartsStand w take ts (all_settled ts us) c.values own
    pub formed : is_heap c.heap ≡ true
    pub account : SameItems (c.heap.blocks ++ blocks) (heap.blocks ++ own)
