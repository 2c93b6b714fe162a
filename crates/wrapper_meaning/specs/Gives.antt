-- What a run that is done gives, and which blocks are then left. Each heap is well formed, so that its blocks are distinct.
use Rattle.std.specs.Prelude.{true, false, ◌≡◌, ℕ, Bool, List, [], ◌++◌, Option, None, slice_get}
use Rattle.wrapper_data.specs.declared.block.Block.{Block}
use Rattle.wrapper_data.specs.declared.choice.Choice.{Choice}
use Rattle.wrapper_data.specs.declared.heap.Heap.{Heap}
use Rattle.wrapper_data.specs.declared.run.Run.{Run}
use Rattle.wrapper_data.specs.declared.run.Stop.TheVariants as stop
use Rattle.wrapper_data.specs.declared.value.RustValue.{RustValue}
use Rattle.wrapper_data.specs.Heap.{is_heap}
use Rattle.wrapper_meaning.specs.Areas.{IsArea}
use Rattle.wrapper_meaning.specs.Due.{Bill}
use Rattle.wrapper_meaning.specs.Items.{SameItems}
use Rattle.wrapper_meaning.specs.Represents.{GivesResult}
use Rattle.wrapper_meaning.specs.Settled.{settled_result}
use Rattle.wrapper_meaning.specs.Shape.{Shape}
use Rattle.wrapper_meaning.specs.StandsFor.{ResultStands}
use Rattle.wrapper_meaning.specs.Value.{Result}

-- A pointer has 2 ^ w bytes
module _ (w : ℕ) where
  -- The wrapper of an import, whose peer answered `u`

  -- a value that stands for the peer's; or, of a chained method, its own `self`, the first of its arguments
  abbrev pub ImportAnswers : (chained : Bool) → (r : Option Shape) → Result r → (args : List RustValue) → Option RustValue → List Block → Type 0
  ImportAnswers false r u args answer blocks = ResultStands w r (settled_result r u) answer blocks
  ImportAnswers true r u args answer blocks = (answer ≡ slice_get args 0) × (blocks ≡ [])

  -- what is left is the heap that was given, without what the arguments owned, and what the value owns
  pub record GivesImport (chained : Bool) (r : Option Shape) (u : Result r) (args : List RustValue) (heap : Heap) (own : List Block) (run : Run) : Type 0 where
    pub blocks : List Block
    pub answers : ImportAnswers chained r u args run.value blocks
    pub words : run.words ≡ []
    pub formed : is_heap run.heap ≡ true
    pub account : SameItems (run.heap.blocks ++ own) (heap.blocks ++ blocks)

  -- The wrapper of an export, whose implementation answered `v`

  -- words that represent it, in the static area where it passes by that. What is left is the heap that the implementation left, without
  -- what its value owned, and the blocks of the words and the area
  pub record GivesExport (b : Bill) (choices : List Choice) (r : Option Shape) (v : Result r) (left : Heap) (own : List Block) (run : Run) : Type 0 where
    pub blocks : List Block
    pub area : List Block
    pub represents : GivesResult w r v run.words blocks area
    pub stands : IsArea b.area (slice_get choices b.before) area
    pub value : run.value ≡ None
    pub formed : is_heap run.heap ≡ true
    pub account : SameItems (run.heap.blocks ++ own) (left.blocks ++ blocks ++ area)

-- The post-return function of an export: the words' blocks are freed, and nothing else is done
pub record FreesWords (blocks : List Block) (heap : Heap) (run : Run) : Type 0 where
  pub done : run.stop ≡ stop.Done
  pub formed : is_heap run.heap ≡ true
  pub account : SameItems (run.heap.blocks ++ blocks) heap.blocks
  pub words : run.words ≡ []
  pub value : run.value ≡ None
  pub calls : run.calls ≡ []
  pub requests : run.requests ≡ []
