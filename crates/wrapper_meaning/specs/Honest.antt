-- When the other side of a call is honest: the peer of an import, the implementation of an export, and the caller of an export.
use Rattle.std.specs.Prelude.{◌≡◌, ◌≤◌, ◌<◌, ℕ, ◌+◌, Bool, true, not, ◌&&◌, MatchBool, List, [], ◌∷◌, ◌++◌, Contains, Option, None, Some, option_to_list}
use Rattle.std.specs.List.{AllByRecursion, list_all}
use Rattle.wrapper_data.specs.declared.answer.Answer.{Answer}
use Rattle.wrapper_data.specs.declared.answer.Answer.TheVariants as answer
use Rattle.wrapper_data.specs.declared.block.Block.{Block}
use Rattle.wrapper_data.specs.declared.heap.Heap.{Heap}
use Rattle.wrapper_data.specs.declared.run.CallPoint.{CallPoint}
use Rattle.wrapper_data.specs.declared.value.RustValue.{RustValue}
use Rattle.wrapper_data.specs.declared.word.Word.{Word}
use Rattle.wrapper_data.specs.Answered.{answered}
use Rattle.wrapper_data.specs.Heap.{are_apart, is_block, is_heap, overlaps_any}
use Rattle.wit_layout.specs.Sizes.{elem_size}
use Rattle.wrapper_meaning.specs.InRange.{AreListed, IsListedResult}
use Rattle.wrapper_meaning.specs.Items.{SameItems}
use Rattle.wrapper_meaning.specs.Layout.{layout}
use Rattle.wrapper_meaning.specs.Represents.{TakesArguments, TakesResult, is_indirect}
use Rattle.wrapper_meaning.specs.Settled.{IsResult}
use Rattle.wrapper_meaning.specs.Shape.{Shape, Shapes}
use Rattle.wrapper_meaning.specs.StandsFor.{ResultStands}
use Rattle.wrapper_meaning.specs.Value.{Parts, Result}

-- bytes are written from an address on, and none behind so many
abbrev pub WritesIn : ℕ → ℕ → List (ℕ × ℕ) → Type 0
WritesIn address size writes = AllByRecursion (λ write. (address ≤ write.0) × (write.0 < address + size)) writes

-- well-formed blocks that overlap neither one another nor a block of the heap
abbrev pub are_new : List Block → Heap → Bool
are_new blocks heap = list_all (λ b. is_block b && not (overlaps_any b heap.blocks)) blocks && are_apart blocks

-- A pointer has 2 ^ w bytes
module _ (w : ℕ) where
  abbrev pub result_size : Option Shape → ℕ
  result_size None = 0
  result_size (Some t) = elem_size w (layout t)

  -- the peer's word is the result's, and it writes nothing
  abbrev pub AnswersInWord : Option Word → List (ℕ × ℕ) → List Word → Type 0
  AnswersInWord result writes words = (words ≡ option_to_list result) × (writes ≡ [])

  -- the call's last word names the result's area, in which alone the peer writes, and it gives no word
  pub record AnswersInArea (r : Option Shape) (result : Option Word) (writes : List (ℕ × ℕ)) (new : List Block) (c : CallPoint) (words : List Word) (area : List Block) : Type 0 where
    pub block : Block
    pub is_area : area ≡ block ∷ []
    pub before : List Word
    pub last : c.words ≡ before ++ words
    pub silent : result ≡ None
    pub live : Contains (answered new writes c.heap).blocks block
    pub inside : WritesIn block.address (result_size r) writes

  -- a word, bytes that are written and new blocks represent a value, and the blocks are all of it
  pub record AnswersValue (r : Option Shape) (u : Result r) (c : CallPoint) (result : Option Word) (writes : List (ℕ × ℕ)) (new : List Block) : Type 0 where
    pub words : List Word
    pub blocks : List Block
    pub area : List Block
    pub takes : TakesResult w r u words blocks area
    pub placed : MatchBool (is_indirect r) (AnswersInArea r result writes new c words area) (AnswersInWord result writes words)
    pub fresh : are_new new c.heap ≡ true
    pub brings : SameItems new blocks

  -- the answer of an import's peer to a call represents a value
  pub record HonestPeer (r : Option Shape) (u : Result r) (a : Answer) (c : CallPoint) : Type 0 where
    pub good : IsListedResult r u
    pub result : Option Word
    pub writes : List (ℕ × ℕ)
    pub new : List Block
    pub answers : a ≡ answer.Words result writes new
    pub represents : AnswersValue r u c result writes new

  -- the answer of an export's implementation stands for a value, whose blocks are live in the heap that it leaves. Otherwise that may be any heap
  pub record HonestImplementation (r : Option Shape) (v : Result r) (a : Answer) : Type 0 where
    pub good : IsResult r v
    pub value : Option RustValue
    pub heap : Heap
    pub answers : a ≡ answer.Value value heap
    pub formed : is_heap heap ≡ true
    pub own : List Block
    pub others : List Block
    pub stands : ResultStands w r v value own
    pub live : SameItems heap.blocks (own ++ others)

  -- the words of an export's caller represent values in a heap, where their blocks are live
  pub record HonestCaller (ts : Shapes) (us : Parts ts) (words : List Word) (heap : Heap) : Type 0 where
    pub good : AreListed ts us
    pub formed : is_heap heap ≡ true
    pub blocks : List Block
    pub others : List Block
    pub takes : TakesArguments w ts us words blocks
    pub live : SameItems heap.blocks (blocks ++ others)
