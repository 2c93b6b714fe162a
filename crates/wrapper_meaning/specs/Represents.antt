-- Which core words are the arguments and the result of a call, and which blocks are then theirs. More than sixteen words of
-- parameters go as the address of their record, and more than one word of a result comes back as the address of its record.
use Rattle.std.specs.Prelude.{◌≡◌, ℕ, ◌%◌, ◌≤◌, Bool, MatchBool, List, [], ◌∷◌, Option, None, Some}
use Rattle.wit_model.specs.declared.wasm_type.WasmType.{WasmType}
use Rattle.wrapper_data.specs.declared.block.Block.{Block}
use Rattle.wrapper_data.specs.declared.word.Word.{Word}
use Rattle.wrapper_data.specs.declared.word.Word.TheVariants as word
use Rattle.wit_layout.specs.Flat.{flatten_record, flatten_type}
use Rattle.wit_layout.specs.Signature.{are_many, needs_pointer}
use Rattle.wit_layout.specs.Sizes.{alignment, elem_size}
use Rattle.wrapper_meaning.specs.AsWords.{PartsSay, Says}
use Rattle.wrapper_meaning.specs.Direction.{Direction, give, lend, take}
use Rattle.wrapper_meaning.specs.InMemory.{Holds}
use Rattle.wrapper_meaning.specs.Layout.{layout, layouts}
use Rattle.wrapper_meaning.specs.Shape.{Shape, Shapes}
use Rattle.wrapper_meaning.specs.Shape.Shape.{fields}
use Rattle.wrapper_meaning.specs.Value.{Parts, Result, Value}

-- the core words of the parameters and of the result

abbrev pub param_words : Shapes → List WasmType
param_words ts = flatten_record (layouts ts)

abbrev pub result_words : Option Shape → List WasmType
result_words None = []
result_words (Some t) = flatten_type (layout t)

abbrev pub are_indirect : Shapes → Bool
are_indirect ts = are_many (param_words ts)

abbrev pub is_indirect : Option Shape → Bool
is_indirect r = needs_pointer (result_words r)

-- A pointer has 2 ^ w bytes
module _ (w : ℕ) where
  -- the value stands at the beginning of the block, which is aligned and has room for it
  pub record Begins (dir : Direction) (t : Shape) (v : Value t) (b : Block) (blocks : List Block) : Type 0 where
    pub aligned : b.address % alignment w (layout t) ≡ 0
    pub room : elem_size w (layout t) ≤ b.size
    pub holds : Holds w dir t v b 0 blocks

  -- The arguments of an import, in a heap and with an area, which is none or one block

  -- the record of the parameters stands in the area
  pub record LendsRecord (heap area : List Block) (ts : Shapes) (vs : Parts ts) (words : List Word) : Type 0 where
    pub block : Block
    pub is_area : area ≡ block ∷ []
    pub named : words ≡ word.Pointer block.address ∷ []
    pub stands : Begins (lend heap) (fields ts) vs block []

  -- the words of the parameters, or the address of their record
  abbrev pub LendsArguments : (heap area : List Block) → (ts : Shapes) → Parts ts → List Word → Type 0
  LendsArguments heap area ts vs words = MatchBool (are_indirect ts) (LendsRecord heap area ts vs words) (PartsSay w (lend heap) ts vs words [])

  -- The arguments of an export

  -- the record of the parameters is a block of exactly its size, which is one of their blocks
  pub record TakesRecord (ts : Shapes) (vs : Parts ts) (words : List Word) (blocks : List Block) : Type 0 where
    pub block : Block
    pub inner : List Block
    pub named : words ≡ word.Pointer block.address ∷ []
    pub exact : block.size ≡ elem_size w (layout (fields ts))
    pub stands : Begins take (fields ts) vs block inner
    pub all : blocks ≡ block ∷ inner

  -- the words of the parameters, or the address of their record
  abbrev pub TakesArguments : (ts : Shapes) → Parts ts → List Word → List Block → Type 0
  TakesArguments ts vs words blocks = MatchBool (are_indirect ts) (TakesRecord ts vs words blocks) (PartsSay w take ts vs words blocks)

  -- A result, with its blocks, and with the area in which its record stands. The area is none or one block, and none of the result's

  abbrev pub ResultInWord : Direction → (t : Shape) → Value t → List Word → (blocks area : List Block) → Type 0
  ResultInWord dir t v words blocks area = Says w dir t v words blocks × (area ≡ [])

  pub record ResultInArea (dir : Direction) (t : Shape) (v : Value t) (words : List Word) (blocks area : List Block) : Type 0 where
    pub block : Block
    pub is_area : area ≡ block ∷ []
    pub named : words ≡ word.Pointer block.address ∷ []
    pub stands : Begins dir t v block blocks

  -- its word, or the address of its record
  abbrev pub ResultSays : Direction → (r : Option Shape) → Result r → List Word → (blocks area : List Block) → Type 0
  ResultSays dir None v words blocks area = (words ≡ []) × (blocks ≡ []) × (area ≡ [])
  ResultSays dir (Some t) v words blocks area = MatchBool (is_indirect (Some t)) (ResultInArea dir t v words blocks area) (ResultInWord dir t v words blocks area)

  -- the result of an export, and that of an import, with the word or the area that its peer wrote
  abbrev pub GivesResult : (r : Option Shape) → Result r → List Word → (blocks area : List Block) → Type 0
  GivesResult = ResultSays give

  abbrev pub TakesResult : (r : Option Shape) → Result r → List Word → (blocks area : List Block) → Type 0
  TakesResult = ResultSays take
