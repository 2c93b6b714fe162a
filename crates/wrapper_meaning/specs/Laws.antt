-- Laws of these definitions: what they have to do with the table and its layouts, and that no two values are represented alike.
use Rattle.std.specs.Prelude.{◌≡◌, ◌↔◌, ℕ, ◌+◌, ◌*◌, Bool, true, false, List, [], ◌∷◌, ◌++◌, Contains, length, Option, Some, slice_get}
use Rattle.std.specs.List.{list_any}
use Rattle.std.specs.List.Sorted.{IsPermutation}
use Rattle.wit_model.specs.declared.function.Function.{Function}
use Rattle.wit_model.specs.declared.types.TypeDef.{TypeDef}
use Rattle.wit_model.specs.declared.types.WitType.{WitType}
use Rattle.wit_model.specs.TypeOrder.{GoesDown, type_below}
use Rattle.type_facts.specs.Facts.{IsCanonical}
use Rattle.wit_layout.specs.Signature as signature
use Rattle.wit_layout.specs.Sizes.{elem_size}
use Rattle.wit_layout.specs.Tree.{tree_of}
use Rattle.wrapper_data.specs.declared.block.Block.{Block}
use Rattle.wrapper_data.specs.declared.choice.Choice.{Choice}
use Rattle.wrapper_data.specs.declared.choice.Request.{Request}
use Rattle.wrapper_data.specs.declared.heap.Heap.{Heap}
use Rattle.wrapper_data.specs.declared.run.Run.{Run}
use Rattle.wrapper_data.specs.declared.value.RustValue.{RustValue}
use Rattle.wrapper_data.specs.declared.value.RustValue.TheVariants as value
use Rattle.wrapper_data.specs.declared.word.Word.{Word}
use Rattle.wrapper_data.specs.declared.word.Word.TheVariants as word
use Rattle.wrapper_data.specs.Heap.{is_heap}
use Rattle.wrapper_meaning.specs.AsWords.{PartsSay, Says}
use Rattle.wrapper_meaning.specs.Calls.{pointers}
use Rattle.wrapper_meaning.specs.Direction.{Direction, give, lend, make, take}
use Rattle.wrapper_meaning.specs.Due.{Bill}
use Rattle.wrapper_meaning.specs.Gives.{FreesWords, GivesExport}
use Rattle.wrapper_meaning.specs.InMemory.{EachHolds, Holds}
use Rattle.wrapper_meaning.specs.InRange.{IsListed}
use Rattle.wrapper_meaning.specs.Items.{AllIn, AtMost, SameItems}
use Rattle.wrapper_meaning.specs.Kinds.{has_list, is_plain, result_has_list}
use Rattle.wrapper_meaning.specs.Layout.{layout}
use Rattle.wrapper_meaning.specs.Represents.{ResultSays, is_indirect, param_words, result_words}
use Rattle.wrapper_meaning.specs.Settled.{last_of_each, same_key}
use Rattle.wrapper_meaning.specs.Shape.{Shape, Shapes, param_shapes, result_shape, shape_at, shape_by, shape_of, shapes}
use Rattle.wrapper_meaning.specs.StandsFor.{Stands}
use Rattle.wrapper_meaning.specs.Value.{Parts, Result, Value}

-- 1. Shapes

-- the layout of a type's shape is the type's tree
abbrev pub LayoutIsTree : Type 0
LayoutIsTree = (types : List TypeDef) (ty : WitType) → layout (shape_of types ty) ≡ tree_of types ty

-- where each type of a table names only types before it, the shape of each entry is that of its kind, over the shapes of the table
abbrev pub ShapeIsByKind : Type 0
ShapeIsByKind = (types : List TypeDef) (i : ℕ) (t : TypeDef) → GoesDown types → slice_get types i ≡ Some t → shape_at types i ≡ shape_by i (shapes types) t.kind

-- and a list of a type lies in memory as it is exactly where the facts of types call it canonical
abbrev pub PlainIsCanonical : Type 0
PlainIsCanonical = (types : List TypeDef) (ty : WitType) → GoesDown types → type_below (length types) ty ≡ true → (is_plain (shape_of types ty) ≡ true) ↔ IsCanonical types ty

-- the core words of a function's shapes are those of its core signature
abbrev pub SignatureIsByShapes : Type 0
SignatureIsByShapes = (types : List TypeDef) (f : Function)
    → (param_words (param_shapes types f) ≡ signature.param_words types f.params) × (result_words (result_shape types f) ≡ signature.result_words types f.result)

-- 2. A representation determines its value

-- what is lent, is lent in a well-formed heap
abbrev pub IsWellPlaced : Direction → Type 0
IsWellPlaced (lend blocks) = is_heap (record { blocks = blocks }) ≡ true
IsWellPlaced give = Unit {0}
IsWellPlaced take = Unit {0}
IsWellPlaced (make blocks) = is_heap (record { blocks = blocks }) ≡ true

-- bytes that hold a value, with its blocks, hold no other
abbrev pub MemoryDetermines : Type 0
MemoryDetermines = (w : ℕ) (dir : Direction) (t : Shape) (u v : Value t) (b : Block) (offset : ℕ) (blocks : List Block)
    → IsWellPlaced dir → IsListed t u → IsListed t v → Holds w dir t u b offset blocks → Holds w dir t v b offset blocks → u ≡ v

-- words that say a value, with its blocks, say no other
abbrev pub WordsDetermine : Type 0
WordsDetermine = (w : ℕ) (dir : Direction) (t : Shape) (u v : Value t) (words : List Word) (blocks : List Block)
    → IsWellPlaced dir → IsListed t u → IsListed t v → Says w dir t u words blocks → Says w dir t v words blocks → u ≡ v

-- a value of the Rust side that stands for a value, with its blocks, stands for no other
abbrev pub RustValueDetermines : Type 0
RustValueDetermines = (w : ℕ) (dir : Direction) (t : Shape) (u v : Value t) (r : RustValue) (blocks : List Block)
    → IsWellPlaced dir → IsListed t u → IsListed t v → Stands w dir t u r blocks → Stands w dir t v r blocks → u ≡ v

-- 3. Lists that lie in memory as they are

-- what is plain is held alike in each direction, and has no blocks
abbrev pub PlainIsAlike : Type 0
PlainIsAlike = (w : ℕ) (dir other : Direction) (t : Shape) (v : Value t) (b : Block) (offset : ℕ) (blocks : List Block)
    → is_plain t ≡ true → Holds w dir t v b offset blocks → (blocks ≡ []) × Holds w other t v b offset []

-- so the bytes of a list of such are those of its elements, each at its place
abbrev pub ListIsItsElements : Type 0
ListIsItsElements = (w : ℕ) (dir : Direction) (t : Shape) (vs : List (Value t)) (b : Block) (offset : ℕ) → is_plain t ≡ true
    → EachHolds (Holds w dir t) (elem_size w (layout t)) vs b offset [] ↔ ((i : ℕ) (v : Value t) → slice_get vs i ≡ Some v → Holds w dir t v b (offset + i * elem_size w (layout t)) [])

-- and a buffer that stands for it is passed as its address and its length
abbrev pub BufferIsItsWords : Type 0
BufferIsItsWords = (w : ℕ) (dir : Direction) (t : Shape) (vs : List (Value t)) (address entries : ℕ) (owned : Bool) (blocks : List Block) → is_plain t ≡ true
    → Stands w dir (Shape.list t) vs (value.Buffer address entries owned) blocks → Says w dir (Shape.list t) vs (word.Pointer address ∷ word.Length entries ∷ []) blocks

-- 4. Maps

-- no key is the same as an earlier one
abbrev pub AreNewKeys : {A B : Type 0} → (A → A → Bool) → (earlier : List (A × B)) → List (A × B) → Type 0
AreNewKeys same earlier [] = Unit {0}
AreNewKeys same earlier (e ∷ entries) = (list_any (λ d. same d.0 e.0) earlier ≡ false) × AreNewKeys same (earlier ++ e ∷ []) entries

-- the entries of a map are left as they are exactly where their keys are distinct
abbrev pub SettledIsDistinct : Type 0
SettledIsDistinct = (k x : Shape) (entries : List (Value k × Value x)) → (last_of_each (same_key k) entries ≡ entries) ↔ AreNewKeys (same_key k) [] entries

-- 5. Blocks

-- what has no text, no list and no map has no blocks: in memory, as the words of a result, and as a value of the Rust side

abbrev pub MemoryHasNoBlocks : Type 0
MemoryHasNoBlocks = (w : ℕ) (dir : Direction) (t : Shape) (v : Value t) (b : Block) (offset : ℕ) (blocks : List Block) → has_list t ≡ false → Holds w dir t v b offset blocks → blocks ≡ []

abbrev pub ResultHasNoBlocks : Type 0
ResultHasNoBlocks = (w : ℕ) (dir : Direction) (r : Option Shape) (v : Result r) (words : List Word) (blocks area : List Block)
    → result_has_list r ≡ false → ResultSays w dir r v words blocks area → blocks ≡ []

abbrev pub RustValueHasNoBlocks : Type 0
RustValueHasNoBlocks = (w : ℕ) (dir : Direction) (t : Shape) (v : Value t) (r : RustValue) (blocks : List Block) → has_list t ≡ false → Stands w dir t v r blocks → blocks ≡ []

-- the words that a wrapper makes of arguments lend them, in each heap that has what was given and what it made
abbrev pub MadeIsLent : Type 0
MadeIsLent = (w : ℕ) (given heap : List Block) (ts : Shapes) (vs : Parts ts) (words : List Word) (blocks : List Block)
    → ((b : Block) → Contains given b → Contains heap b) → AllIn heap blocks → PartsSay w (make given) ts vs words blocks → PartsSay w (lend heap) ts vs words []

-- of an export whose result passes by an area, and then its post-return function, nothing is left but what the implementation kept and
-- the area, which the returned word names
abbrev pub PostReturnLeaves : Type 0
PostReturnLeaves = (w : ℕ) (b : Bill) (choices : List Choice) (r : Option Shape) (v : Result r) (left : Heap) (own others : List Block) (run after : Run)
    → is_indirect r ≡ true → SameItems left.blocks (own ++ others) → (gives : GivesExport w b choices r v left own run) → FreesWords gives.blocks run.heap after
    → SameItems after.heap.blocks (others ++ gives.area) × (run.words ≡ pointers gives.area)

-- two lists of blocks, or of requests, have the same items exactly where one is a permutation of the other
abbrev pub SameBlocksArePermuted : Type 0
SameBlocksArePermuted = (xs ys : List Block) → SameItems xs ys ↔ IsPermutation xs ys

abbrev pub SameRequestsArePermuted : Type 0
SameRequestsArePermuted = (xs ys : List Request) → SameItems xs ys ↔ IsPermutation xs ys

-- and requests are no more than others exactly where some are left over
abbrev pub FewerAreAPart : Type 0
FewerAreAPart = (xs ys : List Request) → AtMost xs ys ↔ ((rest : List Request) × SameItems (xs ++ rest) ys)
