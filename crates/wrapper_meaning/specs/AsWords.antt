-- Which core words say a value, and which blocks are then the value's: as in memory.
use Rattle.std.specs.Prelude.{Bool, true, false, ◌≡◌, ℕ, ◌+◌, ◌*◌, ◌%◌, ◌^◌, ℤ, pos, List, [], ◌∷◌, ◌++◌, drop, length}
use Rattle.std.specs.Int.{w32, w64, cast_signed}
use mathlib.Core.Logic.{inl, inr}
use Rattle.wit_model.specs.declared.wasm_type.WasmType.TheVariants as core
use Rattle.wrapper_data.specs.declared.block.Block.{Block}
use Rattle.wrapper_data.specs.declared.word.Word.{Word}
use Rattle.wrapper_data.specs.declared.word.Word.TheVariants as word
use Rattle.wit_layout.specs.Extent.{Extent}
use Rattle.wit_layout.specs.Flat.{flatten_type, slots, words_of_flags}
use Rattle.wit_layout.specs.Sizes.{elem_size, extent_of}
use Rattle.wit_layout.specs.Tree.{Scalar}
use Rattle.wrapper_meaning.specs.Buffer.{Contents, IsBuffer}
use Rattle.wrapper_meaning.specs.Direction.{Direction, take}
use Rattle.wrapper_meaning.specs.InMemory.{EachHolds, EntryHolds, Holds, TextHolds, entry_extent, stored_bits, text_extent, value_place}
use Rattle.wrapper_meaning.specs.Numbers.{bit, low_bits, scalar_bits}
use Rattle.wrapper_meaning.specs.Kinds.{is_plain}
use Rattle.wrapper_meaning.specs.Layout.{layout, layouts}
use Rattle.wrapper_meaning.specs.Shape.{Shape, Shapes}
use Rattle.wrapper_meaning.specs.Shape.Shape.{scalar, text, list, pairs, fixed, fields, tuple, cases, flags, handle, resource, other}
use Rattle.wrapper_meaning.specs.Shape.Shapes.{none, more}
use Rattle.wrapper_meaning.specs.Value.{Case, Parts, ScalarValue, Value, case_number}
use Rattle.wrapper_meaning.specs.Words.{AreWords, AreZero, IsWord, bits_of, read_slots}

-- lend and give: a bool is 0 or 1, a number of up to 32 bits is extended by its own sign, or by zeros if it is unsigned, a float is
-- its bits, a char is its code
abbrev pub passed_word : (s : Scalar) → ScalarValue s → Word
passed_word Scalar.bool v = word.I32 (pos (bit v))
passed_word Scalar.u32 v = word.I32 (cast_signed w32 (low_bits 32 v))
passed_word Scalar.u64 v = word.I64 (cast_signed w64 (low_bits 64 v))
passed_word Scalar.s64 v = word.I64 v
passed_word Scalar.f32 v = word.F32 v
passed_word Scalar.f64 v = word.F64 v
passed_word Scalar.char v = word.I32 (pos v)
passed_word Scalar.handle v = elim v [ ]
passed_word s v = word.I32 v

-- take: a float is its bits, a signed number of 32 or 64 bits is its word, and any other scalar is read by the low bits that it has in
-- memory
abbrev pub IsTaken : (s : Scalar) → ScalarValue s → Word → Type 0
IsTaken Scalar.f32 v x = x ≡ word.F32 v
IsTaken Scalar.f64 v x = x ≡ word.F64 v
IsTaken Scalar.s32 v x = x ≡ word.I32 v
IsTaken Scalar.s64 v x = x ≡ word.I64 v
IsTaken Scalar.u64 v x = (z : ℤ) × (x ≡ word.I64 z) × (stored_bits Scalar.u64 v ≡ low_bits 64 z)
IsTaken s v x = (z : ℤ) × (x ≡ word.I32 z) × (stored_bits s v ≡ low_bits (scalar_bits s) z)

-- the one word of a scalar
abbrev pub SaysScalar : Direction → (s : Scalar) → ScalarValue s → Word → Type 0
SaysScalar take s v x = IsTaken s v x
SaysScalar _ s v x = x ≡ passed_word s v

-- a handle's number, of 32 bits
abbrev pub handle_word : ℕ → Word
handle_word n = word.I32 (cast_signed w32 n)

-- the bits of the words, the first word lowest
abbrev pub flag_bits : List Word → ℕ
flag_bits [] = 0
flag_bits (x ∷ words) = bits_of x + 2 ^ 32 * flag_bits words

-- slots that a case leaves over are zero where they are made here, and free where they are taken
abbrev pub AreLeftOver : Direction → List Word → Type 0
AreLeftOver take words = Unit {0}
AreLeftOver _ words = AreZero words

-- words say something that has these blocks
abbrev pub Saying : Type 1
Saying = List Word → List Block → Type 0

-- the words of two things after one another, each with blocks of its own
abbrev pub BothSay : (one two : Saying) → Saying
BothSay one two words blocks =
    (front : List Word) × (back : List Word) × (first : List Block) × (rest : List Block) × one front first × two back rest × (words ≡ front ++ back) × (blocks ≡ first ++ rest)

-- one after another
abbrev pub EachSays : {A : Type 0} → (A → Saying) → List A → Saying
EachSays says [] words blocks = (words ≡ []) × (blocks ≡ [])
EachSays says (v ∷ vs) words blocks = BothSay (says v) (EachSays says vs) words blocks

-- A pointer has 2 ^ w bytes
module _ (w : ℕ) (dir : Direction) where
  -- an address and the number of the entries there
  pub record PointerWords (plain : Bool) (entries : ℕ) (e : Extent) (inside : Contents) (words : List Word) (blocks : List Block) : Type 0 where
    pub address : ℕ
    pub pair : words ≡ word.Pointer address ∷ word.Length entries ∷ []
    pub range : IsWord w core.Pointer (word.Pointer address)
    pub buffer : IsBuffer dir plain address entries e inside blocks

  abbrev mutual
    -- the words say the value, which has these blocks
    pub Says : (t : Shape) → Value t → List Word → List Block → Type 0
    Says (scalar s) v words blocks = (x : Word) × (words ≡ x ∷ []) × SaysScalar dir s v x × (blocks ≡ [])
    Says text v words blocks = PointerWords true (length v) text_extent (TextHolds v) words blocks
    Says (list t) vs words blocks =
        PointerWords (is_plain t) (length vs) (extent_of w (layout t)) (EachHolds (Holds w dir t) (elem_size w (layout t)) vs) words blocks
    Says (pairs k x) entries words blocks =
        PointerWords false (length entries) (entry_extent w k x) (EachHolds (EntryHolds (Holds w dir k) (Holds w dir x) (value_place w k x)) (entry_extent w k x).bytes entries) words blocks
    Says (fixed t n) vs words blocks = EachSays (Says t) vs words blocks
    Says (fields ts) v words blocks = PartsSay ts v words blocks
    Says (tuple ts) v words blocks = PartsSay ts v words blocks
    -- the number of its case, and behind it the slots that the payloads share
    Says (cases ts) v words blocks =
        (shared : List Word) × (words ≡ word.I32 (pos (case_number ts v)) ∷ shared) × AreWords w (slots (layouts ts)) shared × CaseSays ts v shared blocks
    Says (flags n) v words blocks = AreWords w (words_of_flags n) words × (v ≡ flag_bits words % 2 ^ n) × (blocks ≡ [])
    Says (handle owns number) v words blocks = (words ≡ handle_word v ∷ []) × (blocks ≡ [])
    Says (resource number) v words blocks = ⊥
    Says other v words blocks = ⊥

    -- the parts, one after another
    pub PartsSay : (ts : Shapes) → Parts ts → List Word → List Block → Type 0
    PartsSay none v words blocks = (words ≡ []) × (blocks ≡ [])
    PartsSay (more t ts) v words blocks = BothSay (Says t v.0) (PartsSay ts v.1) words blocks

    -- the first slots are the words of the payload, and the others are left over
    pub CaseSays : (ts : Shapes) → Case ts → List Word → List Block → Type 0
    CaseSays none c shared blocks = elim c [ ]
    CaseSays (more t ts) (inl v) shared blocks =
        Says t v (read_slots w (flatten_type (layout t)) shared) blocks × AreLeftOver dir (drop (length (flatten_type (layout t))) shared)
    CaseSays (more t ts) (inr c) shared blocks = CaseSays ts c shared blocks
