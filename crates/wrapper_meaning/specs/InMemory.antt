-- Which bytes hold a value, and which blocks are then the value's: those of its texts, lists and maps, the outer before the inner.
use Rattle.std.specs.Prelude.{Bool, true, false, ◌≡◌, ℕ, zero, suc, ◌+◌, ◌*◌, ◌%◌, ◌^◌, List, [], ◌∷◌, length}
use mathlib.Core.Logic.{inl, inr}
use Rattle.wrapper_data.specs.declared.block.Block.{Block}
use Rattle.wit_layout.specs.Extent.{Extent, extent, discriminant_grain, flag_words, place, record_extent}
use Rattle.wit_layout.specs.Sizes.{alignment, count, elem_size, extent_of, payload_offset}
use Rattle.wit_layout.specs.Tree.{Scalar}
use Rattle.wrapper_meaning.specs.Buffer.{Both, Contents, IsBuffer}
use Rattle.wrapper_meaning.specs.Cells.{HasBytes, HasNumber}
use Rattle.wrapper_meaning.specs.Direction.{Direction}
use Rattle.wrapper_meaning.specs.Kinds.{is_plain}
use Rattle.wrapper_meaning.specs.Layout.{layout, layouts}
use Rattle.wrapper_meaning.specs.Numbers.{bit, low_bits, scalar_bits}
use Rattle.wrapper_meaning.specs.Shape.{Shape, Shapes}
use Rattle.wrapper_meaning.specs.Shape.Shape.{scalar, text, list, pairs, fixed, fields, tuple, cases, flags, handle, resource, other}
use Rattle.wrapper_meaning.specs.Shape.Shapes.{none, more}
use Rattle.wrapper_meaning.specs.Value.{Case, Parts, ScalarValue, Value, case_number}

-- a bool is 0 or 1, a float its bits, a char its code, a whole number the low bits that its kind has
abbrev pub stored_bits : (s : Scalar) → ScalarValue s → ℕ
stored_bits Scalar.bool v = bit v
stored_bits Scalar.f32 v = v
stored_bits Scalar.f64 v = v
stored_bits Scalar.char v = v
stored_bits Scalar.handle v = elim v [ ]
stored_bits s v = low_bits (scalar_bits s) v

-- what holds a value of a sort
abbrev pub Holder : Type 0 → Type 1
Holder A = A → Contents

-- one after another, so many bytes apart, each with blocks of its own
abbrev pub EachHolds : {A : Type 0} → Holder A → ℕ → List A → Contents
EachHolds holds size [] b offset blocks = blocks ≡ []
EachHolds holds size (v ∷ vs) b offset blocks = Both (holds v b offset) (EachHolds holds size vs b (offset + size)) blocks

-- a key, and a value so many bytes behind it
abbrev pub EntryHolds : {A B : Type 0} → Holder A → Holder B → ℕ → A × B → Contents
EntryHolds key value distance e b offset blocks = Both (key e.0 b offset) (value e.1 b (offset + distance)) blocks

abbrev pub text_extent : Extent
text_extent = extent 0 1

abbrev pub TextHolds : Holder (List ℕ)
TextHolds bytes b offset blocks = HasBytes b offset (length bytes) bytes × (blocks ≡ [])

-- numbers of so many bytes, one after another, are the words of a number, the first word lowest
abbrev pub HasWords : Block → ℕ → (size count : ℕ) → ℕ → Type 0
HasWords b offset size zero x = x ≡ 0
HasWords b offset size (suc n) x = (low : ℕ) × (high : ℕ) × HasNumber b offset size low × HasWords b (offset + size) size n high × (x ≡ low + 2 ^ 32 * high)

-- an entry of a map is a record of its key and its value. A pointer has 2 ^ w bytes
abbrev pub entry_extent : ℕ → Shape → Shape → Extent
entry_extent w k x = record_extent (extent_of w (layout k) ∷ extent_of w (layout x) ∷ [])

abbrev pub value_place : ℕ → Shape → Shape → ℕ
value_place w k x = place (extent_of w (layout x)) (elem_size w (layout k))

module _ (w : ℕ) (dir : Direction) where
  -- an address, and behind it the number of the entries there
  pub record PointerBytes (plain : Bool) (entries : ℕ) (e : Extent) (inside : Contents) (b : Block) (offset : ℕ) (blocks : List Block) : Type 0 where
    pub address : ℕ
    pub pointer : HasNumber b offset (2 ^ w) address
    pub counted : HasNumber b (offset + 2 ^ w) (2 ^ w) entries
    pub buffer : IsBuffer dir plain address entries e inside blocks

  abbrev mutual
    -- the bytes of the block from the offset on hold the value, which has these blocks
    pub Holds : (t : Shape) → Value t → Block → ℕ → List Block → Type 0
    Holds (scalar s) v b offset blocks = HasNumber b offset (elem_size w (layout (scalar s))) (stored_bits s v) × (blocks ≡ [])
    Holds text v b offset blocks = PointerBytes true (length v) text_extent (TextHolds v) b offset blocks
    Holds (list t) vs b offset blocks =
        PointerBytes (is_plain t) (length vs) (extent_of w (layout t)) (EachHolds (Holds t) (elem_size w (layout t)) vs) b offset blocks
    Holds (pairs k x) entries b offset blocks =
        PointerBytes false (length entries) (entry_extent w k x) (EachHolds (EntryHolds (Holds k) (Holds x) (value_place w k x)) (entry_extent w k x).bytes entries) b offset blocks
    Holds (fixed t n) vs b offset blocks = EachHolds (Holds t) (elem_size w (layout t)) vs b offset blocks
    Holds (fields ts) v b offset blocks = PartsHold ts v 0 b offset blocks
    Holds (tuple ts) v b offset blocks = PartsHold ts v 0 b offset blocks
    -- the number of its case, and behind it the payload
    Holds (cases ts) v b offset blocks =
        HasNumber b offset (2 ^ discriminant_grain (count (layouts ts))) (case_number ts v) × CaseHolds ts v b (offset + payload_offset w (layout (cases ts))) blocks
    -- by its words, 32 flags each, one after another, the first lowest; read by the declared bits
    Holds (flags n) v b offset blocks =
        (bits : ℕ) × HasWords b offset (alignment w (layout (flags n))) (flag_words n) bits × (v ≡ bits % 2 ^ n) × (blocks ≡ [])
    Holds (handle owns number) v b offset blocks = HasNumber b offset 4 v × (blocks ≡ [])
    Holds (resource number) v b offset blocks = ⊥
    Holds other v b offset blocks = ⊥

    -- each part at its place, of which the first comes behind so many bytes
    pub PartsHold : (ts : Shapes) → Parts ts → (behind : ℕ) → Block → ℕ → List Block → Type 0
    PartsHold none v behind b offset blocks = blocks ≡ []
    PartsHold (more t ts) v behind b offset blocks =
        let here = place (extent_of w (layout t)) behind in
        Both (Holds t v.0 b (offset + here)) (PartsHold ts v.1 (here + elem_size w (layout t)) b offset) blocks

    pub CaseHolds : (ts : Shapes) → Case ts → Block → ℕ → List Block → Type 0
    CaseHolds none c b offset blocks = elim c [ ]
    CaseHolds (more t ts) (inl v) b offset blocks = Holds t v b offset blocks
    CaseHolds (more t ts) (inr c) b offset blocks = CaseHolds ts c b offset blocks
