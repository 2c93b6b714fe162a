-- Which value a value of the Rust side stands for, and which blocks its texts and lists own.
use Rattle.std.specs.Prelude.{◌≡◌, ℕ, suc, ◌*◌, ◌%◌, ◌^◌, ◌<◌, Bool, true, false, MatchBool, if◌then◌else◌, List, [], ◌∷◌, ◌++◌, length, Option, None, Some}
use mathlib.Core.Logic.{inl, inr}
use Rattle.wit_model.specs.declared.types.WitType.TheVariants as wit
use Rattle.wrapper_data.specs.declared.block.Block.{Block}
use Rattle.wrapper_data.specs.declared.value.RustValue.{RustValue}
use Rattle.wrapper_data.specs.declared.value.RustValue.TheVariants as value
use Rattle.wit_layout.specs.Extent.{Extent}
use Rattle.wit_layout.specs.Sizes.{elem_size, extent_of}
use Rattle.wit_layout.specs.Tree.{Scalar}
use Rattle.wrapper_meaning.specs.Buffer.{Both, Contents, IsBuffer}
use Rattle.wrapper_meaning.specs.Direction.{Direction, lend, make, take}
use Rattle.wrapper_meaning.specs.InMemory.{EachHolds, Holds, TextHolds, text_extent}
use Rattle.wrapper_meaning.specs.Kinds.{has_own_handle, is_plain}
use Rattle.wrapper_meaning.specs.Layout.{layout}
use Rattle.wrapper_meaning.specs.Numbers.{flags_width}
use Rattle.wrapper_meaning.specs.Shape.{Shape, Shapes, is_nothing}
use Rattle.wrapper_meaning.specs.Shape.Shape.{scalar, text, list, pairs, fixed, fields, tuple, cases, flags, handle, resource, other}
use Rattle.wrapper_meaning.specs.Shape.Shapes.{none, more}
use Rattle.wrapper_meaning.specs.Value.{Case, Parts, Result, ScalarValue, Value, case_number}

-- the one value of the Rust side that a scalar is
abbrev pub rust_scalar : (s : Scalar) → ScalarValue s → RustValue
rust_scalar Scalar.bool v = value.Bool v
rust_scalar Scalar.u8 v = value.Num wit.U8 v
rust_scalar Scalar.u16 v = value.Num wit.U16 v
rust_scalar Scalar.u32 v = value.Num wit.U32 v
rust_scalar Scalar.u64 v = value.Num wit.U64 v
rust_scalar Scalar.s8 v = value.Num wit.S8 v
rust_scalar Scalar.s16 v = value.Num wit.S16 v
rust_scalar Scalar.s32 v = value.Num wit.S32 v
rust_scalar Scalar.s64 v = value.Num wit.S64 v
rust_scalar Scalar.f32 v = value.F32 v
rust_scalar Scalar.f64 v = value.F64 v
rust_scalar Scalar.char v = value.Char v
rust_scalar Scalar.handle v = elim v [ ]

-- the flag of a buffer says whether it owns its block: what is lent does not, and anything else does. Where an owner has no entries, it
-- has no block, and the flag may be either
abbrev pub IsFlag : Direction → (entries : ℕ) → Bool → Type 0
IsFlag (lend blocks) entries owned = owned ≡ false
IsFlag (make blocks) entries owned = owned ≡ false
IsFlag _ (suc n) owned = owned ≡ true
IsFlag _ _ owned = Unit {0}

-- something of the Rust side, a value or an entry of a map, stands for something, and owns these blocks
abbrev pub Standing : Type 0 → Type 1
Standing R = R → List Block → Type 0

-- the first of a list stands for one thing and the others for another, each with blocks of its own
abbrev pub BothStand : {R : Type 0} → Standing R → Standing (List R) → Standing (List R)
BothStand {R} one two rs blocks =
    (r : R) × (others : List R) × (first : List Block) × (rest : List Block) × (rs ≡ r ∷ others) × one r first × two others rest × (blocks ≡ first ++ rest)

abbrev pub EachStands : {A R : Type 0} → (A → Standing R) → List A → Standing (List R)
EachStands stands [] rs blocks = (rs ≡ []) × (blocks ≡ [])
EachStands stands (v ∷ vs) rs blocks = BothStand (stands v) (EachStands stands vs) rs blocks

-- an entry of a map
abbrev pub EntryStands : {A B : Type 0} → (A → Standing RustValue) → (B → Standing RustValue) → A × B → Standing (RustValue × RustValue)
EntryStands key val e r blocks = Both (key e.0 r.0) (val e.1 r.1) blocks

-- the payload of a case: None or `()` where it is left out
abbrev pub PayloadStands : Bool → Standing RustValue → Standing (Option RustValue)
PayloadStands true stands None blocks = blocks ≡ []
PayloadStands true stands (Some r) blocks = (r ≡ value.Unit) × (blocks ≡ [])
PayloadStands false stands payload blocks = (r : RustValue) × (payload ≡ Some r) × stands r blocks

-- A pointer has 2 ^ w bytes. What is lent lies in blocks of the heap; anything else has blocks of its own
module _ (w : ℕ) (dir : Direction) where
  -- a text, or a list that lies in memory as it is: never at address 0
  pub record StandsAsBuffer (entries : ℕ) (e : Extent) (inside : Contents) (r : RustValue) (blocks : List Block) : Type 0 where
    pub address : ℕ
    pub nonzero : 0 < address
    pub range : address < 2 ^ (8 * 2 ^ w)
    pub owned : Bool
    pub flag : IsFlag dir entries owned
    pub is : r ≡ value.Buffer address entries owned
    pub buffer : IsBuffer dir true address entries e inside blocks

  abbrev mutual
    pub Stands : (t : Shape) → Value t → RustValue → List Block → Type 0
    Stands (scalar s) v r blocks = (r ≡ rust_scalar s v) × (blocks ≡ [])
    Stands text v r blocks = StandsAsBuffer (length v) text_extent (TextHolds v) r blocks
    Stands (list t) vs r blocks =
        MatchBool (is_plain t) (StandsAsBuffer (length vs) (extent_of w (layout t)) (EachHolds (Holds w dir t) (elem_size w (layout t)) vs) r blocks)
        ((rs : List RustValue) × (r ≡ value.Seq rs) × EachStands (Stands t) vs rs blocks)
    Stands (pairs k x) entries r blocks = (rs : List (RustValue × RustValue)) × (r ≡ value.Map rs) × EachStands (EntryStands (Stands k) (Stands x)) entries rs blocks
    Stands (fixed t n) vs r blocks = (rs : List RustValue) × (r ≡ value.Struct rs) × EachStands (Stands t) vs rs blocks
    Stands (fields ts) v r blocks = (rs : List RustValue) × (r ≡ value.Struct rs) × PartsStand ts v rs blocks
    Stands (tuple ts) v r blocks = (rs : List RustValue) × (r ≡ value.Struct rs) × PartsStand ts v rs blocks
    Stands (cases ts) v r blocks = (payload : Option RustValue) × (r ≡ value.Case (case_number ts v) payload) × CaseStands ts v payload blocks
    -- by the declared bits
    Stands (flags n) v r blocks = (bits : ℕ) × (bits < 2 ^ flags_width n) × (r ≡ value.Bits bits) × (v ≡ bits % 2 ^ n) × (blocks ≡ [])
    Stands (handle own number) v r blocks = (r ≡ value.Handle v own) × (blocks ≡ [])
    Stands (resource number) v r blocks = ⊥
    Stands other v r blocks = ⊥

    pub PartsStand : (ts : Shapes) → Parts ts → List RustValue → List Block → Type 0
    PartsStand none v rs blocks = (rs ≡ []) × (blocks ≡ [])
    PartsStand (more t ts) v rs blocks = BothStand (Stands t v.0) (PartsStand ts v.1) rs blocks

    pub CaseStands : (ts : Shapes) → Case ts → Option RustValue → List Block → Type 0
    CaseStands none c payload blocks = elim c [ ]
    CaseStands (more t ts) (inl v) payload blocks = PayloadStands (is_nothing t) (Stands t v) payload blocks
    CaseStands (more t ts) (inr c) payload blocks = CaseStands ts c payload blocks

-- The arguments of an import. One that has an own handle is passed with all that it owns; any other is lent, behind a reference

abbrev pub argument_direction : List Block → Shape → Direction
argument_direction heap t = if has_own_handle t then take else lend heap

abbrev pub ArgumentsStand : ℕ → List Block → (ts : Shapes) → Parts ts → List RustValue → List Block → Type 0
ArgumentsStand w heap none v rs blocks = (rs ≡ []) × (blocks ≡ [])
ArgumentsStand w heap (more t ts) v rs blocks = BothStand (Stands w (argument_direction heap t) t v.0) (ArgumentsStand w heap ts v.1) rs blocks

-- A result, where there is one, owns what it has

abbrev pub ResultStands : ℕ → (r : Option Shape) → Result r → Option RustValue → List Block → Type 0
ResultStands w None v answer blocks = (answer ≡ None) × (blocks ≡ [])
ResultStands w (Some t) v answer blocks = (r : RustValue) × (answer ≡ Some r) × Stands w take t v r blocks
