-- What an import's wrapper makes of its arguments is lent, in each heap that has the blocks that were given and those that it made.
use Rattle.std.proofs.Common.{◌≡◌, ℕ, zero, suc, ◌+◌, Bool, true, false, List, [], ◌∷◌, ◌++◌, length, Contains, refl, subst, arith}
use mathlib.Core.Logic.{inl, inr}
use Rattle.wrapper_data.specs.declared.block.Block.{Block}
use Rattle.wrapper_data.specs.declared.word.Word.{Word}
use Rattle.wit_layout.specs.Extent.{Extent, place}
use Rattle.wit_layout.specs.Flat.{flatten_type}
use Rattle.wit_layout.specs.Sizes.{elem_size, extent_of, payload_offset}
use Rattle.wrapper_meaning.specs.AsWords.{CaseSays, EachSays, PartsSay, PointerWords, Saying, Says}
use Rattle.wrapper_meaning.specs.Buffer.{Contents, IsBuffer, IsPlaced}
use Rattle.wrapper_meaning.specs.Direction.{lend, make}
use Rattle.wrapper_meaning.specs.InMemory.{CaseHolds, EachHolds, EntryHolds, Holder, Holds, PartsHold, PointerBytes, TextHolds, entry_extent, text_extent, value_place}
use Rattle.wrapper_meaning.specs.Items.{AllIn}
use Rattle.wrapper_meaning.specs.Kinds.{is_plain}
use Rattle.wrapper_meaning.specs.Laws.{MadeIsLent}
use Rattle.wrapper_meaning.specs.Layout.{layout}
use Rattle.wrapper_meaning.specs.Shape.{Shape, Shapes}
use Rattle.wrapper_meaning.specs.Shape.Shape.{scalar, text, list, pairs, fixed, fields, tuple, cases, flags, handle, resource, other}
use Rattle.wrapper_meaning.specs.Shape.Shapes.{none, more}
use Rattle.wrapper_meaning.specs.Words.{read_slots}

split : (heap xs ys : List Block) → AllIn heap (xs ++ ys) → AllIn heap xs × AllIn heap ys
split heap [] ys h = (tt, h)
split heap (x ∷ xs) ys h =
    let rest = split heap xs ys h.1 in
    ((h.0, rest.0), rest.1)

-- the given blocks, and a heap that has them
module _ (given heap : List Block) (kept : (b : Block) → Contains given b → Contains heap b) where
  -- contents that are made, and the same that are lent
  abbrev Lends : Contents → Contents → Type 0
  Lends made lent = (b : Block) (k : ℕ) (blocks : List Block) → made b k blocks → AllIn heap blocks → lent b k []

  abbrev LendsEach : {A : Type 0} → Holder A → Holder A → Type 0
  LendsEach {A} made lent = (v : A) → Lends (made v) (lent v)

  parts : (xs f g : List Block) → xs ≡ f ++ g → AllIn heap xs → AllIn heap f × AllIn heap g
  parts xs f g e h = split heap f g (subst (AllIn heap) e h)

  placed : (plain : Bool) (made lent : Contents) → Lends made lent → (p n size : ℕ) (blocks : List Block) → IsPlaced (make given) plain p n size made blocks → AllIn heap blocks → IsPlaced (lend heap) plain p n size lent []
  placed plain made lent lends p zero size blocks h inside = (tt, refl)
  placed true made lent lends p (suc n) size blocks h inside = record {
    block = h.block;
    offset = h.offset;
    own = [];
    inner = [];
    held = record { there = kept h.block h.held.there; starts = h.held.starts; room = h.held.room; none = refl };
    holds = lends h.block h.offset h.inner h.holds (parts blocks h.own h.inner h.all inside).1;
    all = refl;
  }
  placed false made lent lends p (suc n) size blocks h inside =
      let both = parts blocks h.own h.inner h.all inside in
      record {
        block = h.block;
        offset = h.offset;
        own = [];
        inner = [];
        held = record { there = (subst (AllIn heap) h.held.itself both.0).0; starts = omega (h.held.starts, h.held.whole, arith); room = omega (h.held.exact, h.held.whole, arith); none = refl };
        holds = lends h.block h.offset h.inner h.holds both.1;
        all = refl;
      }

  buffer : (plain : Bool) (made lent : Contents) → Lends made lent → (p n : ℕ) (x : Extent) (blocks : List Block) → IsBuffer (make given) plain p n x made blocks → AllIn heap blocks → IsBuffer (lend heap) plain p n x lent []
  buffer plain made lent lends p n x blocks h inside = record { aligned = h.aligned; bounded = h.bounded; placed = placed plain made lent lends p n x.bytes blocks h.placed inside }

  each : {A : Type 0} (made lent : Holder A) (size : ℕ) → LendsEach made lent → (vs : List A) → Lends (EachHolds made size vs) (EachHolds lent size vs)
  each made lent size lends [] b k blocks h inside = refl
  each made lent size lends (v ∷ vs) b k blocks (f, g, first, rest, all) inside =
      let both = parts blocks f g all inside in
      ([], [], lends v b k f first both.0, each made lent size lends vs b (k + size) g rest both.1, refl)

  entry : {A B : Type 0} (made_key lent_key : Holder A) (made_value lent_value : Holder B) (distance : ℕ) → LendsEach made_key lent_key → LendsEach made_value lent_value
      → LendsEach (EntryHolds made_key made_value distance) (EntryHolds lent_key lent_value distance)
  entry made_key lent_key made_value lent_value distance lends_key lends_value e b k blocks (f, g, key, val, all) inside =
      let both = parts blocks f g all inside in
      ([], [], lends_key e.0 b k f key both.0, lends_value e.1 b (k + distance) g val both.1, refl)

  texts : (bytes : List ℕ) → Lends (TextHolds bytes) (TextHolds bytes)
  texts bytes b k blocks h inside = (h.0, refl)

  module _ (w : ℕ) where
    points : (plain : Bool) (made lent : Contents) → Lends made lent → (n : ℕ) (x : Extent) → Lends (PointerBytes w (make given) plain n x made) (PointerBytes w (lend heap) plain n x lent)
    points plain made lent lends n x b k blocks h inside = record { address = h.address; pointer = h.pointer; counted = h.counted; buffer = buffer plain made lent lends h.address n x blocks h.buffer inside }

    mutual
      pub holds_lent : (t : Shape) → LendsEach (Holds w (make given) t) (Holds w (lend heap) t)
      holds_lent (scalar s) v b k blocks h inside = (h.0, refl)
      holds_lent text v b k blocks h inside = points true (TextHolds v) (TextHolds v) (texts v) (length v) text_extent b k blocks h inside
      holds_lent (list t) vs b k blocks h inside =
          points (is_plain t) (EachHolds (Holds w (make given) t) (elem_size w (layout t)) vs) (EachHolds (Holds w (lend heap) t) (elem_size w (layout t)) vs)
          (each (Holds w (make given) t) (Holds w (lend heap) t) (elem_size w (layout t)) (holds_lent t) vs) (length vs) (extent_of w (layout t)) b k blocks h inside
      holds_lent (pairs c x) vs b k blocks h inside =
          points false (EachHolds (EntryHolds (Holds w (make given) c) (Holds w (make given) x) (value_place w c x)) (entry_extent w c x).bytes vs) (EachHolds (EntryHolds (Holds w (lend heap) c) (Holds w (lend heap) x) (value_place w c x)) (entry_extent w c x).bytes vs)
          (each (EntryHolds (Holds w (make given) c) (Holds w (make given) x) (value_place w c x)) (EntryHolds (Holds w (lend heap) c) (Holds w (lend heap) x) (value_place w c x)) (entry_extent w c x).bytes (entry (Holds w (make given) c) (Holds w (lend heap) c) (Holds w (make given) x) (Holds w (lend heap) x) (value_place w c x) (holds_lent c) (holds_lent x)) vs)
          (length vs) (entry_extent w c x) b k blocks h inside
      holds_lent (fixed t n) vs b k blocks h inside = each (Holds w (make given) t) (Holds w (lend heap) t) (elem_size w (layout t)) (holds_lent t) vs b k blocks h inside
      holds_lent (fields ts) v b k blocks h inside = parts_lent ts 0 v b k blocks h inside
      holds_lent (tuple ts) v b k blocks h inside = parts_lent ts 0 v b k blocks h inside
      holds_lent (cases ts) v b k blocks h inside = (h.0, case_lent ts v b (k + payload_offset w (layout (cases ts))) blocks h.1 inside)
      holds_lent (flags n) v b k blocks (bits, has, e, empty) inside = (bits, has, e, refl)
      holds_lent (handle own number) v b k blocks h inside = (h.0, refl)
      holds_lent (resource number) v b k blocks h inside = elim h [ ]
      holds_lent other v b k blocks h inside = elim h [ ]

      parts_lent : (ts : Shapes) (behind : ℕ) → LendsEach (λ v. PartsHold w (make given) ts v behind) (λ v. PartsHold w (lend heap) ts v behind)
      parts_lent none behind v b k blocks h inside = refl
      parts_lent (more t ts) behind v b k blocks (f, g, first, rest, all) inside =
          let both = parts blocks f g all inside in
          ([], [], holds_lent t v.0 b (k + place (extent_of w (layout t)) behind) f first both.0, parts_lent ts (place (extent_of w (layout t)) behind + elem_size w (layout t)) v.1 b k g rest both.1, refl)

      case_lent : (ts : Shapes) → LendsEach (CaseHolds w (make given) ts) (CaseHolds w (lend heap) ts)
      case_lent none c b k blocks h inside = elim c [ ]
      case_lent (more t ts) (inl v) b k blocks h inside = holds_lent t v b k blocks h inside
      case_lent (more t ts) (inr c) b k blocks h inside = case_lent ts c b k blocks h inside

    -- words

    abbrev LendsWords : {A : Type 0} → (A → Saying) → (A → Saying) → Type 0
    LendsWords {A} made lent = (v : A) (words : List Word) (blocks : List Block) → made v words blocks → AllIn heap blocks → lent v words []

    point : (plain : Bool) (made lent : Contents) → Lends made lent → (n : ℕ) (x : Extent) (words : List Word) (blocks : List Block) → PointerWords w (make given) plain n x made words blocks → AllIn heap blocks → PointerWords w (lend heap) plain n x lent words []
    point plain made lent lends n x words blocks h inside = record { address = h.address; pair = h.pair; range = h.range; buffer = buffer plain made lent lends h.address n x blocks h.buffer inside }

    each_said : {A : Type 0} (made lent : A → Saying) → LendsWords made lent → LendsWords (EachSays made) (EachSays lent)
    each_said made lent lends [] words blocks h inside = (h.0, refl)
    each_said made lent lends (v ∷ vs) words blocks (front, back, f, g, first, rest, e, all) inside =
        let both = parts blocks f g all inside in
        (front, back, [], [], lends v front f first both.0, each_said made lent lends vs back g rest both.1, e, refl)

    mutual
      pub says_lent : (t : Shape) → LendsWords (Says w (make given) t) (Says w (lend heap) t)
      says_lent (scalar s) v words blocks (x, e, says, empty) inside = (x, e, says, refl)
      says_lent text v words blocks h inside = point true (TextHolds v) (TextHolds v) (texts v) (length v) text_extent words blocks h inside
      says_lent (list t) vs words blocks h inside =
          point (is_plain t) (EachHolds (Holds w (make given) t) (elem_size w (layout t)) vs) (EachHolds (Holds w (lend heap) t) (elem_size w (layout t)) vs)
          (each (Holds w (make given) t) (Holds w (lend heap) t) (elem_size w (layout t)) (holds_lent t) vs) (length vs) (extent_of w (layout t)) words blocks h inside
      says_lent (pairs c x) vs words blocks h inside =
          point false (EachHolds (EntryHolds (Holds w (make given) c) (Holds w (make given) x) (value_place w c x)) (entry_extent w c x).bytes vs) (EachHolds (EntryHolds (Holds w (lend heap) c) (Holds w (lend heap) x) (value_place w c x)) (entry_extent w c x).bytes vs)
          (each (EntryHolds (Holds w (make given) c) (Holds w (make given) x) (value_place w c x)) (EntryHolds (Holds w (lend heap) c) (Holds w (lend heap) x) (value_place w c x)) (entry_extent w c x).bytes (entry (Holds w (make given) c) (Holds w (lend heap) c) (Holds w (make given) x) (Holds w (lend heap) x) (value_place w c x) (holds_lent c) (holds_lent x)) vs)
          (length vs) (entry_extent w c x) words blocks h inside
      says_lent (fixed t n) vs words blocks h inside = each_said (Says w (make given) t) (Says w (lend heap) t) (says_lent t) vs words blocks h inside
      says_lent (fields ts) v words blocks h inside = parts_said ts v words blocks h inside
      says_lent (tuple ts) v words blocks h inside = parts_said ts v words blocks h inside
      says_lent (cases ts) v words blocks (shared, e, are, h) inside = (shared, e, are, case_said ts v shared blocks h inside)
      says_lent (flags n) v words blocks (are, e, empty) inside = (are, e, refl)
      says_lent (handle own number) v words blocks (e, empty) inside = (e, refl)
      says_lent (resource number) v words blocks h inside = elim h [ ]
      says_lent other v words blocks h inside = elim h [ ]

      pub parts_said : (ts : Shapes) → LendsWords (PartsSay w (make given) ts) (PartsSay w (lend heap) ts)
      parts_said none v words blocks h inside = (h.0, refl)
      parts_said (more t ts) v words blocks (front, back, f, g, first, rest, e, all) inside =
          let both = parts blocks f g all inside in
          (front, back, [], [], says_lent t v.0 front f first both.0, parts_said ts v.1 back g rest both.1, e, refl)

      case_said : (ts : Shapes) → LendsWords (CaseSays w (make given) ts) (CaseSays w (lend heap) ts)
      case_said none c shared blocks h inside = elim c [ ]
      case_said (more t ts) (inl v) shared blocks h inside = (says_lent t v (read_slots w (flatten_type (layout t)) shared) blocks h.0 inside, h.1)
      case_said (more t ts) (inr c) shared blocks h inside = case_said ts c shared blocks h inside

pub made_is_lent : MadeIsLent
made_is_lent w given heap ts vs words blocks kept inside says = parts_said given heap kept w ts vs words blocks says inside
