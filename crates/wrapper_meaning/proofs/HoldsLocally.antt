-- A value depends on its own bytes alone, and what is lent in a heap is lent in each heap that has the same blocks.
use Rattle.std.proofs.Common.{◌≡◌, ℕ, zero, suc, ◌+◌, ◌*◌, ◌^◌, ◌≤◌, max, nat_le, if◌then◌else◌, Bool, true, false, List, [], ◌∷◌, length, option_map, Contains, refl, ap, ◌∙◌, arith}
use Rattle.std.specs.List.{AllByRecursion}
use Rattle.std.proofs.lemmas.Bool.{leb-true}
use mathlib.Core.Logic.{inl, inr}
use Rattle.wrapper_data.specs.declared.block.Block.{Block}
use Rattle.wit_layout.specs.Extent.{Extent, discriminant_grain, end, extent, flag_words, flags_extent, greatest, payload_place, place, record_extent, variant_extent}
use Rattle.wit_layout.specs.Sizes.{alignment, count, elem_size, extent_of, extents_of, payload_offset}
use Rattle.wrapper_meaning.specs.Buffer.{Contents, IsBuffer, IsPlaced}
use Rattle.wrapper_meaning.specs.Cells.{HasNumber, bytes_from, little}
use Rattle.wrapper_meaning.specs.Direction.{Direction, lend}
use Rattle.wrapper_meaning.specs.InMemory.{CaseHolds, EachHolds, EntryHolds, HasWords, Holder, Holds, PartsHold, PointerBytes, TextHolds, entry_extent, text_extent, value_place}
use Rattle.wrapper_meaning.specs.InRange.{AreListed, IsListed, IsListedCase}
use Rattle.wrapper_meaning.specs.Kinds.{is_plain}
use Rattle.wrapper_meaning.specs.Layout.{layout, layouts}
use Rattle.wrapper_meaning.specs.Shape.{Shape, Shapes}
use Rattle.wrapper_meaning.specs.Shape.Shape.{scalar, text, list, pairs, fixed, fields, tuple, cases, flags, handle, resource, other}
use Rattle.wrapper_meaning.specs.Shape.Shapes.{none, more}
use Rattle.wrapper_meaning.specs.Value.{Case, Parts, Value}
use Rattle.wrapper_meaning.proofs.PartPlaces.{bytes_of_first, bytes_of_rest, place_behind}
use Rattle.wit_layout.proofs.RecordSteps.{end_behind, record_behind}

-- 1. A value depends on its own bytes alone

-- from one offset to another the bytes of two blocks are the same
abbrev pub AlikeWithin : (from to : ℕ) → Block → Block → Type 0
AlikeWithin from to b after = (i n : ℕ) → from ≤ i → i + n ≤ to → bytes_from after.cells i n ≡ bytes_from b.cells i n

pub alike_inside : (from to low high : ℕ) (b after : Block) → from ≤ low → high ≤ to → AlikeWithin from to b after → AlikeWithin low high b after
alike_inside from to low high b after l h alike = λ i n at room. alike i n (omega arith) (omega arith)

pub number_locally : (b after : Block) (k n x : ℕ) → AlikeWithin k (k + n) b after → HasNumber b k n x → HasNumber after k n x
number_locally b after k n x alike h = (h.0, ap (λ o. option_map little o) (alike k n (omega arith) (omega arith)) ∙ h.1)

words_locally : (b after : Block) (k size n x : ℕ) → AlikeWithin k (k + n * size) b after → HasWords b k size n x → HasWords after k size n x
words_locally b after k size zero x alike h = h
words_locally b after k size (suc n) x alike (low, high, has, later, e) =
    let whole = k + suc n * size in (
      low,
      high,
      number_locally b after k size low (alike_inside k whole k (k + size) b after (omega arith) (omega arith) alike) has,
      words_locally b after (k + size) size n high (alike_inside k whole (k + size) (k + size + n * size) b after (omega arith) (omega arith) alike) later,
      e,
    )

-- the words of flags lie within them
words_within : (n : ℕ) (a b : Bool) → nat_le n 8 ≡ a → nat_le n 16 ≡ b
    → let e : Extent = if a then extent 0 1 else (if b then extent 1 2 else extent 2 (4 * flag_words n)) in flag_words n * 2 ^ e.grain ≤ e.bytes
words_within n true b few some = let h = leb-true n 8 few in omega (arith, h)
words_within n false true few some = let h = leb-true n 16 some in omega (arith, h)
words_within n false false few some = omega arith

pub flags_within : (n : ℕ) → flag_words n * 2 ^ (flags_extent n).grain ≤ (flags_extent n).bytes
flags_within n = words_within n (nat_le n 8) (nat_le n 16) refl refl

-- what holds of values that are in range depends on so many bytes
abbrev Local : {A : Type 0} → ℕ → (A → Type 0) → Holder A → Type 0
Local {A} size listed holds = (v : A) (b after : Block) (k : ℕ) (blocks : List Block) → listed v → AlikeWithin k (k + size) b after → holds v b k blocks → holds v after k blocks

each_locally : {A : Type 0} (size : ℕ) (listed : A → Type 0) (holds : Holder A) → Local size listed holds → (vs : List A) (b after : Block) (k : ℕ) (blocks : List Block) → AllByRecursion listed vs → AlikeWithin k (k + length vs * size) b after → EachHolds holds size vs b k blocks → EachHolds holds size vs after k blocks
each_locally size listed holds one [] b after k blocks all alike h = h
each_locally size listed holds one (v ∷ vs) b after k blocks all alike (f, g, first, rest, e) =
    let whole = k + suc (length vs) * size in (
      f,
      g,
      one v b after k f all.0 (alike_inside k whole k (k + size) b after (omega arith) (omega arith) alike) first,
      each_locally size listed holds one vs b after (k + size) g all.1 (alike_inside k whole (k + size) (k + size + length vs * size) b after (omega arith) (omega arith) alike) rest,
      e,
    )

-- the number of a case and its payload lie within the bytes of the whole
pub tag_within : (n : ℕ) (e : Extent) → 2 ^ discriminant_grain n ≤ payload_place n e
tag_within n e = place_behind e (2 ^ discriminant_grain n)

pub payload_within : (n : ℕ) (e : Extent) → payload_place n e + e.bytes ≤ (variant_extent n e).bytes
payload_within n e = place_behind (extent (max (discriminant_grain n) e.grain) 0) (payload_place n e + e.bytes)

-- and the parts of a record within those of the record
record_alike : (es : List Extent) (b after : Block) (k : ℕ) → AlikeWithin k (k + (record_extent es).bytes) b after → AlikeWithin (k + 0) (k + end es 0) b after
record_alike es b after k alike =
    let inside = record_behind es in
    alike_inside k (k + (record_extent es).bytes) (k + 0) (k + end es 0) b after (omega arith) (omega arith) alike

module _ (w : ℕ) (dir : Direction) where
  points_locally : (plain : Bool) (n : ℕ) (e : Extent) (inside : Contents) (b after : Block) (k : ℕ) (blocks : List Block) → AlikeWithin k (k + 2 * 2 ^ w) b after → PointerBytes w dir plain n e inside b k blocks → PointerBytes w dir plain n e inside after k blocks
  points_locally plain n e inside b after k blocks alike h = record {
    address = h.address;
    pointer = number_locally b after k (2 ^ w) h.address (alike_inside k (k + 2 * 2 ^ w) k (k + 2 ^ w) b after (omega arith) (omega arith) alike) h.pointer;
    counted = number_locally b after (k + 2 ^ w) (2 ^ w) n (alike_inside k (k + 2 * 2 ^ w) (k + 2 ^ w) (k + 2 ^ w + 2 ^ w) b after (omega arith) (omega arith) alike) h.counted;
    buffer = h.buffer;
  }

  mutual
    pub holds_locally : (t : Shape) (v : Value t) (b after : Block) (k : ℕ) (blocks : List Block) → IsListed t v → AlikeWithin k (k + elem_size w (layout t)) b after → Holds w dir t v b k blocks → Holds w dir t v after k blocks
    holds_locally (scalar s) v b after k blocks listed alike h = (number_locally b after k _ _ alike h.0, h.1)
    holds_locally text v b after k blocks listed alike h = points_locally true (length v) text_extent (TextHolds v) b after k blocks alike h
    holds_locally (list t) vs b after k blocks listed alike h =
        points_locally (is_plain t) (length vs) (extent_of w (layout t)) (EachHolds (Holds w dir t) (elem_size w (layout t)) vs) b after k blocks alike h
    holds_locally (pairs c x) vs b after k blocks listed alike h =
        points_locally false (length vs) (entry_extent w c x) (EachHolds (EntryHolds (Holds w dir c) (Holds w dir x) (value_place w c x)) (entry_extent w c x).bytes vs) b after k blocks alike h
    holds_locally (fixed t n) vs b after k blocks listed alike h =
        let size = elem_size w (layout t) in
        let bytes : length vs * size ≡ n * size = ap (λ m. m * size) listed.0 in
        each_locally size (IsListed t) (Holds w dir t) (holds_locally t) vs b after k blocks listed.1 (alike_inside k (k + n * size) k (k + length vs * size) b after (omega arith) (omega arith) alike) h
    holds_locally (fields ts) v b after k blocks listed alike h = parts_hold_locally ts v 0 b after k blocks listed (record_alike (extents_of w (layouts ts)) b after k alike) h
    holds_locally (tuple ts) v b after k blocks listed alike h = parts_hold_locally ts v 0 b after k blocks listed (record_alike (extents_of w (layouts ts)) b after k alike) h
    holds_locally (cases ts) v b after k blocks listed alike h =
        let n = count (layouts ts) in
        let e = greatest (extents_of w (layouts ts)) in
        let whole = k + (variant_extent n e).bytes in
        let tag = tag_within n e in
        let inside = payload_within n e in (
          number_locally b after k (2 ^ discriminant_grain n) _ (alike_inside k whole k (k + 2 ^ discriminant_grain n) b after (omega arith) (omega arith) alike) h.0,
          case_holds_locally ts v b after (k + payload_place n e) blocks listed (alike_inside k whole (k + payload_place n e) (k + payload_place n e + e.bytes) b after (omega arith) (omega arith) alike) h.1,
        )
    holds_locally (flags n) v b after k blocks listed alike (bits, has, e, empty) = (
      bits,
      words_locally b after k (alignment w (layout (flags n))) (flag_words n) bits (alike_inside k (k + (flags_extent n).bytes) k (k + flag_words n * 2 ^ (flags_extent n).grain) b after (omega arith) (omega (arith, flags_within n)) alike) has,
      e,
      empty,
    )
    holds_locally (handle owns number) v b after k blocks listed alike h = (number_locally b after k 4 v alike h.0, h.1)
    holds_locally (resource number) v b after k blocks listed alike h = elim h [ ]
    holds_locally other v b after k blocks listed alike h = elim h [ ]

    pub parts_hold_locally : (ts : Shapes) (v : Parts ts) (behind : ℕ) (b after : Block) (k : ℕ) (blocks : List Block) → AreListed ts v → AlikeWithin (k + behind) (k + end (extents_of w (layouts ts)) behind) b after → PartsHold w dir ts v behind b k blocks → PartsHold w dir ts v behind after k blocks
    parts_hold_locally none v behind b after k blocks listed alike h = h
    parts_hold_locally (more t ts) v behind b after k blocks listed alike (f, g, first, rest, e) =
        let here = place (extent_of w (layout t)) behind in
        let next = here + elem_size w (layout t) in
        let last = end (extents_of w (layouts ts)) next in
        let low = place_behind (extent_of w (layout t)) behind in
        let high = end_behind (extents_of w (layouts ts)) next in (
          f,
          g,
          holds_locally t v.0 b after (k + here) f listed.0 (alike_inside (k + behind) (k + last) (k + here) (k + here + elem_size w (layout t)) b after (omega arith) (omega arith) alike) first,
          parts_hold_locally ts v.1 next b after k g listed.1 (alike_inside (k + behind) (k + last) (k + next) (k + last) b after (omega arith) (omega arith) alike) rest,
          e,
        )

    case_holds_locally : (ts : Shapes) (c : Case ts) (b after : Block) (k : ℕ) (blocks : List Block) → IsListedCase ts c → AlikeWithin k (k + (greatest (extents_of w (layouts ts))).bytes) b after → CaseHolds w dir ts c b k blocks → CaseHolds w dir ts c after k blocks
    case_holds_locally none c b after k blocks listed alike h = elim c [ ]
    case_holds_locally (more t ts) (inl v) b after k blocks listed alike h =
        let e = extent_of w (layout t) in
        let es = extents_of w (layouts ts) in
        let low = bytes_of_first e es in
        holds_locally t v b after k blocks listed (alike_inside k (k + (greatest (e ∷ es)).bytes) k (k + e.bytes) b after (omega arith) (omega arith) alike) h
    case_holds_locally (more t ts) (inr c) b after k blocks listed alike h =
        let e = extent_of w (layout t) in
        let es = extents_of w (layouts ts) in
        let low = bytes_of_rest e es in
        case_holds_locally ts c b after k blocks listed (alike_inside k (k + (greatest (e ∷ es)).bytes) k (k + (greatest es).bytes) b after (omega arith) (omega arith) alike) h

-- 2. What is lent in a heap is lent in each heap that has its blocks

module _ (given heap : List Block) (kept : (b : Block) → Contains given b → Contains heap b) where
  abbrev Stays : Contents → Contents → Type 0
  Stays one two = (b : Block) (k : ℕ) (blocks : List Block) → one b k blocks → two b k blocks

  abbrev StaysEach : {A : Type 0} → Holder A → Holder A → Type 0
  StaysEach {A} one two = (v : A) → Stays (one v) (two v)

  placed_still : (plain : Bool) (one two : Contents) → Stays one two → (p n size : ℕ) (blocks : List Block) → IsPlaced (lend given) plain p n size one blocks → IsPlaced (lend heap) plain p n size two blocks
  placed_still plain one two stays p zero size blocks h = h
  placed_still plain one two stays p (suc n) size blocks h = record {
    block = h.block;
    offset = h.offset;
    own = h.own;
    inner = h.inner;
    held = record { there = kept h.block h.held.there; starts = h.held.starts; room = h.held.room; none = h.held.none };
    holds = stays h.block h.offset h.inner h.holds;
    all = h.all;
  }

  buffer_still : (plain : Bool) (one two : Contents) → Stays one two → (p n : ℕ) (x : Extent) (blocks : List Block) → IsBuffer (lend given) plain p n x one blocks → IsBuffer (lend heap) plain p n x two blocks
  buffer_still plain one two stays p n x blocks h = record { aligned = h.aligned; bounded = h.bounded; placed = placed_still plain one two stays p n x.bytes blocks h.placed }

  each_still : {A : Type 0} (one two : Holder A) (size : ℕ) → StaysEach one two → (vs : List A) → Stays (EachHolds one size vs) (EachHolds two size vs)
  each_still one two size stays [] b k blocks h = h
  each_still one two size stays (v ∷ vs) b k blocks (f, g, first, rest, e) = (f, g, stays v b k f first, each_still one two size stays vs b (k + size) g rest, e)

  entry_still : {A B : Type 0} (key key' : Holder A) (value value' : Holder B) (distance : ℕ) → StaysEach key key' → StaysEach value value' → StaysEach (EntryHolds key value distance) (EntryHolds key' value' distance)
  entry_still key key' value value' distance keys values x b k blocks (f, g, first, rest, e) = (f, g, keys x.0 b k f first, values x.1 b (k + distance) g rest, e)

  module _ (w : ℕ) where
    points_still : (plain : Bool) (one two : Contents) → Stays one two → (n : ℕ) (x : Extent) → Stays (PointerBytes w (lend given) plain n x one) (PointerBytes w (lend heap) plain n x two)
    points_still plain one two stays n x b k blocks h = record { address = h.address; pointer = h.pointer; counted = h.counted; buffer = buffer_still plain one two stays h.address n x blocks h.buffer }

    mutual
      pub holds_monotone : (t : Shape) (v : Value t) (b : Block) (k : ℕ) (blocks : List Block) → Holds w (lend given) t v b k blocks → Holds w (lend heap) t v b k blocks
      holds_monotone (scalar s) v b k blocks h = h
      holds_monotone text v b k blocks h = points_still true (TextHolds v) (TextHolds v) (λ b k blocks h. h) (length v) text_extent b k blocks h
      holds_monotone (list t) vs b k blocks h =
          points_still (is_plain t) (EachHolds (Holds w (lend given) t) (elem_size w (layout t)) vs) (EachHolds (Holds w (lend heap) t) (elem_size w (layout t)) vs)
          (each_still (Holds w (lend given) t) (Holds w (lend heap) t) (elem_size w (layout t)) (holds_monotone t) vs) (length vs) (extent_of w (layout t)) b k blocks h
      holds_monotone (pairs c x) vs b k blocks h =
          points_still false (EachHolds (EntryHolds (Holds w (lend given) c) (Holds w (lend given) x) (value_place w c x)) (entry_extent w c x).bytes vs) (EachHolds (EntryHolds (Holds w (lend heap) c) (Holds w (lend heap) x) (value_place w c x)) (entry_extent w c x).bytes vs)
          (each_still (EntryHolds (Holds w (lend given) c) (Holds w (lend given) x) (value_place w c x)) (EntryHolds (Holds w (lend heap) c) (Holds w (lend heap) x) (value_place w c x)) (entry_extent w c x).bytes (entry_still (Holds w (lend given) c) (Holds w (lend heap) c) (Holds w (lend given) x) (Holds w (lend heap) x) (value_place w c x) (holds_monotone c) (holds_monotone x)) vs)
          (length vs) (entry_extent w c x) b k blocks h
      holds_monotone (fixed t n) vs b k blocks h = each_still (Holds w (lend given) t) (Holds w (lend heap) t) (elem_size w (layout t)) (holds_monotone t) vs b k blocks h
      holds_monotone (fields ts) v b k blocks h = parts_hold_monotone ts v 0 b k blocks h
      holds_monotone (tuple ts) v b k blocks h = parts_hold_monotone ts v 0 b k blocks h
      holds_monotone (cases ts) v b k blocks h = (h.0, case_holds_monotone ts v b (k + payload_offset w (layout (cases ts))) blocks h.1)
      holds_monotone (flags n) v b k blocks h = h
      holds_monotone (handle owns number) v b k blocks h = h
      holds_monotone (resource number) v b k blocks h = elim h [ ]
      holds_monotone other v b k blocks h = elim h [ ]

      pub parts_hold_monotone : (ts : Shapes) (v : Parts ts) (behind : ℕ) (b : Block) (k : ℕ) (blocks : List Block) → PartsHold w (lend given) ts v behind b k blocks → PartsHold w (lend heap) ts v behind b k blocks
      parts_hold_monotone none v behind b k blocks h = h
      parts_hold_monotone (more t ts) v behind b k blocks (f, g, first, rest, e) =
          let here = place (extent_of w (layout t)) behind in
          (f, g, holds_monotone t v.0 b (k + here) f first, parts_hold_monotone ts v.1 (here + elem_size w (layout t)) b k g rest, e)

      case_holds_monotone : (ts : Shapes) (c : Case ts) (b : Block) (k : ℕ) (blocks : List Block) → CaseHolds w (lend given) ts c b k blocks → CaseHolds w (lend heap) ts c b k blocks
      case_holds_monotone none c b k blocks h = elim c [ ]
      case_holds_monotone (more t ts) (inl v) b k blocks h = holds_monotone t v b k blocks h
      case_holds_monotone (more t ts) (inr c) b k blocks h = case_holds_monotone ts c b k blocks h
