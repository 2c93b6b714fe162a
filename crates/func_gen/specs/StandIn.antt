-- What stands for a value, and owns its blocks, has another in its place that passes as it is: one that owns the same blocks, or one that is lent.
use Rattle.std.proofs.Common.{◌≡◌, ℕ, zero, suc, Bool, true, false, MatchBool, List, [], ◌∷◌, ◌++◌, length, map, Option, None, Some, refl, sym, ap, ap₂, ◌∙◌, subst, arith}
use Rattle.std.specs.Option.{option_map}
use Rattle.std.proofs.lemmas.Bool.{or_from, or_parts}
use mathlib.Core.Logic.{inl, inr}
use Rattle.wit_layout.specs.Extent.{Extent}
use Rattle.wit_layout.specs.Sizes.{elem_size, extent_of}
use Rattle.wrapper_data.specs.declared.block.Block.{Block}
use Rattle.wrapper_data.specs.declared.value.RustValue.{RustValue, RustValue-F, fold-roll-RustValue}
use Rattle.wrapper_data.specs.declared.value.RustValue.TheVariants as value
use Rattle.wrapper_data.specs.declared.value.RustValue.TheVariants.{rolls-Buffer, rolls-Handle}
use Rattle.wrapper_meaning.specs.Buffer.{Contents, IsPlaced}
use Rattle.wrapper_meaning.specs.Direction.{Direction, lend, take}
use Rattle.wrapper_meaning.specs.InMemory.{EachHolds, Holds, TextHolds, text_extent}
use Rattle.wrapper_meaning.specs.Items.{AllIn}
use Rattle.wrapper_meaning.specs.Kinds.{has_handle, has_own_handle, have_handle, is_plain}
use Rattle.wrapper_meaning.specs.Layout.{layout}
use Rattle.wrapper_meaning.specs.Shape.{Shape, Shapes, is_nothing}
use Rattle.wrapper_meaning.specs.Shape.Shape.{scalar, text, list, pairs, fixed, fields, tuple, cases, flags, handle, resource, other}
use Rattle.wrapper_meaning.specs.Shape.Shapes.{none, more}
use Rattle.wrapper_meaning.specs.StandsFor.{CaseStands, EachStands, EntryStands, PartsStand, PayloadStands, Standing, Stands, IsFlag, StandsAsBuffer, rust_scalar}
use Rattle.wrapper_meaning.specs.Value.{Case, Parts, Value, case_number}
use Rattle.wrapper_meaning.proofs.PlainLists.{plain_is_alike}
use Rattle.abi_bindgen.proofs.AllLemmas.{in_left, in_right}
use Rattle.func_gen.specs.Meaning.{IsNormal, StandsAsItIs, passing_level}
use Rattle.func_gen.specs.NormalLemmas.{normal_bits, normal_case, normal_list, normal_map, normal_struct, normal_unit, passing, passing_entry, scalar_normal}

-- 1. From what is taken over to another direction: what becomes of its blocks, and which blocks and handles may be there

module _ (two : Direction) (counts : Bool → Bool) (Fit : List Block → Type 0) (left : List Block → List Block) (parts : (f g : List Block) → Fit (f ++ g) → Fit f × Fit g) (empty : left [] ≡ []) (join : (f g : List Block) → left (f ++ g) ≡ left f ++ left g)
    (buffer : (n : ℕ) (e : Extent) (c d : Contents) (r : RustValue) (own : List Block) → ((b : Block) (k : ℕ) (inner : List Block) → c b k inner → (inner ≡ []) × d b k []) → Fit own → StandsAsBuffer 2 take n e c r own → (q : RustValue) × StandsAsBuffer 2 two n e d q (left own) × IsNormal two q)
    (handled : (n : ℕ) (own : Bool) → counts own ≡ false → IsNormal two (value.Handle n own)) where
  -- something stands in the place of what stands for a value
  abbrev Replaced : {A R : Type 0} → (R → R) → (one another : A → Standing R) → Type 0
  Replaced {A} {R} normal one another = (v : A) (r : R) (own : List Block) → Fit own → one v r own → (q : R) × another v q (left own) × (normal q ≡ q)

  split : (own f g : List Block) → own ≡ f ++ g → Fit own → Fit f × Fit g
  split own f g all fit = parts f g (subst Fit all fit)

  both : (own f g : List Block) → own ≡ f ++ g → left own ≡ left f ++ left g
  both own f g all = ap left all ∙ join f g

  none_left : (own : List Block) → own ≡ [] → left own ≡ []
  none_left own e = ap left e ∙ empty

  each : {A R : Type 0} (normal : R → R) (one another : A → Standing R) → Replaced normal one another → (vs : List A) (rs : List R) (own : List Block) → Fit own → EachStands one vs rs own
      → (qs : List R) × EachStands another vs qs (left own) × (map normal qs ≡ qs)
  each normal one another by [] rs own fit h = ([], (refl, none_left own h.1), refl)
  each normal one another by (v ∷ vs) rs own fit (r, others, f, g, is, h, hs, all) =
      let fits = split own f g all fit in
      let here = by v r f fits.0 h in
      let later = each normal one another by vs others g fits.1 hs in
      (here.0 ∷ later.0, (here.0, later.0, left f, left g, refl, here.1, later.1, both own f g all), ap₂ (λ x xs. x ∷ xs) here.2 later.2)

  entry : {A B : Type 0} (key key2 : A → Standing RustValue) (val val2 : B → Standing RustValue) → Replaced (passing two) key key2 → Replaced (passing two) val val2
      → Replaced (passing_entry two) (EntryStands key val) (EntryStands key2 val2)
  entry key key2 val val2 on_key on_val v r own fit (f, g, hk, hv, all) =
      let fits = split own f g all fit in
      let one = on_key v.0 r.0 f fits.0 hk in
      let other = on_val v.1 r.1 g fits.1 hv in
      ((one.0, other.0), (left f, left g, one.1, other.1, both own f g all), ap₂ (λ x y. (x, y)) one.2 other.2)

  payload : (nothing : Bool) (one another : Standing RustValue) → ((r : RustValue) (own : List Block) → Fit own → one r own → (q : RustValue) × another q (left own) × IsNormal two q) → (held : Option RustValue) (own : List Block) → Fit own
      → PayloadStands nothing one held own → (q : Option RustValue) × PayloadStands nothing another q (left own) × (option_map (passing two) q ≡ q)
  payload true one another by None own fit h = (None, none_left own h, refl)
  payload true one another by (Some r) own fit h = (Some value.Unit, (refl, none_left own h.1), ap (λ q. Some q) (normal_unit two))
  payload false one another by held own fit (r, is, h) =
      let here = by r own fit h in
      (Some here.0, (here.0, refl, here.1), ap (λ q. Some q) here.2)

  buffer_list : (t : Shape) → Replaced (passing two) (Stands 2 take t) (Stands 2 two t) → (plain : Bool) → is_plain t ≡ plain → (vs : List (Value t)) (r : RustValue) (own : List Block) → Fit own
      → MatchBool plain (StandsAsBuffer 2 take (length vs) (extent_of 2 (layout t)) (EachHolds (Holds 2 take t) (elem_size 2 (layout t)) vs) r own) ((rs : List RustValue) × (r ≡ value.Seq rs) × EachStands (Stands 2 take t) vs rs own)
      → (q : RustValue) × MatchBool plain (StandsAsBuffer 2 two (length vs) (extent_of 2 (layout t)) (EachHolds (Holds 2 two t) (elem_size 2 (layout t)) vs) q (left own)) ((rs : List RustValue) × (q ≡ value.Seq rs) × EachStands (Stands 2 two t) vs rs (left own)) × IsNormal two q
  buffer_list t by true p vs r own fit h =
      buffer (length vs) (extent_of 2 (layout t)) (EachHolds (Holds 2 take t) (elem_size 2 (layout t)) vs) (EachHolds (Holds 2 two t) (elem_size 2 (layout t)) vs) r own (λ b k inner held. plain_is_alike 2 take two (fixed t (length vs)) vs b k inner p held) fit h
  buffer_list t by false p vs r own fit (rs, is, h) =
      let others = each (passing two) (Stands 2 take t) (Stands 2 two t) by vs rs own fit h in
      (value.Seq others.0, (others.0, refl, others.1), normal_list two others.0 others.2)

  mutual
    pub replaced : (t : Shape) → has_handle counts t ≡ false → Replaced (passing two) (Stands 2 take t) (Stands 2 two t)
    replaced (scalar s) bare v r own fit h = (rust_scalar s v, (refl, none_left own h.1), scalar_normal two s v)
    replaced text bare v r own fit h = buffer (length v) text_extent (TextHolds v) (TextHolds v) r own (λ b k inner held. (held.1, (held.0, refl))) fit h
    replaced (list t) bare vs r own fit h = buffer_list t (replaced t bare) (is_plain t) refl vs r own fit h
    replaced (pairs k x) bare vs r own fit (rs, is, h) =
        let no_handle = or_parts (has_handle counts k) (has_handle counts x) bare in
        let others = each (passing_entry two) (EntryStands (Stands 2 take k) (Stands 2 take x)) (EntryStands (Stands 2 two k) (Stands 2 two x))
        (entry (Stands 2 take k) (Stands 2 two k) (Stands 2 take x) (Stands 2 two x) (replaced k no_handle.0) (replaced x no_handle.1)) vs rs own fit h in
        (value.Map others.0, (others.0, refl, others.1), normal_map two others.0 others.2)
    replaced (fixed t n) bare vs r own fit (rs, is, h) =
        let others = each (passing two) (Stands 2 take t) (Stands 2 two t) (replaced t bare) vs rs own fit h in
        (value.Struct others.0, (others.0, refl, others.1), normal_struct two others.0 others.2)
    replaced (fields ts) bare v r own fit (rs, is, h) =
        let others = replaced_parts ts bare v rs own fit h in
        (value.Struct others.0, (others.0, refl, others.1), normal_struct two others.0 others.2)
    replaced (tuple ts) bare v r own fit (rs, is, h) =
        let others = replaced_parts ts bare v rs own fit h in
        (value.Struct others.0, (others.0, refl, others.1), normal_struct two others.0 others.2)
    replaced (cases ts) bare v r own fit (held, is, h) =
        let here = replaced_case ts bare v held own fit h in
        (value.Case (case_number ts v) here.0, (here.0, refl, here.1), normal_case two (case_number ts v) here.0 here.2)
    replaced (flags n) bare v r own fit (bits, small, is, same, alone) = (value.Bits bits, (bits, small, refl, same, none_left own alone), normal_bits two bits)
    replaced (handle owns number) bare v r own fit h = (value.Handle v owns, (refl, none_left own h.1), handled v owns bare)
    replaced (resource number) bare v r own fit h = elim h [ ]
    replaced other bare v r own fit h = elim h [ ]

    replaced_parts : (ts : Shapes) → have_handle counts ts ≡ false → (v : Parts ts) (rs : List RustValue) (own : List Block) → Fit own → PartsStand 2 take ts v rs own
        → (qs : List RustValue) × PartsStand 2 two ts v qs (left own) × (map (passing two) qs ≡ qs)
    replaced_parts none bare v rs own fit h = ([], (refl, none_left own h.1), refl)
    replaced_parts (more t ts) bare v rs own fit (r, others, f, g, is, h, hs, all) =
        let no_handle = or_parts (has_handle counts t) (have_handle counts ts) bare in
        let fits = split own f g all fit in
        let here = replaced t no_handle.0 v.0 r f fits.0 h in
        let later = replaced_parts ts no_handle.1 v.1 others g fits.1 hs in
        (here.0 ∷ later.0, (here.0, later.0, left f, left g, refl, here.1, later.1, both own f g all), ap₂ (λ x xs. x ∷ xs) here.2 later.2)

    replaced_case : (ts : Shapes) → have_handle counts ts ≡ false → (c : Case ts) (held : Option RustValue) (own : List Block) → Fit own → CaseStands 2 take ts c held own
        → (q : Option RustValue) × CaseStands 2 two ts c q (left own) × (option_map (passing two) q ≡ q)
    replaced_case none bare c held own fit h = elim c [ ]
    replaced_case (more t ts) bare (inl v) held own fit h =
        payload (is_nothing t) (Stands 2 take t v) (Stands 2 two t v) (replaced t (or_parts (has_handle counts t) (have_handle counts ts) bare).0 v) held own fit h
    replaced_case (more t ts) bare (inr c) held own fit h = replaced_case ts (or_parts (has_handle counts t) (have_handle counts ts) bare).1 c held own fit h

-- 2. The code's own item

mutual
  no_count : (t : Shape) → has_handle (λ owns. false) t ≡ false
  no_count (scalar s) = refl
  no_count text = refl
  no_count (list t) = no_count t
  no_count (pairs k x) = or_from (has_handle (λ owns. false) k) (has_handle (λ owns. false) x) (no_count k) (no_count x)
  no_count (fixed t n) = no_count t
  no_count (fields ts) = no_counts ts
  no_count (tuple ts) = no_counts ts
  no_count (cases ts) = no_counts ts
  no_count (flags n) = refl
  no_count (handle owns number) = refl
  no_count (resource number) = refl
  no_count other = refl

  no_counts : (ts : Shapes) → have_handle (λ owns. false) ts ≡ false
  no_counts none = refl
  no_counts (more t ts) = or_from (has_handle (λ owns. false) t) (have_handle (λ owns. false) ts) (no_count t) (no_counts ts)

normal_handle : (n : ℕ) (own : Bool) → IsNormal take (value.Handle n own)
normal_handle n own = ap (passing take) (sym (rolls-Handle n own)) ∙ fold-roll-RustValue RustValue (passing_level take) (RustValue-F.Handle n own)

-- an owner's buffer has the flag that says so, also where it is empty
owning : (n : ℕ) (e : Extent) (c d : Contents) (r : RustValue) (own : List Block) → ((b : Block) (k : ℕ) (inner : List Block) → c b k inner → (inner ≡ []) × d b k []) → Unit {0} → StandsAsBuffer 2 take n e c r own
    → (q : RustValue) × StandsAsBuffer 2 take n e d q own × IsNormal take q
owning n e c d r own alike fit h = (
  value.Buffer h.address n true,
  record { address = h.address; nonzero = h.nonzero; range = h.range; owned = true; flag = flag n; is = refl; buffer = record { aligned = h.buffer.aligned; bounded = h.buffer.bounded; placed = placed n h.buffer.placed } },
  ap (passing take) (sym (rolls-Buffer h.address n true)) ∙ fold-roll-RustValue RustValue (passing_level take) (RustValue-F.Buffer h.address n true),
)
  where
    flag : (k : ℕ) → IsFlag take k true
    flag zero = tt
    flag (suc k) = refl

    placed : (k : ℕ) → IsPlaced take true h.address k e.bytes c own → IsPlaced take true h.address k e.bytes d own
    placed zero p = p
    placed (suc k) p =
        let there = alike p.block p.offset p.inner p.holds in
        record { block = p.block; offset = p.offset; own = p.own; inner = []; held = p.held; holds = there.1; all = p.all ∙ ap (λ xs. p.own ++ xs) there.0 }

-- as an item of the code's own side
pub owned_item : (t : Shape) (v : Value t) (r : RustValue) (own : List Block) → Stands 2 take t v r own → (q : RustValue) × StandsAsItIs take t v q own
owned_item t v r own h =
    let (q, stands, normal) = replaced take (λ owns. false) (λ blocks. Unit {0}) (λ blocks. blocks) (λ f g fit. (tt, tt)) refl (λ f g. refl) owning (λ n own bare. normal_handle n own) t (no_count t) v r own tt h in
    (q, (stands, normal))

-- 3. What is lent

-- behind a reference a buffer owns nothing, and its block lies in the heap
lending : (heap : List Block) (n : ℕ) (e : Extent) (c d : Contents) (r : RustValue) (own : List Block) → ((b : Block) (k : ℕ) (inner : List Block) → c b k inner → (inner ≡ []) × d b k []) → AllIn heap own → StandsAsBuffer 2 take n e c r own
    → (q : RustValue) × StandsAsBuffer 2 (lend heap) n e d q [] × IsNormal (lend heap) q
lending heap n e c d r own alike fit h = (
  value.Buffer h.address n false,
  record { address = h.address; nonzero = h.nonzero; range = h.range; owned = false; flag = refl; is = refl; buffer = record { aligned = h.buffer.aligned; bounded = h.buffer.bounded; placed = placed n h.buffer.placed } },
  ap (passing (lend heap)) (sym (rolls-Buffer h.address n false)) ∙ fold-roll-RustValue RustValue (passing_level (lend heap)) (RustValue-F.Buffer h.address n false),
)
  where
    placed : (k : ℕ) → IsPlaced take true h.address k e.bytes c own → IsPlaced (lend heap) true h.address k e.bytes d []
    placed zero p = (tt, refl)
    placed (suc k) p =
        let there = alike p.block p.offset p.inner p.holds in
        let is : own ≡ p.block ∷ [] = p.all ∙ ap₂ (λ x y. x ++ y) p.held.itself there.0 in
        record {
          block = p.block;
          offset = p.offset;
          own = [];
          inner = [];
          held = record { there = (subst (AllIn heap) is fit).0; starts = omega (p.held.starts, p.held.whole, arith); room = omega (p.held.exact, p.held.whole, arith); none = refl };
          holds = there.1;
          all = refl;
        }

lent_handle : (heap : List Block) (n : ℕ) (own : Bool) → own ≡ false → IsNormal (lend heap) (value.Handle n own)
lent_handle heap n own bare = ap (passing (lend heap)) (sym (rolls-Handle n own)) ∙ fold-roll-RustValue RustValue (passing_level (lend heap)) (RustValue-F.Handle n own) ∙ ap (value.Handle n) (sym bare)

pub lent_item : (heap : List Block) (t : Shape) (v : Value t) (r : RustValue) (own : List Block) → has_own_handle t ≡ false → AllIn heap own → Stands 2 take t v r own → (q : RustValue) × StandsAsItIs (lend heap) t v q []
lent_item heap t v r own bare fit h =
    let (q, stands, normal) = replaced (lend heap) (λ owns. owns) (AllIn heap) (λ blocks. []) (λ f g fit. (in_left heap f g fit, in_right heap f g fit)) refl (λ f g. refl) (lending heap) (lent_handle heap) t bare v r own fit h in
    (q, (stands, normal))
