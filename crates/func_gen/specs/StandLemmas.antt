-- What stands for a value: what it owns, that lent things have no blocks, and that what is taken over may be given on.
use Rattle.std.proofs.Common.{◌≡◌, ℕ, zero, suc, ◌<◌, Bool, true, false, MatchBool, List, [], ◌∷◌, ◌++◌, length, Option, None, Some, refl, sym, ap, ap₂, ◌∙◌, subst, append-nil}
use mathlib.Core.Logic.{inl, inr}
use Rattle.wit_model.specs.declared.types.WitType.TheVariants as wit
use Rattle.wit_layout.specs.Extent.{Extent}
use Rattle.wit_layout.specs.Sizes.{elem_size, extent_of}
use Rattle.wrapper_data.specs.declared.block.Block.{Block}
use Rattle.wrapper_data.specs.declared.value.RustValue.{RustValue, RustValue-F, fold-roll-RustValue}
use Rattle.wrapper_data.specs.declared.value.RustValue.TheVariants as value
use Rattle.wrapper_data.specs.declared.value.RustValue.TheVariants.{rolls-Bits, rolls-Buffer, rolls-Case, rolls-Handle, rolls-Map, rolls-Seq, rolls-Struct, rolls-Unit}
use Rattle.wrapper_meaning.specs.Buffer.{Contents, IsPlaced}
use Rattle.wrapper_meaning.specs.Direction.{Direction, give, lend, take}
use Rattle.wrapper_meaning.specs.InMemory.{EachHolds, Holds, TextHolds, text_extent}
use Rattle.wrapper_meaning.specs.Kinds.{is_plain}
use Rattle.wrapper_meaning.specs.Layout.{layout}
use Rattle.wrapper_meaning.specs.Shape.{Shape, Shapes, is_nothing}
use Rattle.wrapper_meaning.specs.Shape.Shape.{scalar, text, list, pairs, fixed, fields, tuple, cases, flags, handle, resource, other}
use Rattle.wrapper_meaning.specs.Shape.Shapes.{none, more}
use Rattle.wrapper_meaning.specs.StandsFor.{CaseStands, EachStands, EntryStands, IsFlag, PartsStand, PayloadStands, Standing, Stands, StandsAsBuffer}
use Rattle.wrapper_meaning.specs.Value.{Case, Parts, Value, case_number}
use Rattle.wrapper_meaning.proofs.PlainLists.{plain_is_alike}
use Rattle.wit_layout.specs.Tree.{Scalar}
use Rattle.wrapper_meaning.specs.StandsFor.{rust_scalar}
use Rattle.wrapper_meaning.specs.Value.{ScalarValue}
use Rattle.wrapper_run.proofs.OwningLemmas.{owned-bool, owned-char, owned-f32, owned-f64, owned-number}
use Rattle.wrapper_values.specs.declared.state.Val.TheVariants as val
use Rattle.wrapper_values.specs.Owning.{owned, owned_by, owned_level, taken_by, taken_by_entries}
use Rattle.abi_bindgen.specs.Account.{addresses}
use Rattle.abi_bindgen.proofs.Runs.{addresses_both}

-- 1. What values own

pub scalar_owns : (s : Scalar) (v : ScalarValue s) → owned (val.Value (rust_scalar s v)) ≡ []
scalar_owns Scalar.bool v = owned-bool v
scalar_owns Scalar.u8 v = owned-number wit.U8 v
scalar_owns Scalar.u16 v = owned-number wit.U16 v
scalar_owns Scalar.u32 v = owned-number wit.U32 v
scalar_owns Scalar.u64 v = owned-number wit.U64 v
scalar_owns Scalar.s8 v = owned-number wit.S8 v
scalar_owns Scalar.s16 v = owned-number wit.S16 v
scalar_owns Scalar.s32 v = owned-number wit.S32 v
scalar_owns Scalar.s64 v = owned-number wit.S64 v
scalar_owns Scalar.f32 v = owned-f32 v
scalar_owns Scalar.f64 v = owned-f64 v
scalar_owns Scalar.char v = owned-char v
scalar_owns Scalar.handle v = elim v [ ]

owned-buffer : (a n : ℕ) (o : Bool) → owned_by (value.Buffer a n o) ≡ owned_level (RustValue-F.Buffer a n o)
owned-buffer a n o = ap owned_by (sym (rolls-Buffer a n o)) ∙ fold-roll-RustValue (List ℕ) owned_level (RustValue-F.Buffer a n o)

owned-seq : (rs : List RustValue) → owned_by (value.Seq rs) ≡ taken_by rs
owned-seq rs = ap owned_by (sym (rolls-Seq rs)) ∙ fold-roll-RustValue (List ℕ) owned_level (RustValue-F.Seq rs)

pub owned-struct : (rs : List RustValue) → owned_by (value.Struct rs) ≡ taken_by rs
owned-struct rs = ap owned_by (sym (rolls-Struct rs)) ∙ fold-roll-RustValue (List ℕ) owned_level (RustValue-F.Struct rs)

owned-map : (rs : List (RustValue × RustValue)) → owned_by (value.Map rs) ≡ taken_by_entries rs
owned-map rs = ap owned_by (sym (rolls-Map rs)) ∙ fold-roll-RustValue (List ℕ) owned_level (RustValue-F.Map rs)

pub owned-none : (n : ℕ) → owned_by (value.Case n None) ≡ []
owned-none n = ap owned_by (sym (rolls-Case n None)) ∙ fold-roll-RustValue (List ℕ) owned_level (RustValue-F.Case n None)

pub owned-some : (n : ℕ) (r : RustValue) → owned_by (value.Case n (Some r)) ≡ taken_by (r ∷ [])
owned-some n r = ap owned_by (sym (rolls-Case n (Some r))) ∙ fold-roll-RustValue (List ℕ) owned_level (RustValue-F.Case n (Some r))

pub owned-bits : (n : ℕ) → owned_by (value.Bits n) ≡ []
owned-bits n = ap owned_by (sym (rolls-Bits n)) ∙ fold-roll-RustValue (List ℕ) owned_level (RustValue-F.Bits n)

owned-handle : (n : ℕ) (o : Bool) → owned_by (value.Handle n o) ≡ []
owned-handle n o = ap owned_by (sym (rolls-Handle n o)) ∙ fold-roll-RustValue (List ℕ) owned_level (RustValue-F.Handle n o)

pub owned-unit : owned_by value.Unit ≡ []
owned-unit = ap owned_by (sym rolls-Unit) ∙ fold-roll-RustValue (List ℕ) owned_level RustValue-F.Unit

-- 2. Contents without blocks of their own

abbrev Bare : Contents → Type 0
Bare inside = (b : Block) (k : ℕ) (blocks : List Block) → inside b k blocks → blocks ≡ []

text_bare : (bytes : List ℕ) → Bare (TextHolds bytes)
text_bare bytes b k blocks h = h.1

-- of a list that lies in memory as it is
list_bare : (dir : Direction) (t : Shape) (vs : List (Value t)) → is_plain t ≡ true → Bare (EachHolds (Holds 2 dir t) (elem_size 2 (layout t)) vs)
list_bare dir t vs p b k blocks h = (plain_is_alike 2 dir dir (fixed t (length vs)) vs b k blocks p h).0

list_alike : (dir another : Direction) (t : Shape) (vs : List (Value t)) → is_plain t ≡ true → (b : Block) (k : ℕ) (blocks : List Block)
    → EachHolds (Holds 2 dir t) (elem_size 2 (layout t)) vs b k blocks → EachHolds (Holds 2 another t) (elem_size 2 (layout t)) vs b k blocks
list_alike dir another t vs p b k blocks h =
    let alike = plain_is_alike 2 dir another (fixed t (length vs)) vs b k blocks p h in
    subst (EachHolds (Holds 2 another t) (elem_size 2 (layout t)) vs b k) (sym alike.0) alike.1

-- 3. A relation to the blocks that passes from buffers to all values

-- which R is kept where things stand after one another
module _ (dir : Direction) (R : List ℕ → List Block → Type 0) (empty : R [] []) (join : (xs ys : List ℕ) (bs cs : List Block) → R xs bs → R ys cs → R (xs ++ ys) (bs ++ cs))
    (buffer : (n : ℕ) (e : Extent) (inside : Contents) (r : RustValue) (blocks : List Block) → Bare inside → StandsAsBuffer 2 dir n e inside r blocks → R (owned_by r) blocks) where
  abbrev Kept : {A : Type 0} → (A → Standing RustValue) → Type 0
  Kept {A} stands = (v : A) (r : RustValue) (blocks : List Block) → stands v r blocks → R (owned_by r) blocks

  nothing : (xs : List ℕ) (blocks : List Block) → xs ≡ [] → blocks ≡ [] → R xs blocks
  nothing xs blocks e f = subst (λ zs. R zs blocks) (sym e) (subst (R []) (sym f) empty)

  each_kept : {A : Type 0} (stands : A → Standing RustValue) → Kept stands → (vs : List A) (rs : List RustValue) (blocks : List Block) → EachStands stands vs rs blocks → R (taken_by rs) blocks
  each_kept stands kept [] rs blocks h = nothing (taken_by rs) blocks (ap taken_by h.0) h.1
  each_kept stands kept (v ∷ vs) rs blocks (r, others, first, rest, is, h, hs, all) =
      subst (λ xs. R (taken_by xs) blocks) (sym is) (subst (R (taken_by (r ∷ others))) (sym all) (join (owned_by r) (taken_by others) first rest (kept v r first h) (each_kept stands kept vs others rest hs)))

  entries_kept : {A B : Type 0} (key : A → Standing RustValue) (val : B → Standing RustValue) → Kept key → Kept val → (vs : List (A × B)) (rs : List (RustValue × RustValue)) (blocks : List Block)
      → EachStands (EntryStands key val) vs rs blocks → R (taken_by_entries rs) blocks
  entries_kept key val kept_key kept_val [] rs blocks h = nothing (taken_by_entries rs) blocks (ap taken_by_entries h.0) h.1
  entries_kept key val kept_key kept_val (v ∷ vs) rs blocks (r, others, first, rest, is, (one, two, hk, hv, split), hs, all) =
      let here = subst (R (owned_by r.0 ++ owned_by r.1)) (sym split) (join (owned_by r.0) (owned_by r.1) one two (kept_key v.0 r.0 one hk) (kept_val v.1 r.1 two hv)) in
      subst (λ xs. R (taken_by_entries xs) blocks) (sym is)
      (subst (R (taken_by_entries (r ∷ others))) (sym all) (join (owned_by r.0 ++ owned_by r.1) (taken_by_entries others) first rest here (entries_kept key val kept_key kept_val vs others rest hs)))

  as_owned : (r : RustValue) (xs : List ℕ) (blocks : List Block) → owned_by r ≡ xs → R xs blocks → R (owned_by r) blocks
  as_owned r xs blocks e h = subst (λ zs. R zs blocks) (sym e) h

  as_value : (r q : RustValue) (blocks : List Block) → r ≡ q → R (owned_by q) blocks → R (owned_by r) blocks
  as_value r q blocks e h = subst (λ z. R (owned_by z) blocks) (sym e) h

  payload_kept : (n : ℕ) (empty_case : Bool) (stands : Standing RustValue) → ((r : RustValue) (blocks : List Block) → stands r blocks → R (owned_by r) blocks) → (payload : Option RustValue) (blocks : List Block)
      → PayloadStands empty_case stands payload blocks → R (owned_by (value.Case n payload)) blocks
  payload_kept n true stands kept None blocks h = nothing (owned_by (value.Case n None)) blocks (owned-none n) h
  payload_kept n true stands kept (Some r) blocks h = nothing (owned_by (value.Case n (Some r))) blocks (owned-some n r ∙ ap (λ q. taken_by (q ∷ [])) h.0 ∙ ap (λ xs. xs ++ []) owned-unit) h.1
  payload_kept n false stands kept payload blocks (r, is, h) =
      let one : R (taken_by (r ∷ [])) blocks = subst (R (taken_by (r ∷ []))) (append-nil blocks) (join (owned_by r) [] blocks [] (kept r blocks h) empty) in
      subst (λ p. R (owned_by (value.Case n p)) blocks) (sym is) (as_owned (value.Case n (Some r)) (taken_by (r ∷ [])) blocks (owned-some n r) one)

  list_kept : (t : Shape) → Kept (Stands 2 dir t) → (plain : Bool) → is_plain t ≡ plain → (vs : List (Value t)) (r : RustValue) (blocks : List Block)
      → MatchBool plain (StandsAsBuffer 2 dir (length vs) (extent_of 2 (layout t)) (EachHolds (Holds 2 dir t) (elem_size 2 (layout t)) vs) r blocks) ((rs : List RustValue) × (r ≡ value.Seq rs) × EachStands (Stands 2 dir t) vs rs blocks)
      → R (owned_by r) blocks
  list_kept t kept true p vs r blocks h = buffer (length vs) (extent_of 2 (layout t)) (EachHolds (Holds 2 dir t) (elem_size 2 (layout t)) vs) r blocks (list_bare dir t vs p) h
  list_kept t kept false p vs r blocks (rs, is, h) = as_value r (value.Seq rs) blocks is (as_owned (value.Seq rs) (taken_by rs) blocks (owned-seq rs) (each_kept (Stands 2 dir t) kept vs rs blocks h))

  mutual
    pub kept_on : (t : Shape) → Kept (Stands 2 dir t)
    kept_on (scalar s) v r blocks h = nothing (owned_by r) blocks (ap owned_by h.0 ∙ scalar_owns s v) h.1
    kept_on text v r blocks h = buffer (length v) text_extent (TextHolds v) r blocks (text_bare v) h
    kept_on (list t) vs r blocks h = list_kept t (kept_on t) (is_plain t) refl vs r blocks h
    kept_on (pairs k x) vs r blocks (rs, is, h) = as_value r (value.Map rs) blocks is (as_owned (value.Map rs) (taken_by_entries rs) blocks (owned-map rs) (entries_kept (Stands 2 dir k) (Stands 2 dir x) (kept_on k) (kept_on x) vs rs blocks h))
    kept_on (fixed t n) vs r blocks (rs, is, h) = as_value r (value.Struct rs) blocks is (as_owned (value.Struct rs) (taken_by rs) blocks (owned-struct rs) (each_kept (Stands 2 dir t) (kept_on t) vs rs blocks h))
    kept_on (fields ts) v r blocks (rs, is, h) = as_value r (value.Struct rs) blocks is (as_owned (value.Struct rs) (taken_by rs) blocks (owned-struct rs) (parts_kept ts v rs blocks h))
    kept_on (tuple ts) v r blocks (rs, is, h) = as_value r (value.Struct rs) blocks is (as_owned (value.Struct rs) (taken_by rs) blocks (owned-struct rs) (parts_kept ts v rs blocks h))
    kept_on (cases ts) v r blocks (payload, is, h) = as_value r (value.Case (case_number ts v) payload) blocks is (case_kept (case_number ts v) ts v payload blocks h)
    kept_on (flags n) v r blocks (bits, small, is, same, alone) = nothing (owned_by r) blocks (ap owned_by is ∙ owned-bits bits) alone
    kept_on (handle own number) v r blocks h = nothing (owned_by r) blocks (ap owned_by h.0 ∙ owned-handle v own) h.1
    kept_on (resource number) v r blocks h = elim h [ ]
    kept_on other v r blocks h = elim h [ ]

    parts_kept : (ts : Shapes) (v : Parts ts) (rs : List RustValue) (blocks : List Block) → PartsStand 2 dir ts v rs blocks → R (taken_by rs) blocks
    parts_kept none v rs blocks h = nothing (taken_by rs) blocks (ap taken_by h.0) h.1
    parts_kept (more t ts) v rs blocks (r, others, first, rest, is, h, hs, all) =
        subst (λ xs. R (taken_by xs) blocks) (sym is) (subst (R (taken_by (r ∷ others))) (sym all) (join (owned_by r) (taken_by others) first rest (kept_on t v.0 r first h) (parts_kept ts v.1 others rest hs)))

    case_kept : (n : ℕ) (ts : Shapes) (c : Case ts) (payload : Option RustValue) (blocks : List Block) → CaseStands 2 dir ts c payload blocks → R (owned_by (value.Case n payload)) blocks
    case_kept n none c payload blocks h = elim c [ ]
    case_kept n (more t ts) (inl v) payload blocks h = payload_kept n (is_nothing t) (Stands 2 dir t v) (kept_on t v) payload blocks h
    case_kept n (more t ts) (inr c) payload blocks h = case_kept n ts c payload blocks h

-- 4. What was taken over owns its blocks, and what is lent has none, and owns none

taken_buffer : (n : ℕ) (e : Extent) (inside : Contents) (r : RustValue) (blocks : List Block) → Bare inside → StandsAsBuffer 2 take n e inside r blocks → owned_by r ≡ addresses blocks
taken_buffer zero e inside r blocks bare h = ap owned_by h.is ∙ owned-buffer h.address 0 h.owned ∙ no_entries h.address h.owned ∙ ap addresses (sym h.buffer.placed.1)
  where
    no_entries : (a : ℕ) (o : Bool) → owned_level (RustValue-F.Buffer a 0 o) ≡ []
    no_entries a true = refl
    no_entries a false = refl
taken_buffer (suc n) e inside r blocks bare h =
    let p = h.buffer.placed in
    let own = p.all ∙ ap₂ (λ x y. x ++ y) p.held.itself (bare p.block p.offset p.inner p.holds) in
    ap owned_by h.is ∙ owned-buffer h.address (suc n) h.owned ∙ ap (λ o. owned_level (RustValue-F.Buffer h.address (suc n) o)) h.flag ∙ ap (λ a. a ∷ []) (sym p.held.starts) ∙ ap addresses (sym own)

pub taken_owns : (t : Shape) (v : Value t) (r : RustValue) (blocks : List Block) → Stands 2 take t v r blocks → owned_by r ≡ addresses blocks
taken_owns = kept_on take (λ xs blocks. xs ≡ addresses blocks) refl (λ xs ys bs cs e f. ap₂ (λ x y. x ++ y) e f ∙ sym (addresses_both bs cs)) taken_buffer

-- nothing, with no blocks
abbrev Neither : List ℕ → List Block → Type 0
Neither xs blocks = (xs ≡ []) × (blocks ≡ [])

lent_buffer : (heap : List Block) (n : ℕ) (e : Extent) (inside : Contents) (r : RustValue) (blocks : List Block) → Bare inside → StandsAsBuffer 2 (lend heap) n e inside r blocks → Neither (owned_by r) blocks
lent_buffer heap n e inside r blocks bare h = (ap owned_by h.is ∙ owned-buffer h.address n h.owned ∙ ap (λ o. owned_level (RustValue-F.Buffer h.address n o)) h.flag ∙ not_owned h.address n, alone n h.buffer.placed)
  where
    not_owned : (a k : ℕ) → owned_level (RustValue-F.Buffer a k false) ≡ []
    not_owned a zero = refl
    not_owned a (suc k) = refl

    alone : (k : ℕ) → IsPlaced (lend heap) true h.address k e.bytes inside blocks → blocks ≡ []
    alone zero p = p.1
    alone (suc k) p = p.all ∙ ap₂ (λ x y. x ++ y) p.held.none (bare p.block p.offset p.inner p.holds)

pub lent_alone : (heap : List Block) (t : Shape) (v : Value t) (r : RustValue) (blocks : List Block) → Stands 2 (lend heap) t v r blocks → (owned_by r ≡ []) × (blocks ≡ [])
lent_alone heap = kept_on (lend heap) Neither (refl, refl) (λ xs ys bs cs e f. (ap₂ (λ x y. x ++ y) e.0 f.0, ap₂ (λ x y. x ++ y) e.1 f.1)) (lent_buffer heap)

-- 5. From one direction to another

module _ (one two : Direction) (turn : (address n size : ℕ) (c d : Contents) (o : Bool) (blocks : List Block) → 0 < address → ((b : Block) (k : ℕ) (inner : List Block) → c b k inner → d b k inner)
    → IsFlag one n o → IsPlaced one true address n size c blocks → IsFlag two n o × IsPlaced two true address n size d blocks) where
  abbrev Turned : {A R : Type 0} → (stands otherwise : A → Standing R) → Type 0
  Turned {A} {R} stands otherwise = (v : A) (r : R) (blocks : List Block) → stands v r blocks → otherwise v r blocks

  turned_buffer : (n : ℕ) (e : Extent) (c d : Contents) (r : RustValue) (blocks : List Block) → ((b : Block) (k : ℕ) (inner : List Block) → c b k inner → d b k inner) → StandsAsBuffer 2 one n e c r blocks → StandsAsBuffer 2 two n e d r blocks
  turned_buffer n e c d r blocks alike h =
      let t = turn h.address n e.bytes c d h.owned blocks h.nonzero alike h.flag h.buffer.placed in
      record { address = h.address; nonzero = h.nonzero; range = h.range; owned = h.owned; flag = t.0; is = h.is; buffer = record { aligned = h.buffer.aligned; bounded = h.buffer.bounded; placed = t.1 } }

  each_turned : {A R : Type 0} (stands otherwise : A → Standing R) → Turned stands otherwise → (vs : List A) (rs : List R) (blocks : List Block) → EachStands stands vs rs blocks → EachStands otherwise vs rs blocks
  each_turned stands otherwise t [] rs blocks h = h
  each_turned stands otherwise t (v ∷ vs) rs blocks (r, others, first, rest, is, h, hs, all) = (r, others, first, rest, is, t v r first h, each_turned stands otherwise t vs others rest hs, all)

  payload_turned : (empty_case : Bool) (stands otherwise : Standing RustValue) → ((r : RustValue) (blocks : List Block) → stands r blocks → otherwise r blocks) → (payload : Option RustValue) (blocks : List Block)
      → PayloadStands empty_case stands payload blocks → PayloadStands empty_case otherwise payload blocks
  payload_turned true stands otherwise t None blocks h = h
  payload_turned true stands otherwise t (Some r) blocks h = h
  payload_turned false stands otherwise t payload blocks (r, is, h) = (r, is, t r blocks h)

  list_turned : (t : Shape) → Turned (Stands 2 one t) (Stands 2 two t) → (plain : Bool) → is_plain t ≡ plain → (vs : List (Value t)) (r : RustValue) (blocks : List Block)
      → MatchBool plain (StandsAsBuffer 2 one (length vs) (extent_of 2 (layout t)) (EachHolds (Holds 2 one t) (elem_size 2 (layout t)) vs) r blocks) ((rs : List RustValue) × (r ≡ value.Seq rs) × EachStands (Stands 2 one t) vs rs blocks)
      → MatchBool plain (StandsAsBuffer 2 two (length vs) (extent_of 2 (layout t)) (EachHolds (Holds 2 two t) (elem_size 2 (layout t)) vs) r blocks) ((rs : List RustValue) × (r ≡ value.Seq rs) × EachStands (Stands 2 two t) vs rs blocks)
  list_turned t on true p vs r blocks h = turned_buffer (length vs) (extent_of 2 (layout t)) _ _ r blocks (λ b k inner x. list_alike one two t vs p b k inner x) h
  list_turned t on false p vs r blocks (rs, is, h) = (rs, is, each_turned (Stands 2 one t) (Stands 2 two t) on vs rs blocks h)

  mutual
    pub turned_on : (t : Shape) → Turned (Stands 2 one t) (Stands 2 two t)
    turned_on (scalar s) v r blocks h = h
    turned_on text v r blocks h = turned_buffer (length v) text_extent (TextHolds v) (TextHolds v) r blocks (λ b k inner x. x) h
    turned_on (list t) vs r blocks h = list_turned t (turned_on t) (is_plain t) refl vs r blocks h
    turned_on (pairs k x) vs r blocks (rs, is, h) =
        (rs, is, each_turned (EntryStands (Stands 2 one k) (Stands 2 one x)) (EntryStands (Stands 2 two k) (Stands 2 two x)) (λ v e bs (f, g, hk, hv, all). (f, g, turned_on k v.0 e.0 f hk, turned_on x v.1 e.1 g hv, all)) vs rs blocks h)
    turned_on (fixed t n) vs r blocks (rs, is, h) = (rs, is, each_turned (Stands 2 one t) (Stands 2 two t) (turned_on t) vs rs blocks h)
    turned_on (fields ts) v r blocks (rs, is, h) = (rs, is, parts_turned ts v rs blocks h)
    turned_on (tuple ts) v r blocks (rs, is, h) = (rs, is, parts_turned ts v rs blocks h)
    turned_on (cases ts) v r blocks (payload, is, h) = (payload, is, case_turned ts v payload blocks h)
    turned_on (flags n) v r blocks h = h
    turned_on (handle own number) v r blocks h = h
    turned_on (resource number) v r blocks h = h
    turned_on other v r blocks h = h

    parts_turned : (ts : Shapes) (v : Parts ts) (rs : List RustValue) (blocks : List Block) → PartsStand 2 one ts v rs blocks → PartsStand 2 two ts v rs blocks
    parts_turned none v rs blocks h = h
    parts_turned (more t ts) v rs blocks (r, others, first, rest, is, h, hs, all) = (r, others, first, rest, is, turned_on t v.0 r first h, parts_turned ts v.1 others rest hs, all)

    case_turned : (ts : Shapes) (c : Case ts) (payload : Option RustValue) (blocks : List Block) → CaseStands 2 one ts c payload blocks → CaseStands 2 two ts c payload blocks
    case_turned none c payload blocks h = h
    case_turned (more t ts) (inl v) payload blocks h = payload_turned (is_nothing t) (Stands 2 one t v) (Stands 2 two t v) (turned_on t v) payload blocks h
    case_turned (more t ts) (inr c) payload blocks h = case_turned ts c payload blocks h

give_place : (address n size : ℕ) (c d : Contents) (o : Bool) (blocks : List Block) → 0 < address → ((b : Block) (k : ℕ) (inner : List Block) → c b k inner → d b k inner)
    → IsFlag take n o → IsPlaced take true address n size c blocks → IsFlag give n o × IsPlaced give true address n size d blocks
give_place address zero size c d o blocks l alike f h = (tt, (tt, h.1))
give_place address (suc n) size c d o blocks l alike f h = (f, record { block = h.block; offset = h.offset; own = h.own; inner = h.inner; held = h.held; holds = alike h.block h.offset h.inner h.holds; all = h.all })

take_place : (address n size : ℕ) (c d : Contents) (o : Bool) (blocks : List Block) → 0 < address → ((b : Block) (k : ℕ) (inner : List Block) → c b k inner → d b k inner)
    → IsFlag give n o → IsPlaced give true address n size c blocks → IsFlag take n o × IsPlaced take true address n size d blocks
take_place address zero size c d o blocks l alike f h = (tt, (l, h.1))
take_place address (suc n) size c d o blocks l alike f h = (f, record { block = h.block; offset = h.offset; own = h.own; inner = h.inner; held = h.held; holds = alike h.block h.offset h.inner h.holds; all = h.all })

pub given_on : (t : Shape) (v : Value t) (r : RustValue) (blocks : List Block) → Stands 2 take t v r blocks → Stands 2 give t v r blocks
given_on = turned_on take give give_place

pub taken_on : (t : Shape) (v : Value t) (r : RustValue) (blocks : List Block) → Stands 2 give t v r blocks → Stands 2 take t v r blocks
taken_on = turned_on give take take_place
