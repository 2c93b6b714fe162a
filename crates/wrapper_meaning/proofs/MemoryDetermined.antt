-- Bytes that hold a value, with its blocks, hold no other.
use Rattle.std.proofs.Common.{◌≡◌, ◌⊎◌, ℕ, zero, suc, ◌+◌, ◌*◌, ◌%◌, ◌^◌, Bool, true, false, List, [], ◌∷◌, ◌++◌, length, refl, sym, ap, ap₂, subst, arith, ◌∙◌}
use Rattle.std.specs.List.{AllByRecursion}
use mathlib.Core.Logic.{inl, inr}
use Rattle.wrapper_data.specs.declared.block.Block.{Block}
use Rattle.wit_layout.specs.Extent.{Extent, flag_words, place}
use Rattle.wit_layout.specs.Sizes.{alignment, elem_size, extent_of, payload_offset}
use Rattle.wrapper_meaning.specs.Buffer.{Contents, IsPlaced}
use Rattle.wrapper_meaning.specs.Cells.{HasNumber, bytes_from}
use Rattle.wrapper_meaning.specs.Direction.{Direction, IsHeld}
use Rattle.wrapper_meaning.specs.InMemory.{CaseHolds, EachHolds, EntryHolds, HasWords, Holder, Holds, PartsHold, PointerBytes, TextHolds, entry_extent, text_extent, value_place}
use Rattle.wrapper_meaning.specs.InRange.{AreListed, IsListed, IsListedCase}
use Rattle.wrapper_meaning.specs.Kinds.{is_plain}
use Rattle.wrapper_meaning.specs.Laws.{IsWellPlaced, MemoryDetermines}
use Rattle.wrapper_meaning.specs.Layout.{layout}
use Rattle.wrapper_meaning.specs.Shape.{Shape, Shapes}
use Rattle.wrapper_meaning.specs.Shape.Shape.{scalar, text, list, pairs, fixed, fields, tuple, cases, flags, handle, resource, other}
use Rattle.wrapper_meaning.specs.Shape.Shapes.{none, more}
use Rattle.wrapper_meaning.specs.Value.{Case, case_number}
use Rattle.wrapper_meaning.proofs.Lists.{append_both, some_same}
use Rattle.wrapper_meaning.proofs.Located.{located}
use Rattle.wrapper_meaning.proofs.NoBytes.{Moves, elements_move, entries_move}
use Rattle.wrapper_meaning.proofs.Scalars.{scalar_same}

number_same : (b : Block) (k n x y : ℕ) → HasNumber b k n x → HasNumber b k n y → x ≡ y
number_same b k n x y hx hy = some_same x y (sym hx.1 ∙ hy.1)

words_same : (b : Block) (k size n x y : ℕ) → HasWords b k size n x → HasWords b k size n y → x ≡ y
words_same b k size zero x y hx hy = hx ∙ sym hy
words_same b k size (suc n) x y (low, high, has, later, ex) (low', high', has', later', ey) =
    ex ∙ ap₂ (λ l h. l + 2 ^ 32 * h) (number_same b k size low low' has has') (words_same b (k + size) size n high high' later later') ∙ sym ey

-- two values of a sort are the same, and so are their blocks and what comes behind these
pub record Same (A : Type 0) (u v : A) (xs ys r s : List Block) : Type 0 where
  pub values : u ≡ v
  pub blocks : xs ≡ ys
  pub rest : r ≡ s

-- what a block holds determines the value
abbrev pub Determines : {A : Type 0} → Holder A → (A → Type 0) → Type 0
Determines {A} holds good = (u v : A) (b : Block) (k : ℕ) (xs ys r s : List Block) → holds u b k xs → holds v b k ys → xs ++ r ≡ ys ++ s → good u → good v → Same A u v xs ys r s

-- one after another
pub each_determined : {A : Type 0} (holds : Holder A) (good : A → Type 0) (size : ℕ) → Determines holds good → (us vs : List A) (b : Block) (k : ℕ) (xs ys r s : List Block)
    → length us ≡ length vs → EachHolds holds size us b k xs → EachHolds holds size vs b k ys → xs ++ r ≡ ys ++ s → AllByRecursion good us → AllByRecursion good vs → Same (List A) us vs xs ys r s
each_determined holds good size det [] [] b k xs ys r s n hu hv e gu gv =
    record { values = refl; blocks = hu ∙ sym hv; rest = ap (λ x. x ++ r) (sym hu) ∙ e ∙ ap (λ y. y ++ s) hv }
each_determined holds good size det [] (v ∷ vs) b k xs ys r s n hu hv e gu gv = absurd (omega (n, arith))
each_determined holds good size det (u ∷ us) [] b k xs ys r s n hu hv e gu gv = absurd (omega (n, arith))
each_determined holds good size det (u ∷ us) (v ∷ vs) b k xs ys r s n (f, g, hu, hus, xu) (f', g', hv, hvs, yv) e gu gv =
    let one = det u v b k f f' (g ++ r) (g' ++ s) hu hv (append_both xs f g r ys f' g' s xu yv e) gu.0 gv.0 in
    let others = each_determined holds good size det us vs b (k + size) g g' r s (omega (n, arith)) hus hvs one.rest gu.1 gv.1 in
    record { values = ap₂ (λ a more. a ∷ more) one.values others.values; blocks = xu ∙ ap₂ (λ a c. a ++ c) one.blocks others.blocks ∙ sym yv; rest = others.rest }

-- contents of a list that determine it in each block
abbrev pub ListDetermined : {A : Type 0} → (List A → Contents) → (List A → Type 0) → Type 0
ListDetermined {A} contents good = (us vs : List A) (b : Block) (k : ℕ) (xs ys r s : List Block)
    → length us ≡ length vs → contents us b k xs → contents vs b k ys → xs ++ r ≡ ys ++ s → good us → good vs → Same (List A) us vs xs ys r s

-- what is known of the elements of a buffer, of so many bytes each
pub record Elements {A : Type 0} (contents : List A → Contents) (good : List A → Type 0) (size : ℕ) : Type 0 where
  pub determined : ListDetermined contents good
  pub moves : size ≡ 0 → Moves contents good

no_size : (n size : ℕ) → suc n * size ≡ 0 → size ≡ 0
no_size n size e = omega (e, arith)

-- a buffer determines its elements: the two lie in one block, or take no bytes
pub buffer_determined : {A : Type 0} (dir : Direction) → IsWellPlaced dir → (plain : Bool) (contents : List A → Contents) (good : List A → Type 0) (size : ℕ) → Elements contents good size → (p : ℕ) (us vs : List A) (xs ys r s : List Block)
    → length us ≡ length vs → IsPlaced dir plain p (length us) size (contents us) xs → IsPlaced dir plain p (length vs) size (contents vs) ys → xs ++ r ≡ ys ++ s → good us → good vs → Same (List A) us vs xs ys r s
buffer_determined dir well plain contents good size known p [] [] xs ys r s n hu hv e gu gv =
    record { values = refl; blocks = hu.1 ∙ sym hv.1; rest = ap (λ x. x ++ r) (sym hu.1) ∙ e ∙ ap (λ y. y ++ s) hv.1 }
buffer_determined dir well plain contents good size known p [] (v ∷ vs) xs ys r s n hu hv e gu gv = absurd (omega (n, arith))
buffer_determined dir well plain contents good size known p (u ∷ us) [] xs ys r s n hu hv e gu gv = absurd (omega (n, arith))
buffer_determined dir well plain contents good size known p (u ∷ us) (v ∷ vs) xs ys r s n hu hv e gu gv =
    let same_bytes : suc (length vs) * size ≡ suc (length us) * size = ap (λ m. m * size) (sym n) in
    let held = subst (λ m. IsHeld dir plain p m hv.block hv.offset hv.own) same_bytes hv.held in
    let at = located dir well plain p (suc (length us) * size) hu.block hv.block hu.offset hv.offset hu.own hv.own (hu.inner ++ r) (hv.inner ++ s) hu.held held (append_both xs hu.own hu.inner r ys hv.own hv.inner s hu.all hv.all e) in
    let all = known.determined (u ∷ us) (v ∷ vs) hv.block hv.offset hu.inner hv.inner r s n (in_one at.place) hv.holds at.rest gu gv in
    record { values = all.values; blocks = hu.all ∙ ap₂ (λ a i. a ++ i) at.same all.blocks ∙ sym hv.all; rest = all.rest }
  where
    in_one : ((suc (length us) * size ≡ 0) ⊎ ((hu.block ≡ hv.block) × (hu.offset ≡ hv.offset))) → contents (u ∷ us) hv.block hv.offset hu.inner
    in_one (inl no_bytes) = known.moves (no_size (length us) size no_bytes) (u ∷ us) hu.block hv.block hu.offset hv.offset hu.inner gu hu.holds
    in_one (inr at) = subst (λ o. contents (u ∷ us) hv.block o hu.inner) at.1 (subst (λ d. contents (u ∷ us) d hu.offset hu.inner) at.0 hu.holds)

pub empty_same : {A : Type 0} (u v : A) (xs ys r s : List Block) → u ≡ v → xs ≡ [] → ys ≡ [] → xs ++ r ≡ ys ++ s → Same A u v xs ys r s
empty_same u v xs ys r s same hu hv e = record { values = same; blocks = hu ∙ sym hv; rest = ap (λ x. x ++ r) (sym hu) ∙ e ∙ ap (λ y. y ++ s) hv }

pub text_known : Elements TextHolds (λ us. Unit {0}) 1
text_known = record {
  determined = λ us vs b k xs ys r s n hu hv e gu gv. empty_same us vs xs ys r s (some_same us vs (sym hu.0 ∙ ap (λ m. bytes_from b.cells k m) n ∙ hv.0)) hu.1 hv.1 e;
  moves = λ e. absurd (omega (e, arith));
}

module _ (w : ℕ) (dir : Direction) (well : IsWellPlaced dir) where
  points_determined : {A : Type 0} (contents : List A → Contents) (good : List A → Type 0) (plain : Bool) (x : Extent) → Elements contents good x.bytes → Determines (λ us. PointerBytes w dir plain (length us) x (contents us)) good
  points_determined contents good plain x known us vs b k xs ys r s hu hv e gu gv =
      let same_place = number_same b k (2 ^ w) hv.address hu.address hv.pointer hu.pointer in
      let same_length = number_same b (k + 2 ^ w) (2 ^ w) (length us) (length vs) hu.counted hv.counted in
      buffer_determined dir well plain contents good x.bytes known hu.address us vs xs ys r s same_length hu.buffer.placed
      (subst (λ a. IsPlaced dir plain a (length vs) x.bytes (contents vs) ys) same_place hv.buffer.placed) e gu gv

  entry_determined : {A B : Type 0} (key : Holder A) (val : Holder B) (good_key : A → Type 0) (good_val : B → Type 0) (distance : ℕ) → Determines key good_key → Determines val good_val
      → Determines (EntryHolds key val distance) (λ x. good_key x.0 × good_val x.1)
  entry_determined key val good_key good_val distance det_key det_val u v b k xs ys r s (f, g, ku, vu, xu) (f', g', kv, vv, yv) e gu gv =
      let one = det_key u.0 v.0 b k f f' (g ++ r) (g' ++ s) ku kv (append_both xs f g r ys f' g' s xu yv e) gu.0 gv.0 in
      let two = det_val u.1 v.1 b (k + distance) g g' r s vu vv one.rest gu.1 gv.1 in
      record { values = ap₂ (λ a c. (a, c)) one.values two.values; blocks = xu ∙ ap₂ (λ a c. a ++ c) one.blocks two.blocks ∙ sym yv; rest = two.rest }

  pub list_known : (t : Shape) → Determines (Holds w dir t) (IsListed t) → Elements (EachHolds (Holds w dir t) (elem_size w (layout t))) (AllByRecursion (IsListed t)) (elem_size w (layout t))
  list_known t det = record { determined = each_determined (Holds w dir t) (IsListed t) (elem_size w (layout t)) det; moves = elements_move w dir t }

  pub map_known : (x y : Shape) → Determines (Holds w dir x) (IsListed x) → Determines (Holds w dir y) (IsListed y)
      → Elements (EachHolds (EntryHolds (Holds w dir x) (Holds w dir y) (value_place w x y)) (entry_extent w x y).bytes) (AllByRecursion (λ p. IsListed x p.0 × IsListed y p.1)) (entry_extent w x y).bytes
  map_known x y det_key det_val = record {
    determined =
        each_determined (EntryHolds (Holds w dir x) (Holds w dir y) (value_place w x y)) (λ p. IsListed x p.0 × IsListed y p.1) (entry_extent w x y).bytes
        (entry_determined (Holds w dir x) (Holds w dir y) (IsListed x) (IsListed y) (value_place w x y) det_key det_val);
    moves = entries_move w dir x y;
  }

  mutual
    pub holds_determined : (t : Shape) → Determines (Holds w dir t) (IsListed t)
    holds_determined (scalar c) u v b k xs ys r s hu hv e gu gv = empty_same u v xs ys r s (scalar_same c u v gu gv (number_same b k _ _ _ hu.0 hv.0)) hu.1 hv.1 e
    holds_determined text u v b k xs ys r s hu hv e gu gv = points_determined TextHolds (λ us. Unit {0}) true text_extent text_known u v b k xs ys r s hu hv e tt tt
    holds_determined (list t) u v b k xs ys r s hu hv e gu gv =
        points_determined (EachHolds (Holds w dir t) (elem_size w (layout t))) (AllByRecursion (IsListed t)) (is_plain t) (extent_of w (layout t)) (list_known t (holds_determined t)) u v b k xs ys r s hu hv e gu gv
    holds_determined (pairs x y) u v b k xs ys r s hu hv e gu gv =
        points_determined (EachHolds (EntryHolds (Holds w dir x) (Holds w dir y) (value_place w x y)) (entry_extent w x y).bytes) (AllByRecursion (λ p. IsListed x p.0 × IsListed y p.1)) false (entry_extent w x y)
        (map_known x y (holds_determined x) (holds_determined y)) u v b k xs ys r s hu hv e gu gv
    holds_determined (fixed t n) u v b k xs ys r s hu hv e gu gv =
        each_determined (Holds w dir t) (IsListed t) (elem_size w (layout t)) (holds_determined t) u v b k xs ys r s (gu.0 ∙ sym gv.0) hu hv e gu.1 gv.1
    holds_determined (fields ts) u v b k xs ys r s hu hv e gu gv = parts_determined ts 0 u v b k xs ys r s hu hv e gu gv
    holds_determined (tuple ts) u v b k xs ys r s hu hv e gu gv = parts_determined ts 0 u v b k xs ys r s hu hv e gu gv
    holds_determined (cases ts) u v b k xs ys r s hu hv e gu gv = case_determined ts u v (number_same b k _ _ _ hu.0 hv.0) b (k + payload_offset w (layout (cases ts))) xs ys r s hu.1 hv.1 e gu gv
    holds_determined (flags n) u v b k xs ys r s (bits, hb, hu, xu) (bits', hb', hv, yv) e gu gv =
        empty_same u v xs ys r s (hu ∙ ap (λ x. x % 2 ^ n) (words_same b k (alignment w (layout (flags n))) (flag_words n) bits bits' hb hb') ∙ sym hv) xu yv e
    holds_determined (handle own number) u v b k xs ys r s hu hv e gu gv = empty_same u v xs ys r s (number_same b k 4 u v hu.0 hv.0) hu.1 hv.1 e
    holds_determined (resource number) u v b k xs ys r s hu hv e gu gv = elim hu [ ]
    holds_determined other u v b k xs ys r s hu hv e gu gv = elim hu [ ]

    pub parts_determined : (ts : Shapes) (behind : ℕ) → Determines (λ v. PartsHold w dir ts v behind) (AreListed ts)
    parts_determined none behind u v b k xs ys r s hu hv e gu gv = empty_same u v xs ys r s refl hu hv e
    parts_determined (more t ts) behind u v b k xs ys r s (f, g, hu, hus, xu) (f', g', hv, hvs, yv) e gu gv =
        let one = holds_determined t u.0 v.0 b (k + place (extent_of w (layout t)) behind) f f' (g ++ r) (g' ++ s) hu hv (append_both xs f g r ys f' g' s xu yv e) gu.0 gv.0 in
        let two = parts_determined ts (place (extent_of w (layout t)) behind + elem_size w (layout t)) u.1 v.1 b k g g' r s hus hvs one.rest gu.1 gv.1 in
        record { values = ap₂ (λ a c. (a, c)) one.values two.values; blocks = xu ∙ ap₂ (λ a c. a ++ c) one.blocks two.blocks ∙ sym yv; rest = two.rest }

    case_determined : (ts : Shapes) (u v : Case ts) → case_number ts u ≡ case_number ts v → (b : Block) (k : ℕ) (xs ys r s : List Block)
        → CaseHolds w dir ts u b k xs → CaseHolds w dir ts v b k ys → xs ++ r ≡ ys ++ s → IsListedCase ts u → IsListedCase ts v → Same (Case ts) u v xs ys r s
    case_determined none u v n b k xs ys r s hu hv e gu gv = elim u [ ]
    case_determined (more t ts) (inl u) (inl v) n b k xs ys r s hu hv e gu gv =
        let one = holds_determined t u v b k xs ys r s hu hv e gu gv in
        record { values = ap inl one.values; blocks = one.blocks; rest = one.rest }
    case_determined (more t ts) (inl u) (inr v) n b k xs ys r s hu hv e gu gv = absurd (omega (n, arith))
    case_determined (more t ts) (inr u) (inl v) n b k xs ys r s hu hv e gu gv = absurd (omega (n, arith))
    case_determined (more t ts) (inr u) (inr v) n b k xs ys r s hu hv e gu gv =
        let one = case_determined ts u v (omega (n, arith)) b k xs ys r s hu hv e gu gv in
        record { values = ap inr one.values; blocks = one.blocks; rest = one.rest }

pub memory_determines : MemoryDetermines
memory_determines w dir t u v b k blocks well gu gv hu hv = (holds_determined w dir well t u v b k blocks blocks [] [] hu hv refl gu gv).values
