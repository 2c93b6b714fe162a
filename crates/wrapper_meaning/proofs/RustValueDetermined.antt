-- A value of the Rust side that stands for a value, with its blocks, stands for no other.
use Rattle.std.proofs.Common.{◌≡◌, ℕ, ◌%◌, ◌^◌, Bool, true, false, MatchBool, List, [], ◌∷◌, ◌++◌, length, Option, Some, None, refl, sym, ap, ap₂, subst, arith, ◌∙◌}
use Rattle.std.specs.List.{AllByRecursion}
use Rattle.std.proofs.lemmas.Bool.{true≢false}
use mathlib.Core.Logic.{inl, inr}
use Rattle.wrapper_data.specs.declared.block.Block.{Block}
use Rattle.wrapper_data.specs.declared.value.RustValue.{RustValue}
use Rattle.wrapper_data.specs.declared.value.RustValue.TheVariants as value
use Rattle.wit_layout.specs.Extent.{Extent}
use Rattle.wit_layout.specs.Sizes.{elem_size, extent_of}
use Rattle.wit_layout.specs.Tree.{Scalar}
use Rattle.wrapper_meaning.specs.Buffer.{Contents, IsPlaced}
use Rattle.wrapper_meaning.specs.Direction.{Direction}
use Rattle.wrapper_meaning.specs.InMemory.{EachHolds, Holds, TextHolds, text_extent}
use Rattle.wrapper_meaning.specs.InRange.{AreListed, IsListed, IsListedCase}
use Rattle.wrapper_meaning.specs.Kinds.{is_plain}
use Rattle.wrapper_meaning.specs.Laws.{IsWellPlaced, RustValueDetermines}
use Rattle.wrapper_meaning.specs.Layout.{layout}
use Rattle.wrapper_meaning.specs.Shape.{Shape, Shapes, is_nothing}
use Rattle.wrapper_meaning.specs.Shape.Shape.{scalar, text, list, pairs, fixed, fields, tuple, cases, flags, handle, resource, other}
use Rattle.wrapper_meaning.specs.Shape.Shapes.{none, more}
use Rattle.wrapper_meaning.specs.StandsFor.{CaseStands, EachStands, EntryStands, PartsStand, PayloadStands, Standing, Stands, StandsAsBuffer, rust_scalar}
use Rattle.wrapper_meaning.specs.Value.{Case, Parts, ScalarValue, Value, case_number}
use Rattle.wrapper_meaning.proofs.Lists.{append_both, first_or, later, some_or}
use Rattle.wrapper_meaning.proofs.MemoryDetermined.{Elements, Same, buffer_determined, empty_same, holds_determined, list_known, text_known}
use Rattle.wrapper_meaning.proofs.RustValues.{bits_same, bool_same, buffer_same, case_same, char_same, f32_same, f64_same, handle_same, map_same, num_same, seq_same, struct_same}

scalar_same : (s : Scalar) (u v : ScalarValue s) → rust_scalar s u ≡ rust_scalar s v → u ≡ v
scalar_same Scalar.bool u v e = bool_same u v e
scalar_same Scalar.f32 u v e = f32_same u v e
scalar_same Scalar.f64 u v e = f64_same u v e
scalar_same Scalar.char u v e = char_same u v e
scalar_same Scalar.handle u v e = elim u [ ]
scalar_same s u v e = num_same _ _ u v e

-- the same value of the Rust side stands for one value
abbrev pub StandsForOne : {A R : Type 0} → (A → Standing R) → (A → Type 0) → Type 0
StandsForOne {A} {R} stands good = (u v : A) (r : R) (xs ys p q : List Block) → stands u r xs → stands v r ys → xs ++ p ≡ ys ++ q → good u → good v → Same A u v xs ys p q

each_one : {A R : Type 0} (stands : A → Standing R) (good : A → Type 0) → StandsForOne stands good → (us vs : List A) (rs rs' : List R) (xs ys p q : List Block)
    → rs ≡ rs' → EachStands stands us rs xs → EachStands stands vs rs' ys → xs ++ p ≡ ys ++ q → AllByRecursion good us → AllByRecursion good vs → Same (List A) us vs xs ys p q
each_one stands good one [] [] rs rs' xs ys p q same hu hv e gu gv = empty_same [] [] xs ys p q refl hu.1 hv.1 e
each_one stands good one [] (v ∷ vs) rs rs' xs ys p q same hu (r, more', f, g, ev, hv, hvs, yv) e gu gv = absurd (omega (ap length (sym hu.0 ∙ same ∙ ev), arith))
each_one stands good one (u ∷ us) [] rs rs' xs ys p q same (r, more', f, g, eu, hu, hus, xu) hv e gu gv = absurd (omega (ap length (sym hv.0 ∙ sym same ∙ eu), arith))
each_one stands good one (u ∷ us) (v ∷ vs) rs rs' xs ys p q same (r, rest, f, g, eu, hu, hus, xu) (r', rest', f', g', ev, hv, hvs, yv) e gu gv =
    let whole : r ∷ rest ≡ r' ∷ rest' = sym eu ∙ same ∙ ev in
    let hv' = subst (λ x. stands v x f') (ap (first_or r) (sym whole)) hv in
    let first = one u v r f f' (g ++ p) (g' ++ q) hu hv' (append_both xs f g p ys f' g' q xu yv e) gu.0 gv.0 in
    let others = each_one stands good one us vs rest rest' g g' p q (ap later whole) hus hvs first.rest gu.1 gv.1 in
    record { values = ap₂ (λ a c. a ∷ c) first.values others.values; blocks = xu ∙ ap₂ (λ a c. a ++ c) first.blocks others.blocks ∙ sym yv; rest = others.rest }

entry_one : {A B : Type 0} (key : A → Standing RustValue) (val : B → Standing RustValue) (good_key : A → Type 0) (good_val : B → Type 0)
    → StandsForOne key good_key → StandsForOne val good_val → StandsForOne (EntryStands key val) (λ x. good_key x.0 × good_val x.1)
entry_one key val good_key good_val one_key one_val u v r xs ys p q (f, g, ku, vu, xu) (f', g', kv, vv, yv) e gu gv =
    let one = one_key u.0 v.0 r.0 f f' (g ++ p) (g' ++ q) ku kv (append_both xs f g p ys f' g' q xu yv e) gu.0 gv.0 in
    let two = one_val u.1 v.1 r.1 g g' p q vu vv one.rest gu.1 gv.1 in
    record { values = ap₂ (λ a c. (a, c)) one.values two.values; blocks = xu ∙ ap₂ (λ a c. a ++ c) one.blocks two.blocks ∙ sym yv; rest = two.rest }

module _ (w : ℕ) (dir : Direction) (well : IsWellPlaced dir) where
  buffer_one : {A : Type 0} (contents : List A → Contents) (good : List A → Type 0) (x : Extent) → Elements contents good x.bytes → StandsForOne (λ us. StandsAsBuffer w dir (length us) x (contents us)) good
  buffer_one contents good x known us vs r xs ys p q hu hv e gu gv =
      let (same_place, same_length) = buffer_same hv.address hu.address (length vs) (length us) hv.owned hu.owned (sym hv.is ∙ hu.is) in
      buffer_determined dir well true contents good x.bytes known hu.address us vs xs ys p q (sym same_length) hu.buffer.placed (subst (λ c. IsPlaced dir true c (length vs) x.bytes (contents vs) ys) same_place hv.buffer.placed) e gu gv

  list_one : (t : Shape) → StandsForOne (Stands w dir t) (IsListed t) → (plain : Bool) (us vs : List (Value t)) (r : RustValue) (xs ys p q : List Block)
      → MatchBool plain (StandsAsBuffer w dir (length us) (extent_of w (layout t)) (EachHolds (Holds w dir t) (elem_size w (layout t)) us) r xs) ((rs : List RustValue) × (r ≡ value.Seq rs) × EachStands (Stands w dir t) us rs xs)
      → MatchBool plain (StandsAsBuffer w dir (length vs) (extent_of w (layout t)) (EachHolds (Holds w dir t) (elem_size w (layout t)) vs) r ys) ((rs : List RustValue) × (r ≡ value.Seq rs) × EachStands (Stands w dir t) vs rs ys)
      → xs ++ p ≡ ys ++ q → AllByRecursion (IsListed t) us → AllByRecursion (IsListed t) vs → Same (List (Value t)) us vs xs ys p q
  list_one t one true us vs r xs ys p q hu hv e gu gv =
      buffer_one (EachHolds (Holds w dir t) (elem_size w (layout t))) (AllByRecursion (IsListed t)) (extent_of w (layout t)) (list_known w dir well t (holds_determined w dir well t)) us vs r xs ys p q hu hv e gu gv
  list_one t one false us vs r xs ys p q (rs, eu, hu) (rs', ev, hv) e gu gv = each_one (Stands w dir t) (IsListed t) one us vs rs rs' xs ys p q (seq_same rs rs' (sym eu ∙ ev)) hu hv e gu gv

  nothing_same : (t : Shape) → is_nothing t ≡ true → (u v : Value t) → u ≡ v
  nothing_same (fields none) h u v = refl
  nothing_same (fields (more t ts)) h u v = absurd (true≢false (sym h))
  nothing_same (resource number) h u v = elim u [ ]
  nothing_same other h u v = elim u [ ]
  nothing_same _ h u v = absurd (true≢false (sym h))

  payload_one : (t : Shape) → StandsForOne (Stands w dir t) (IsListed t) → (empty : Bool) → is_nothing t ≡ empty → (u v : Value t) (payload : Option RustValue) (xs ys p q : List Block)
      → PayloadStands empty (Stands w dir t u) payload xs → PayloadStands empty (Stands w dir t v) payload ys → xs ++ p ≡ ys ++ q → IsListed t u → IsListed t v → Same (Value t) u v xs ys p q
  payload_one t one true h u v None xs ys p q hu hv e gu gv = empty_same u v xs ys p q (nothing_same t h u v) hu hv e
  payload_one t one true h u v (Some r) xs ys p q hu hv e gu gv = empty_same u v xs ys p q (nothing_same t h u v) hu.1 hv.1 e
  payload_one t one false h u v payload xs ys p q (r, eu, hu) (r', ev, hv) e gu gv =
      one u v r xs ys p q hu (subst (λ x. Stands w dir t v x ys) (ap (some_or r) (sym ev ∙ eu)) hv) e gu gv

  mutual
    pub stands_for_one : (t : Shape) → StandsForOne (Stands w dir t) (IsListed t)
    stands_for_one (scalar s) u v r xs ys p q hu hv e gu gv = empty_same u v xs ys p q (scalar_same s u v (sym hu.0 ∙ hv.0)) hu.1 hv.1 e
    stands_for_one text u v r xs ys p q hu hv e gu gv = buffer_one TextHolds (λ us. Unit {0}) text_extent text_known u v r xs ys p q hu hv e tt tt
    stands_for_one (list t) us vs r xs ys p q hu hv e gu gv = list_one t (stands_for_one t) (is_plain t) us vs r xs ys p q hu hv e gu gv
    stands_for_one (pairs c x) us vs r xs ys p q (rs, eu, hu) (rs', ev, hv) e gu gv =
        each_one (EntryStands (Stands w dir c) (Stands w dir x)) (λ y. IsListed c y.0 × IsListed x y.1) (entry_one (Stands w dir c) (Stands w dir x) (IsListed c) (IsListed x) (stands_for_one c) (stands_for_one x))
        us vs rs rs' xs ys p q (map_same rs rs' (sym eu ∙ ev)) hu hv e gu gv
    stands_for_one (fixed t n) us vs r xs ys p q (rs, eu, hu) (rs', ev, hv) e gu gv =
        each_one (Stands w dir t) (IsListed t) (stands_for_one t) us vs rs rs' xs ys p q (struct_same rs rs' (sym eu ∙ ev)) hu hv e gu.1 gv.1
    stands_for_one (fields ts) u v r xs ys p q (rs, eu, hu) (rs', ev, hv) e gu gv = parts_one ts u v rs rs' xs ys p q (struct_same rs rs' (sym eu ∙ ev)) hu hv e gu gv
    stands_for_one (tuple ts) u v r xs ys p q (rs, eu, hu) (rs', ev, hv) e gu gv = parts_one ts u v rs rs' xs ys p q (struct_same rs rs' (sym eu ∙ ev)) hu hv e gu gv
    stands_for_one (cases ts) u v r xs ys p q (o, eu, hu) (o', ev, hv) e gu gv =
        let (number, payload) = case_same (case_number ts u) (case_number ts v) o o' (sym eu ∙ ev) in
        case_one ts u v number o' xs ys p q (subst (λ a. CaseStands w dir ts u a xs) payload hu) hv e gu gv
    stands_for_one (flags n) u v r xs ys p q (b, small, eu, hu, xu) (b', small', ev, hv, yv) e gu gv =
        empty_same u v xs ys p q (hu ∙ ap (λ x. x % 2 ^ n) (bits_same b b' (sym eu ∙ ev)) ∙ sym hv) xu yv e
    stands_for_one (handle own number) u v r xs ys p q hu hv e gu gv = empty_same u v xs ys p q (handle_same u v own own (sym hu.0 ∙ hv.0)) hu.1 hv.1 e
    stands_for_one (resource number) u v r xs ys p q hu hv e gu gv = elim hu [ ]
    stands_for_one other u v r xs ys p q hu hv e gu gv = elim hu [ ]

    parts_one : (ts : Shapes) (u v : Parts ts) (rs rs' : List RustValue) (xs ys p q : List Block) → rs ≡ rs' → PartsStand w dir ts u rs xs → PartsStand w dir ts v rs' ys → xs ++ p ≡ ys ++ q → AreListed ts u → AreListed ts v → Same (Parts ts) u v xs ys p q
    parts_one none u v rs rs' xs ys p q same hu hv e gu gv = empty_same u v xs ys p q refl hu.1 hv.1 e
    parts_one (more t ts) u v rs rs' xs ys p q same (r, rest, f, g, eu, hu, hus, xu) (r', rest', f', g', ev, hv, hvs, yv) e gu gv =
        let whole : r ∷ rest ≡ r' ∷ rest' = sym eu ∙ same ∙ ev in
        let hv' = subst (λ x. Stands w dir t v.0 x f') (ap (first_or r) (sym whole)) hv in
        let first = stands_for_one t u.0 v.0 r f f' (g ++ p) (g' ++ q) hu hv' (append_both xs f g p ys f' g' q xu yv e) gu.0 gv.0 in
        let others = parts_one ts u.1 v.1 rest rest' g g' p q (ap later whole) hus hvs first.rest gu.1 gv.1 in
        record { values = ap₂ (λ a c. (a, c)) first.values others.values; blocks = xu ∙ ap₂ (λ a c. a ++ c) first.blocks others.blocks ∙ sym yv; rest = others.rest }

    case_one : (ts : Shapes) (u v : Case ts) → case_number ts u ≡ case_number ts v → (payload : Option RustValue) (xs ys p q : List Block)
        → CaseStands w dir ts u payload xs → CaseStands w dir ts v payload ys → xs ++ p ≡ ys ++ q → IsListedCase ts u → IsListedCase ts v → Same (Case ts) u v xs ys p q
    case_one none u v n payload xs ys p q hu hv e gu gv = elim u [ ]
    case_one (more t ts) (inl u) (inl v) n payload xs ys p q hu hv e gu gv =
        let one = payload_one t (stands_for_one t) (is_nothing t) refl u v payload xs ys p q hu hv e gu gv in
        record { values = ap inl one.values; blocks = one.blocks; rest = one.rest }
    case_one (more t ts) (inl u) (inr v) n payload xs ys p q hu hv e gu gv = absurd (omega (n, arith))
    case_one (more t ts) (inr u) (inl v) n payload xs ys p q hu hv e gu gv = absurd (omega (n, arith))
    case_one (more t ts) (inr u) (inr v) n payload xs ys p q hu hv e gu gv =
        let one = case_one ts u v (omega (n, arith)) payload xs ys p q hu hv e gu gv in
        record { values = ap inr one.values; blocks = one.blocks; rest = one.rest }

pub rust_value_determines : RustValueDetermines
rust_value_determines w dir t u v r blocks well gu gv hu hv = (stands_for_one w dir well t u v r blocks blocks [] [] hu hv refl gu gv).values
