-- What takes no bytes is held anywhere, if it is held in one place.
use Rattle.std.proofs.Common.{◌≡◌, ◌⊎◌, ◌+◌, ◌*◌, ◌^◌, ℕ, zero, suc, List, [], ◌∷◌, length, max, refl, arith, ◌∙◌}
use Rattle.std.specs.List.{AllByRecursion}
use Rattle.std.proofs.lemmas.Nat.{pow_pos}
use mathlib.Core.Logic.{inl, inr}
use Rattle.wit_model.proofs.Rounding.{rounded_above}
use Rattle.wit_layout.proofs.RecordSteps.{end_behind, record_behind}
use Rattle.wrapper_data.specs.declared.block.Block.{Block}
use Rattle.wit_layout.specs.Extent.{Extent, discriminant_grain, end, flags_extent, greatest, payload_place, place, record_extent, variant_extent}
use Rattle.wit_layout.specs.Sizes.{count, elem_size, extent_of, extents_of, scalar_grain}
use Rattle.wrapper_meaning.specs.Direction.{Direction}
use Rattle.wrapper_meaning.specs.InMemory.{EachHolds, EntryHolds, Holder, Holds, PartsHold, entry_extent, value_place}
use Rattle.wrapper_meaning.specs.InRange.{AreListed, IsListed}
use Rattle.wrapper_meaning.specs.Layout.{layout, layouts}
use Rattle.wrapper_meaning.specs.Shape.{Shape, Shapes}
use Rattle.wrapper_meaning.specs.Shape.Shape.{scalar, text, list, pairs, fixed, fields, tuple, cases, flags, handle, resource, other}
use Rattle.wrapper_meaning.specs.Shape.Shapes.{none, more}

-- a product is 0 where a factor is
no_product : (n m : ℕ) → n * m ≡ 0 → (n ≡ 0) ⊎ (m ≡ 0)
no_product zero m e = inl refl
no_product (suc n) m e = inr (omega (e, arith))

-- a record takes no bytes where none of its parts does

abbrev Empty : List Extent → Type 0
Empty parts = AllByRecursion (λ part. part.bytes ≡ 0) parts

end_zero : (parts : List Extent) (behind : ℕ) → end parts behind ≡ 0 → Empty parts
end_zero [] behind e = tt
end_zero (part ∷ parts) behind e =
    (omega (rounded_above (2 ^ part.grain) behind (pow_pos part.grain), end_behind parts (place part behind + part.bytes), e, arith), end_zero parts (place part behind + part.bytes) e)

record_zero : (parts : List Extent) → (record_extent parts).bytes ≡ 0 → Empty parts
record_zero parts e = end_zero parts 0 (omega (record_behind parts, e, arith))

variant_some : (n : ℕ) (payload : Extent) → (variant_extent n payload).bytes ≡ 0 → ⊥
variant_some n payload e =
    let grain = max (discriminant_grain n) payload.grain in
    omega (
      pow_pos (discriminant_grain n),
      rounded_above (2 ^ payload.grain) (2 ^ discriminant_grain n) (pow_pos payload.grain),
      rounded_above (2 ^ grain) (payload_place n payload + payload.bytes) (pow_pos grain),
      e,
      arith,
    )

flags_some : (n : ℕ) → (flags_extent n).bytes ≡ 0 → ⊥
flags_some n e = grind (arith)

-- what is held is held at each place of each block
abbrev pub Moves : {A : Type 0} → Holder A → (A → Type 0) → Type 0
Moves {A} holds good = (v : A) (b c : Block) (k l : ℕ) (blocks : List Block) → good v → holds v b k blocks → holds v c l blocks

each_moves : {A : Type 0} (holds : Holder A) (good : A → Type 0) (size : ℕ) → Moves holds good → Moves (EachHolds holds size) (AllByRecursion good)
each_moves holds good size moves [] b c k l blocks g h = h
each_moves holds good size moves (v ∷ vs) b c k l blocks g (first, rest, h, hs, all) =
    (first, rest, moves v b c k l first g.0 h, each_moves holds good size moves vs b c (k + size) (l + size) rest g.1 hs, all)

no_elements : {A : Type 0} (holds : Holder A) (good : A → Type 0) (size : ℕ) (vs : List A) (b c : Block) (k l : ℕ) (blocks : List Block) → length vs ≡ 0 → EachHolds holds size vs b k blocks → EachHolds holds size vs c l blocks
no_elements holds good size [] b c k l blocks n h = h
no_elements holds good size (v ∷ vs) b c k l blocks n h = absurd (omega (n, arith))

module _ (w : ℕ) (dir : Direction) where
  some_bytes : {A : Type 0} → 2 * 2 ^ w ≡ 0 → A
  some_bytes e = absurd (omega (pow_pos w, e, arith))

  mutual
    pub holds_moves : (t : Shape) → elem_size w (layout t) ≡ 0 → Moves (Holds w dir t) (IsListed t)
    holds_moves (scalar s) e v b c k l blocks g h = absurd (omega (pow_pos (scalar_grain s), e, arith))
    holds_moves text e v b c k l blocks g h = some_bytes e
    holds_moves (list t) e v b c k l blocks g h = some_bytes e
    holds_moves (pairs x y) e v b c k l blocks g h = some_bytes e
    holds_moves (fixed t n) e v b c k l blocks g h = by_factor (no_product n (elem_size w (layout t)) e) (holds_moves t)
      where
        by_factor : (n ≡ 0) ⊎ (elem_size w (layout t) ≡ 0) → (elem_size w (layout t) ≡ 0 → Moves (Holds w dir t) (IsListed t)) → EachHolds (Holds w dir t) (elem_size w (layout t)) v c l blocks
        by_factor (inl absent) moves = no_elements (Holds w dir t) (IsListed t) (elem_size w (layout t)) v b c k l blocks (g.0 ∙ absent) h
        by_factor (inr absent) moves = each_moves (Holds w dir t) (IsListed t) (elem_size w (layout t)) (moves absent) v b c k l blocks g.1 h
    holds_moves (fields ts) e v b c k l blocks g h = parts_move ts (record_zero (extents_of w (layouts ts)) e) 0 v b c k l blocks g h
    holds_moves (tuple ts) e v b c k l blocks g h = parts_move ts (record_zero (extents_of w (layouts ts)) e) 0 v b c k l blocks g h
    holds_moves (cases ts) e v b c k l blocks g h = absurd (variant_some (count (layouts ts)) (greatest (extents_of w (layouts ts))) e)
    holds_moves (flags n) e v b c k l blocks g h = absurd (flags_some n e)
    holds_moves (handle own number) e v b c k l blocks g h = absurd (omega (e, arith))
    holds_moves (resource number) e v b c k l blocks g h = elim v [ ]
    holds_moves other e v b c k l blocks g h = elim v [ ]

    parts_move : (ts : Shapes) → Empty (extents_of w (layouts ts)) → (behind : ℕ) → Moves (λ v. PartsHold w dir ts v behind) (AreListed ts)
    parts_move none e behind v b c k l blocks g h = h
    parts_move (more t ts) e behind v b c k l blocks g (first, rest, h, hs, all) =
        (first, rest, holds_moves t e.0 v.0 b c _ _ first g.0 h, parts_move ts e.1 (place (extent_of w (layout t)) behind + elem_size w (layout t)) v.1 b c k l rest g.1 hs, all)

  -- lists of elements, and of entries, that take no bytes

  pub elements_move : (t : Shape) → elem_size w (layout t) ≡ 0 → Moves (EachHolds (Holds w dir t) (elem_size w (layout t))) (AllByRecursion (IsListed t))
  elements_move t e = each_moves (Holds w dir t) (IsListed t) (elem_size w (layout t)) (holds_moves t e)

  pub entries_move : (x y : Shape) → (entry_extent w x y).bytes ≡ 0
      → Moves (EachHolds (EntryHolds (Holds w dir x) (Holds w dir y) (value_place w x y)) (entry_extent w x y).bytes) (AllByRecursion (λ e. IsListed x e.0 × IsListed y e.1))
  entries_move x y e =
      each_moves (EntryHolds (Holds w dir x) (Holds w dir y) (value_place w x y)) (λ e. IsListed x e.0 × IsListed y e.1) (entry_extent w x y).bytes entry_moves
    where
      both : Empty (extent_of w (layout x) ∷ extent_of w (layout y) ∷ [])
      both = record_zero (extent_of w (layout x) ∷ extent_of w (layout y) ∷ []) e

      entry_moves : Moves (EntryHolds (Holds w dir x) (Holds w dir y) (value_place w x y)) (λ e. IsListed x e.0 × IsListed y e.1)
      entry_moves v b c k l blocks g (first, second, h, h', all) =
          (first, second, holds_moves x both.0 v.0 b c k l first g.0 h, holds_moves y both.1.0 v.1 b c (k + value_place w x y) (l + value_place w x y) second g.1 h', all)
