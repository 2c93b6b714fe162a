-- The places of the parts of a record of some types, which were found one after another.
use Rattle.std.proofs.Common.{◌≡◌, ◌⊎◌, ℕ, ◌+◌, ◌^◌, ◌<◌, ◌≤◌, Bool, true, false, nat_lt, List, [], ◌∷◌, ◌++◌, length, map, take, get_or, slice_index, Some, refl, sym, ap, ◌∙◌, subst, arith}
use mathlib.Core.Logic.{inl, inr}
use Rattle.std.proofs.Math.Seq.{get_or-append_seam}
use Rattle.std.proofs.lemmas.Bool.{ltb-false, ltb-true}
use Rattle.std.proofs.lemmas.List.{get_or_append_left}
use Rattle.wit_model.specs.Size.{alignment_at, bytes_at}
use Rattle.wit_model.specs.declared.size.Alignment.{Alignment}
use Rattle.wit_model.specs.declared.size.ArchitectureSize.{ArchitectureSize}
use Rattle.wit_model.specs.declared.types.TypeDef.{TypeDef}
use Rattle.wit_model.specs.declared.types.WitType.{WitType}
use Rattle.wit_layout.specs.declared.size_align.SizeAlign.{SizeAlign}
use Rattle.wit_layout.specs.Extent.{end, place}
use Rattle.wit_layout.specs.Filled.{IsFilledFor}
use Rattle.wit_layout.specs.Sizes.{extent_of, extents_of, field_offsets}
use Rattle.wit_layout.specs.Told.{IsAlignmentOf, IsPairOf}
use Rattle.wit_layout.specs.Tree.{Tree, payloads_in as tree_payloads, record_of}
use Rattle.wrapper_meaning.specs.Layout.{layout, layouts}
use Rattle.wrapper_meaning.specs.Shape.{shape_of, shapes}
use Rattle.wrapper_meaning.specs.Shape.Shape.{fields}
use Rattle.wrapper_meaning.proofs.LayoutIsTree.{layouts_are_trees, of_payloads}
use Rattle.abi_bindgen.specs.Code.{beyond}
use Rattle.abi_bindgen.specs.Frees.{nowhere}
use Rattle.abi_bindgen.specs.Instructions.{shapes_of}
use Rattle.abi_driver.proofs.PartOffsets.{beyond_at, place_of}

-- the first so many places are those of the first so many types
abbrev pub ArePlaces : SizeAlign → List WitType → List ArchitectureSize → ℕ → Type 0
ArePlaces sizes types places k =
    (table : List TypeDef) (n : ℕ) (d : ArchitectureSize) → IsFilledFor sizes table → n < k → IsPairOf (get_or places n d) (λ w. slice_index (field_offsets w (record_of table types)) n)

pub one_more : (sizes : SizeAlign) (types : List WitType) (places now : List ArchitectureSize) (place : ArchitectureSize) (k : ℕ) → length places ≡ k → now ≡ places ++ place ∷ [] → ArePlaces sizes types places k
    → ((table : List TypeDef) → IsFilledFor sizes table → IsPairOf place (λ w. slice_index (field_offsets w (record_of table types)) k)) → ArePlaces sizes types now (k + 1)
one_more sizes types places now place k count is before here table n d filled l = by (nat_lt n k) refl
  where
    by : (t : Bool) → nat_lt n k ≡ t → IsPairOf (get_or now n d) (λ w. slice_index (field_offsets w (record_of table types)) n)
    by true e =
        let low : n < k = ltb-true n k e in
        subst (λ p. IsPairOf p (λ w. slice_index (field_offsets w (record_of table types)) n)) (sym (ap (λ ps. get_or ps n d) is ∙ get_or_append_left places (place ∷ []) d n (omega (arith, low, count)))) (before table n d filled low)
    by false e =
        let high : k ≤ n = ltb-false n k e in
        let same : n ≡ k = omega (arith, high, l) in
        let read : get_or now n d ≡ place = ap (λ ps. get_or ps n d) is ∙ ap (λ j. get_or (places ++ place ∷ []) j d) (same ∙ sym count) ∙ get_or-append_seam places place [] d in
        subst (λ p. IsPairOf p (λ w. slice_index (field_offsets w (record_of table types)) n)) (sym read) (subst (λ j. IsPairOf place (λ w. slice_index (field_offsets w (record_of table types)) j)) (sym same) (here table filled))

module _ (w : ℕ) where
  pub at_width : (s : ArchitectureSize) (f : ℕ → ℕ) → (w ≡ 2) ⊎ (w ≡ 3) → IsPairOf s f → bytes_at s (2 ^ w) ≡ f w
  at_width s f (inl e) pair = ap (λ k. bytes_at s (2 ^ k)) e ∙ pair.0 ∙ ap f (sym e)
  at_width s f (inr e) pair = ap (λ k. bytes_at s (2 ^ k)) e ∙ pair.1 ∙ ap f (sym e)

  pub align_at_width : (a : Alignment) (f : ℕ → ℕ) → (w ≡ 2) ⊎ (w ≡ 3) → IsAlignmentOf a f → alignment_at a (2 ^ w) ≡ f w
  align_at_width a f (inl e) both = ap (λ k. alignment_at a (2 ^ k)) e ∙ both.0 ∙ ap f (sym e)
  align_at_width a f (inr e) both = ap (λ k. alignment_at a (2 ^ k)) e ∙ both.1 ∙ ap f (sym e)

  -- so far beyond an offset
  pub place_told : (place offset at : ArchitectureSize) (f : ℕ → ℕ) → (w ≡ 2) ⊎ (w ≡ 3) → place ≡ beyond offset at → IsPairOf at f → bytes_at place (2 ^ w) ≡ bytes_at offset (2 ^ w) + f w
  place_told place offset at f wide e pair = ap (λ s. bytes_at s (2 ^ w)) e ∙ beyond_at offset at (2 ^ w) ∙ ap (λ n. bytes_at offset (2 ^ w) + n) (at_width at f wide pair)

module _ (w : ℕ) (types : List TypeDef) where
  pub record_layout : (tys : List WitType) → record_of types tys ≡ layout (fields (shapes_of types tys))
  record_layout tys = ap Tree.fields (sym (of_payloads (shapes types) (map (λ ty. Some ty) tys) ∙ ap (λ ts. tree_payloads ts (map (λ ty. Some ty) tys)) (layouts_are_trees types)))

  -- the place of a part of a record that stands at the address itself
  pub record_place : (tys : List WitType) (i : ℕ) (d : WitType) (s : ArchitectureSize) → (w ≡ 2) ⊎ (w ≡ 3) → i < length tys → IsPairOf s (λ w. slice_index (field_offsets w (record_of types tys)) i)
      → bytes_at s (2 ^ w) ≡ bytes_at nowhere (2 ^ w) + place (extent_of w (layout (shape_of types (get_or tys i d)))) (end (extents_of w (layouts (shapes_of types (take i tys)))) 0)
  record_place tys i d s wide l pair =
      let here = place (extent_of w (layout (shape_of types (get_or tys i d)))) (end (extents_of w (layouts (shapes_of types (take i tys)))) 0) in
      let none : here ≡ bytes_at nowhere (2 ^ w) + here = omega arith in
      at_width w s (λ v. slice_index (field_offsets v (record_of types tys)) i) wide pair ∙ ap (λ t. slice_index (field_offsets w t) i) (record_layout tys) ∙ place_of w types tys i d l ∙ none
