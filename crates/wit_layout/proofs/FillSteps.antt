-- One layout more, and what the layouts of a whole table say.
use Rattle.std.proofs.Common.{◌≡◌, ℕ, zero, suc, ◌+◌, ◌<◌, ◌≤◌, ◌^◌, ◌⊎◌, inl, inr, ⊎_elim, Bool, true, false, nat_lt, nat_le, cond, List, [], ◌∷◌, ◌++◌, length, get_or, Option, None, Some, refl, sym, ap, ◌∙◌, subst, arith, length-append}
use Rattle.std.specs.List.{slice_get, position_or_len}
use Rattle.std.proofs.lemmas.List.Sums.{position_or_len_is, AllPass-from_list_all}
use Rattle.std.proofs.lemmas.Option.{slice_get_within, slice_get_read, get_or_from_slice_get}
use Rattle.std.proofs.lemmas.Bool.{and_parts, cond-false, cond-true, le-leb, le-ltb, lt-leb, lt-ltb, ltb-true}
use Rattle.wit_model.specs.declared.types.WitType.{WitType}
use Rattle.wit_model.specs.declared.types.TypeDefKind.{TypeDefKind}
use Rattle.wit_model.specs.declared.types.TypeDef.{TypeDef}
use Rattle.wit_model.specs.declared.resolve.Resolve.{Resolve}
use Rattle.wit_model.specs.Numbered.{is_short, kind_numbered, tables_short, is_numbered}
use Rattle.wit_model.specs.TypeOrder.{type_below, parts_below, GoesDown}
use Rattle.wit_layout.specs.declared.stored.StoredExtent.{StoredExtent}
use Rattle.wit_layout.specs.declared.type_layout.TypeLayout.{TypeLayout}
use Rattle.wit_layout.specs.Extent.{Extent}
use Rattle.wit_layout.specs.Tree.{Tree, nothing, trees, tree_at, tree_of, tree_by}
use Rattle.wit_layout.specs.Sizes.{elem_size, extent_of, payload_offset, field_offsets}
use Rattle.wit_layout.specs.inside.Stored.{seen, seen_type, seen_payload, AreLayoutsOf}
use Rattle.wit_layout.specs.Told.{is_alias, IsPairOf, ArePairsOf}
use Rattle.wit_layout.specs.inside.KindLayout.{IsKindLayout}
use Rattle.wit_layout.specs.Filled.{first_too_large}
use Rattle.wit_layout.proofs.TreeLemmas.{tree_at_by, trees-length}
use Rattle.wit_layout.proofs.KindLemmas.{Agree, none_within, type_seen, kind_seen, payload_offset_seen, field_offsets_seen, alias_payload, alias_offsets}

-- the entry that a turn of a loop over the table reads
pub entry_read : {A : Type 0} (types items : List A) (i : ℕ) (entry : A) → items ≡ types → i < length items → entry ≡ get_or items i entry → slice_get types i ≡ Some entry
entry_read types items i entry same within is =
    subst (λ (xs : List _). slice_get xs i ≡ Some entry) same (slice_get_read items (length items) i entry refl within is)

-- what a call made of the layouts so far
pub made_of : (seen layouts : List TypeLayout) (kind : TypeDefKind) (told made : Option TypeLayout) → seen ≡ layouts → told ≡ made → IsKindLayout seen kind told → IsKindLayout layouts kind made
made_of seen layouts kind told made same is h =
    subst (λ (o : Option TypeLayout). IsKindLayout layouts kind o) is (subst (λ (ls : List TypeLayout). IsKindLayout ls kind told) same h)

-- an element of a list with one more is one of it or the new one
at_push : {A : Type 0} (xs : List A) (y z : A) (k : ℕ) → slice_get (xs ++ y ∷ []) k ≡ Some z → (slice_get xs k ≡ Some z) ⊎ ((k ≡ length xs) × (y ≡ z))
at_push [] y z zero e = inr (refl, cc)
at_push [] y z (suc k) e = cc
at_push (x ∷ xs) y z zero e = inl e
at_push (x ∷ xs) y z (suc k) e = ⊎_elim (λ h. inl h) (λ (k_is, y_is). inr (ap suc k_is, y_is)) (at_push xs y z k e)

module _ (layouts : List TypeLayout) (types : List TypeDef) (many : ℕ) (down : GoesDown types) (filled : AreLayoutsOf layouts types many) where
  agree4 : Agree 2 layouts (trees types)
  agree4 i layout e = (filled.extents i layout e).0

  agree8 : Agree 3 layouts (trees types)
  agree8 i layout e = (filled.extents i layout e).1

  module _ (entry : TypeDef) (is : slice_get types many ≡ Some entry) where
    pub entry_below : parts_below (length layouts) entry.kind ≡ true
    entry_below = subst (λ n. parts_below n entry.kind ≡ true) (sym filled.count) (down many entry is)

    here : tree_at types many ≡ tree_by (trees types) entry.kind
    here = tree_at_by types many entry down is

    -- a type that is not stored is too large
    pub size_from_kind : IsKindLayout layouts entry.kind None → 2 ^ 31 ≤ elem_size 3 (tree_at types many)
    size_from_kind h =
        let same = ap (λ (e : Extent). e.bytes) (kind_seen 3 layouts (trees types) agree8 entry.kind entry_below ∙ sym (ap (extent_of 3) here)) in
        subst (λ n. 2 ^ 31 ≤ n) same h

    module _ (layout : TypeLayout) (made : IsKindLayout layouts entry.kind (Some layout)) where
      new_extent4 : seen 2 layout.extent ≡ extent_of 2 (tree_at types many)
      new_extent4 = made.0.0 ∙ kind_seen 2 layouts (trees types) agree4 entry.kind entry_below ∙ sym (ap (extent_of 2) here)

      new_extent8 : seen 3 layout.extent ≡ extent_of 3 (tree_at types many)
      new_extent8 = made.0.1 ∙ kind_seen 3 layouts (trees types) agree8 entry.kind entry_below ∙ sym (ap (extent_of 3) here)

      new_payload : is_alias entry.kind ≡ false → IsPairOf layout.payload (λ w. payload_offset w (tree_at types many))
      new_payload own =
          (made.1.0 ∙ payload_offset_seen 2 layouts (trees types) agree4 entry.kind own entry_below ∙ sym (ap (payload_offset 2) here), made.1.1 ∙ payload_offset_seen 3 layouts (trees types) agree8 entry.kind own entry_below ∙ sym (ap (payload_offset 3) here))

      new_offsets : is_alias entry.kind ≡ false → ArePairsOf layout.offsets (λ w. field_offsets w (tree_at types many))
      new_offsets own =
          (made.2.0 ∙ field_offsets_seen 2 layouts (trees types) agree4 entry.kind own entry_below ∙ sym (ap (field_offsets 2) here), made.2.1 ∙ field_offsets_seen 3 layouts (trees types) agree8 entry.kind own entry_below ∙ sym (ap (field_offsets 3) here))

      new_alias_payload : is_alias entry.kind ≡ true → IsPairOf layout.payload (λ w. 0)
      new_alias_payload alias = (made.1.0 ∙ alias_payload (seen_payload 2 layouts) entry.kind alias, made.1.1 ∙ alias_payload (seen_payload 3 layouts) entry.kind alias)

      new_alias_offsets : is_alias entry.kind ≡ true → ArePairsOf layout.offsets (λ w. [])
      new_alias_offsets alias = (made.2.0 ∙ alias_offsets (seen_payload 2 layouts) entry.kind alias, made.2.1 ∙ alias_offsets (seen_payload 3 layouts) entry.kind alias)

      same_entry : (k : ℕ) (other : TypeDef) → k ≡ length layouts → slice_get types k ≡ Some other → entry ≡ other
      same_entry k other k_is e = let place : k ≡ many = k_is ∙ filled.count in cc

      pub one_more : AreLayoutsOf (layouts ++ layout ∷ []) types (many + 1)
      one_more = record {
        count = length-append layouts (layout ∷ []) ∙ omega (arith, filled.count);
        extents = λ k other e. ⊎_elim (λ old. filled.extents k other old) (λ (k_is, same).
            let place : many ≡ k = sym (k_is ∙ filled.count) in
            (ap (λ (l : TypeLayout). seen 2 l.extent) (sym same) ∙ new_extent4 ∙ ap (λ i. extent_of 2 (tree_at types i)) place, ap (λ (l : TypeLayout). seen 3 l.extent) (sym same) ∙ new_extent8 ∙ ap (λ i. extent_of 3 (tree_at types i)) place)) (at_push layouts layout other k e);
        payloads = λ k other u e f own. ⊎_elim (λ old. filled.payloads k other u old f own) (λ (k_is, same).
            let place : many ≡ k = sym (k_is ∙ filled.count) in
            let entry_is : u ≡ entry = sym (same_entry k u k_is f) in
            let new = new_payload (ap (λ (t : TypeDef). is_alias t.kind) (sym entry_is) ∙ own) in
            subst (λ (l : TypeLayout). IsPairOf l.payload (λ w. payload_offset w (tree_at types k))) same (subst (λ i. IsPairOf layout.payload (λ w. payload_offset w (tree_at types i))) place new)) (at_push layouts layout other k e);
        offsets = λ k other u e f own. ⊎_elim (λ old. filled.offsets k other u old f own) (λ (k_is, same).
            let place : many ≡ k = sym (k_is ∙ filled.count) in
            let entry_is : u ≡ entry = sym (same_entry k u k_is f) in
            let new = new_offsets (ap (λ (t : TypeDef). is_alias t.kind) (sym entry_is) ∙ own) in
            subst (λ (l : TypeLayout). ArePairsOf l.offsets (λ w. field_offsets w (tree_at types k))) same (subst (λ i. ArePairsOf layout.offsets (λ w. field_offsets w (tree_at types i))) place new)) (at_push layouts layout other k e);
        alias_payloads = λ k other u e f alias. ⊎_elim (λ old. filled.alias_payloads k other u old f alias) (λ (k_is, same).
            let new = new_alias_payload (ap (λ (t : TypeDef). is_alias t.kind) (same_entry k u k_is f) ∙ alias) in
            subst (λ (l : TypeLayout). IsPairOf l.payload (λ w. 0)) same new) (at_push layouts layout other k e);
        alias_offsets = λ k other u e f alias. ⊎_elim (λ old. filled.alias_offsets k other u old f alias) (λ (k_is, same).
            let new = new_alias_offsets (ap (λ (t : TypeDef). is_alias t.kind) (same_entry k u k_is f) ∙ alias) in
            subst (λ (l : TypeLayout). ArePairsOf l.offsets (λ w. [])) same new) (at_push layouts layout other k e);
      }

-- which type is the first that is too large

abbrev is_large : Tree → Bool
is_large t = nat_le (2 ^ 31) (elem_size 3 t)

module _ (layouts : List TypeLayout) (types : List TypeDef) (many : ℕ) (filled : AreLayoutsOf layouts types many) where
  small_by : (k : ℕ) (o : Option TypeLayout) → slice_get layouts k ≡ o → k < length layouts → elem_size 3 (tree_at types k) < 2 ^ 31
  small_by k None e l = absurd (none_within layouts k l e)
  small_by k (Some layout) e l =
      let same = ap (λ (e : Extent). e.bytes) (filled.extents k layout e).1 in
      omega (arith, same, layout.extent.bounded)

  small : (k : ℕ) → k < many → is_large (tree_at types k) ≡ false
  small k l = lt-leb (2 ^ 31) _ (small_by k (slice_get layouts k) refl (omega (arith, filled.count)))

  pub first_large : many < length types → 2 ^ 31 ≤ elem_size 3 (tree_at types many) → first_too_large types ≡ Some many
  unfolding first_too_large
  first_large within large =
      let all = trees-length types in
      let is : position_or_len is_large (trees types) ≡ many = position_or_len_is is_large (trees types) many nothing (omega (arith, all)) small (λ _. le-leb (2 ^ 31) _ large) in
      ap (λ k. cond (nat_lt k (length (trees types))) (Some k) None) is ∙ cond-true _ (Some many) None (lt-ltb many (length (trees types)) (omega (arith, all)))

  pub none_large : many ≡ length types → first_too_large types ≡ None
  unfolding first_too_large
  none_large all_done =
      let all = trees-length types in
      let is : position_or_len is_large (trees types) ≡ many = position_or_len_is is_large (trees types) many nothing (omega (arith, all)) small (λ l. absurd (omega (arith, all))) in
      ap (λ k. cond (nat_lt k (length (trees types))) (Some k) None) is ∙ cond-false _ (Some many) None (le-ltb many (length (trees types)) (omega (arith, all)))

-- what is known of numbered tables

module _ (r : Resolve) (h : is_numbered r ≡ true) where
  pub types_short : length r.types < 2 ^ 32
  unfolding is_numbered tables_short is_short
  types_short = ltb-true (length r.types) (2 ^ 32) (and_parts _ _ (and_parts _ _ (and_parts _ _ (and_parts _ _ (and_parts _ _ h).0).0).0).0).1

  pub kind_short : (i : ℕ) (entry : TypeDef) → slice_get r.types i ≡ Some entry → kind_numbered entry.kind ≡ true
  unfolding is_numbered
  kind_short i entry e =
      let all = (and_parts _ _ (and_parts _ _ h).0).1 in
      subst (λ (t : TypeDef). kind_numbered t.kind ≡ true) (get_or_from_slice_get r.types i entry entry e) (AllPass-from_list_all (λ (t : TypeDef). kind_numbered t.kind) r.types all i entry (slice_get_within r.types i entry e))

-- what the layouts say of a type
pub extent_filled : (told layouts : List TypeLayout) (types : List TypeDef) (ty : WitType) (e : StoredExtent) → told ≡ layouts → type_below (length layouts) ty ≡ true → seen 2 e ≡ seen_type 2 told ty → seen 3 e ≡ seen_type 3 told ty → AreLayoutsOf layouts types (length types)
    → (seen 2 e ≡ extent_of 2 (tree_of types ty)) × (seen 3 e ≡ extent_of 3 (tree_of types ty))
extent_filled told layouts types ty e same below four eight filled =
    let ts = trees types in
    (four ∙ ap (λ (ls : List TypeLayout). seen_type 2 ls ty) same ∙ type_seen 2 layouts ts (λ i layout e. (filled.extents i layout e).0) ty below, eight ∙ ap (λ (ls : List TypeLayout). seen_type 3 ls ty) same ∙ type_seen 3 layouts ts (λ i layout e. (filled.extents i layout e).1) ty below)
