-- Which values end low, and which of their parts, payloads and words begin low.
use Rattle.std.proofs.Common.{◌≡◌, ℕ, zero, suc, ◌+◌, ◌*◌, ◌^◌, ◌<◌, ◌≤◌, true, false, List, [], ◌∷◌, length, map, take, drop, get_or, Option, None, Some, refl, sym, subst, ap, ◌∙◌, arith}
use mathlib.Core.Logic.{inr}
use Rattle.std.specs.List.{slice_get, slice_index}
use Rattle.std.proofs.lemmas.Bool.{leb-true, lt-ltb, ltb-true}
use Rattle.std.proofs.lemmas.List.{length-map, take-map}
use Rattle.std.proofs.lemmas.Option.{slice_get-get_or, slice_get_within}
use Rattle.wit_model.specs.Size.{bytes_at}
use Rattle.wit_model.specs.TypeOrder.{GoesDown, type_below}
use Rattle.wit_model.specs.declared.name.TypeId.{TypeId}
use Rattle.wit_model.specs.declared.size.ArchitectureSize.{ArchitectureSize}
use Rattle.wit_model.specs.declared.types.TypeDef.{TypeDef}
use Rattle.wit_model.specs.declared.types.WitType.{WitType}
use Rattle.wit_model.specs.declared.types.WitType.TheVariants as wit
use Rattle.wit_layout.specs.declared.size_align.SizeAlign.{SizeAlign}
use Rattle.wit_layout.specs.declared.type_layout.TypeLayout.{TypeLayout}
use Rattle.wit_layout.specs.Extent.{Extent, end, flag_words, greatest, place, places}
use Rattle.wit_layout.specs.Filled.{IsFilledFor, fits_in_record, has_size, have_sizes}
use Rattle.wit_layout.specs.Sizes.{count, elem_size, extent_of, extents_of, field_offsets, payload_offset}
use Rattle.wit_layout.specs.Told.{ArePairsOf, IsPairOf, is_alias}
use Rattle.wit_layout.specs.Tree.{record_of, tree_at, tree_of}
use Rattle.wit_layout.specs.inside.Stored.{AreLayoutsOf}
use Rattle.wit_layout.proofs.KindLemmas.{none_within}
use Rattle.wit_layout.proofs.RecordSteps.{end-split, end_behind, fits_filled, record_behind}
use Rattle.wrapper_meaning.specs.Layout.{layout, layouts}
use Rattle.wrapper_meaning.specs.Shape.{Shape, Shapes, payload_in, payloads_in, shape_at, shape_of}
use Rattle.wrapper_meaning.specs.Shape.Shape.{cases, fields, flags}
use Rattle.wrapper_meaning.specs.Shape.Shapes.{none, more}
use Rattle.wrapper_meaning.proofs.HoldsLocally.{payload_within}
use Rattle.wrapper_meaning.proofs.LayoutIsTree.{layout_is_tree}
use Rattle.wrapper_meaning.proofs.PartPlaces.{bytes_of_first, bytes_of_rest}
use Rattle.abi_bindgen.specs.Code.{beyond}
use Rattle.abi_bindgen.specs.Instructions.{shapes_of}
use Rattle.abi_bindgen.specs.Places.{HasParts}
use Rattle.abi_driver.specs.Low.{EachEndsLow, EndsLow, HasLowPart, HasLowPayload, IsSmallRecord}
use Rattle.abi_driver.proofs.FlagSteps.{by_three}
use Rattle.abi_driver.proofs.PartOffsets.{behind_next, beyond_at, kind_layout, no_alias, pair_read, part_extents, part_offset, payload_offset_of}
use Rattle.abi_driver.proofs.RecordPlaces.{record_layout, record_place}

-- 1. What has a size

entry_small : (layouts : List TypeLayout) (types : List TypeDef) (i : ℕ) (o : Option TypeLayout) → AreLayoutsOf layouts types (length types) → slice_get layouts i ≡ o → i < length layouts → elem_size 3 (tree_at types i) < 2 ^ 31
entry_small layouts types i None filled e l = absurd (none_within layouts i l e)
entry_small layouts types i (Some layout) filled e l =
    let same = ap (λ (x : Extent). x.bytes) (filled.extents i layout e).1 in
    omega (arith, same, layout.extent.bounded)

type_small : (sizes : SizeAlign) (types : List TypeDef) → IsFilledFor sizes types → (ty : WitType) → type_below (length types) ty ≡ true → elem_size 3 (tree_of types ty) < 2 ^ 31
unfolding type_below
type_small sizes types filled (wit.Id id) below =
    let within : id.0 < length types = ltb-true id.0 (length types) below in
    entry_small sizes.layouts types id.0 (slice_get sizes.layouts id.0) filled refl (omega (arith, within, filled.count))
type_small sizes types filled wit.String below = omega arith
type_small sizes types filled wit.Bool below = omega arith
type_small sizes types filled wit.U8 below = omega arith
type_small sizes types filled wit.U16 below = omega arith
type_small sizes types filled wit.U32 below = omega arith
type_small sizes types filled wit.U64 below = omega arith
type_small sizes types filled wit.S8 below = omega arith
type_small sizes types filled wit.S16 below = omega arith
type_small sizes types filled wit.S32 below = omega arith
type_small sizes types filled wit.S64 below = omega arith
type_small sizes types filled wit.F32 below = omega arith
type_small sizes types filled wit.F64 below = omega arith
type_small sizes types filled wit.Char below = omega arith
type_small sizes types filled wit.ErrorContext below = omega arith

-- a value of a type of the table ends low at the address itself
pub starts_low : (sizes : SizeAlign) (types : List TypeDef) → IsFilledFor sizes types → (ty : WitType) → type_below (length types) ty ≡ true → EndsLow (shape_of types ty) (record { bytes = 0; pointers = 0 })
starts_low sizes types filled ty below = omega (arith, type_small sizes types filled ty below, ap (elem_size 3) (layout_is_tree types ty))

-- and its size is small
pub small_size : (sizes : SizeAlign) (types : List TypeDef) → IsFilledFor sizes types → (ty : WitType) → type_below (length types) ty ≡ true → (size : ArchitectureSize) → IsPairOf size (λ w. elem_size w (tree_of types ty)) → bytes_at size 8 < 2 ^ 31
small_size sizes types filled ty below size pair = omega (arith, type_small sizes types filled ty below, pair.1)

-- the layouts tell that a record is small
pub small_fits : (sizes : SizeAlign) (tys : List WitType) → have_sizes sizes tys ≡ true → (types : List TypeDef) → IsFilledFor sizes types → IsSmallRecord types tys → fits_in_record sizes tys ≡ true
small_fits sizes tys has types filled small = fits_filled sizes tys has types filled ∙ lt-ltb (elem_size 3 (record_of types tys)) (2 ^ 31) small

-- a type of the table has a size
pub sized : (sizes : SizeAlign) (types : List TypeDef) → IsFilledFor sizes types → (ty : WitType) → type_below (length types) ty ≡ true → has_size sizes ty ≡ true
sized sizes types filled ty below = subst (λ n. type_below n ty ≡ true) (sym filled.count) below

pub entry_sized : (sizes : SizeAlign) (types : List TypeDef) → IsFilledFor sizes types → (id : TypeId) (entry : TypeDef) → slice_get types id.0 ≡ Some entry → has_size sizes (wit.Id id) ≡ true
unfolding type_below
entry_sized sizes types filled id entry at = lt-ltb id.0 (length sizes.layouts) (omega (arith, slice_get_within types id.0 entry at, filled.count))

-- places that are told at both widths, of which one is read
module _ (places : List ArchitectureSize) (f : ℕ → List ℕ) (pairs : ArePairsOf places f) (n : ℕ) (within : n < length (f 3)) where
  pub place_there : n < length places
  place_there = omega (arith, sym (length-map places (λ (s : ArchitectureSize). bytes_at s 8)) ∙ ap (λ (xs : List ℕ). length xs) pairs.1, within)

  pub place_read : (d : ArchitectureSize) → IsPairOf (get_or places n d) (λ w. slice_index (f w) n)
  place_read d = pair_read places f n (get_or places n d) pairs (slice_get-get_or places n d place_there)

-- 2. Parts

places_length : (es : List Extent) (k : ℕ) → length (places es k) ≡ length es
places_length [] k = refl
places_length (e ∷ es) k = ap suc (places_length es (place e k + e.bytes))

module _ (types : List TypeDef) (tys : List WitType) (i : ℕ) (d : WitType) (short : i < length tys) where
  -- a part ends where the record ends, or before
  part_within : place (extent_of 3 (layout (shape_of types (get_or tys i d)))) (end (extents_of 3 (layouts (shapes_of types (take i tys)))) 0) + elem_size 3 (layout (shape_of types (get_or tys i d))) ≤ elem_size 3 (layout (fields (shapes_of types tys)))
  part_within =
      let f : WitType → Extent = λ ty. extent_of 3 (layout (shape_of types ty)) in
      let all = map f tys in
      let front = ap (λ es. end es 0) (part_extents 3 types (take (i + 1) tys) ∙ sym (take-map f (i + 1) tys)) in
      let whole = ap (λ es. end es 0) (part_extents 3 types tys) in
      omega (arith, behind_next 3 types tys i d short, front, whole, end-split (i + 1) all 0, end_behind (drop (i + 1) all) (end (take (i + 1) all) 0), record_behind (extents_of 3 (layouts (shapes_of types tys))))

  -- the part of a small record ends low
  pub small_part : (place : ArchitectureSize) → IsSmallRecord types tys → IsPairOf place (λ w. slice_index (field_offsets w (record_of types tys)) i) → EndsLow (shape_of types (get_or tys i d)) place
  small_part place small pair = omega (arith, record_place 3 types tys i d place (inr refl) short pair, part_within, small, ap (elem_size 3) (record_layout 3 types tys))

  module _ (id : TypeId) (down : GoesDown types) (h : HasParts types id.0 tys) (offset : ArchitectureSize) (low : EndsLow (shape_at types id.0) offset) where
    here_layout : layout (shape_at types id.0) ≡ layout (fields (shapes_of types tys))
    here_layout = kind_layout 3 types id.0 h.0 tys h.0.kind down h.1 refl h.2

    -- a part begins low
    pub part_low : HasLowPart types id.0 i offset
    part_low =
        let tree = sym (layout_is_tree types (wit.Id id)) ∙ here_layout in
        let many = ap (λ t. length (field_offsets 3 t)) tree ∙ places_length (extents_of 3 (layouts (shapes_of types tys))) 0 ∙ ap (λ (es : List Extent). length es) (part_extents 3 types tys) ∙ length-map tys (λ ty. extent_of 3 (layout (shape_of types ty))) in
        record {
          entry = h.0;
          stands = h.1;
          own = no_alias 3 types id.0 tys h;
          within = omega (arith, many, short);
          low = omega (arith, part_offset 3 types id tys i d down h short, part_within, low, ap (elem_size 3) here_layout);
        }

    -- and ends low
    pub part_ends : (place at : ArchitectureSize) → place ≡ beyond offset at → IsPairOf at (λ w. slice_index (field_offsets w (tree_at types id.0)) i) → EndsLow (shape_of types (get_or tys i d)) place
    part_ends place at e pair =
        let there = ap (λ s. bytes_at s 8) e ∙ beyond_at offset at 8 in
        omega (arith, there, pair.1, part_offset 3 types id tys i d down h short, part_within, low, ap (elem_size 3) here_layout)

-- 3. Payloads

module _ (types : List TypeDef) (id : TypeId) (ts : Shapes) (is : shape_at types id.0 ≡ cases ts) (offset : ArchitectureSize) (low : EndsLow (shape_at types id.0) offset) where
  pub payload_low : (entry : TypeDef) → slice_get types id.0 ≡ Some entry → is_alias entry.kind ≡ false → HasLowPayload types id.0 offset
  payload_low entry stands own = record {
    entry = entry;
    stands = stands;
    own = own;
    low = omega (arith, payload_offset_of 3 types id ts is, payload_within (count (layouts ts)) (greatest (extents_of 3 (layouts ts))), ap (λ s. elem_size 3 (layout s)) is, low);
  }

  each_low : (place : ArchitectureSize) (n : ℕ) (us : Shapes) → (greatest (extents_of 3 (layouts us))).bytes ≤ n → bytes_at place 8 + n < 2 ^ 31 → EachEndsLow us place
  each_low place n none most room = tt
  each_low place n (more u us) most room =
      let e = extent_of 3 (layout u) in
      let es = extents_of 3 (layouts us) in
      (omega (arith, bytes_of_first e es, most, room), each_low place n us (omega (arith, bytes_of_rest e es, most)) room)

  -- each payload ends low
  pub payloads_low : (place at : ArchitectureSize) → place ≡ beyond offset at → IsPairOf at (λ w. payload_offset w (tree_at types id.0)) → EachEndsLow ts place
  payloads_low place at e pair =
      let there = ap (λ s. bytes_at s 8) e ∙ beyond_at offset at 8 in
      let widest = greatest (extents_of 3 (layouts ts)) in
      each_low place widest.bytes ts (omega arith) (omega (arith, there, pair.1, payload_offset_of 3 types id ts is, payload_within (count (layouts ts)) widest, ap (λ s. elem_size 3 (layout s)) is, low))

pub payload_ends : (ss : List Shape) (payloads : List (Option WitType)) (i : ℕ) (d : Option WitType) (place : ArchitectureSize) → EachEndsLow (payloads_in ss payloads) place → i < length payloads → EndsLow (payload_in ss (get_or payloads i d)) place
payload_ends ss [] i d place all l = absurd (omega (arith, l))
payload_ends ss (p ∷ payloads) zero d place all l = all.0
payload_ends ss (p ∷ payloads) (suc i) d place all l = payload_ends ss payloads i d place all.1 (omega (arith, l))

-- 4. Flags

pub flag_word_low : (n nth : ℕ) (offset : ArchitectureSize) → EndsLow (flags n) offset → nth < flag_words n → bytes_at offset 8 + 4 * nth < 2 ^ 31
flag_word_low n nth offset low l =
    by_three (λ e. bytes_at offset 8 + e.bytes < 2 ^ 31 → bytes_at offset 8 + 4 * nth < 2 ^ 31) n
    (λ few room. let h = leb-true n 8 few in omega (arith, h, l, room)) (λ some room. let h = leb-true n 16 some in omega (arith, h, l, room)) (λ room. omega (arith, l, room)) low
