-- Where the members of a record end, and how large it is.
use Rattle.std.proofs.Common.{◌≡◌, ℕ, zero, suc, ◌+◌, ◌*◌, ◌^◌, ◌<◌, ◌≤◌, inl, inr, ⊎_elim, true, false, ◌&&◌, nat_lt, List, [], ◌∷◌, length, map, take, drop, get_or, Some, refl, sym, ap, ap₂, ◌∙◌, arith, pow_pos}
use Rattle.std.specs.List.{slice_get, list_all}
use Rattle.std.specs.Option.{option_map}
use Rattle.std.proofs.lemmas.List.{length-take, take-map}
use Rattle.std.proofs.lemmas.Option.{slice_get-map}
use Rattle.std.proofs.lemmas.Bool.{and_parts, le-ltb, ltb-true}
use Rattle.wit_model.specs.declared.types.WitType.{WitType}
use Rattle.wit_model.specs.declared.types.TypeDef.{TypeDef}
use Rattle.wit_model.specs.TypeOrder.{type_below}
use Rattle.wit_model.proofs.Rounding.{rounded_above}
use Rattle.wit_layout.specs.declared.stored.StoredExtent.{StoredExtent}
use Rattle.wit_layout.specs.declared.type_layout.TypeLayout.{TypeLayout}
use Rattle.wit_layout.specs.declared.size_align.SizeAlign.{SizeAlign}
use Rattle.wit_layout.specs.Extent.{Extent, place, places, end, greatest, record_extent}
use Rattle.wit_layout.specs.Tree.{nothing, trees, payloads_in, record_of}
use Rattle.wit_layout.specs.Sizes.{elem_size, extent_of, extents_of}
use Rattle.wit_layout.specs.inside.Stored.{seen, seen_type}
use Rattle.wit_layout.specs.Filled.{IsFilledFor, IsMeasurable, EndsInRoom, have_sizes, members_seen, fits_in_record}
use Rattle.wit_layout.proofs.KindLemmas.{type_seen}

-- parts end behind where they begin
pub end_behind : (parts : List Extent) (from : ℕ) → from ≤ end parts from
end_behind [] from = omega arith
end_behind (part ∷ parts) from =
    omega (arith, rounded_above (2 ^ part.grain) from (pow_pos part.grain), end_behind parts (place part from + part.bytes))

-- and a record behind its last part
pub record_behind : (parts : List Extent) → end parts 0 ≤ (record_extent parts).bytes
record_behind parts = rounded_above (2 ^ (greatest parts).grain) (end parts 0) (pow_pos (greatest parts).grain)

-- what was gathered of members that end in room stays small
pub members_small : (sizes : SizeAlign) (members : List WitType) (i at : ℕ) → EndsInRoom sizes members → i ≤ length members → at ≤ i * 2 ^ 32 → end (drop i (members_seen 3 sizes members)) at ≡ end (members_seen 3 sizes members) 0 → at ≤ 2 ^ 33
members_small sizes members i at room within few here =
    let all = members_seen 3 sizes members in
    let small : at ≤ 2 ^ 33 = ⊎_elim (λ two. omega arith) (λ fits. omega (arith, end_behind (drop i all) at, here, fits)) room in
    small

-- a measurable record ends in room, and so does its front
pub ends_in_room : (sizes : SizeAlign) (members : List WitType) → IsMeasurable sizes members → EndsInRoom sizes members
ends_in_room sizes members room =
    let all = members_seen 3 sizes members in
    ⊎_elim (λ two. inl two) (λ fits. inr (omega (arith, record_behind all, ltb-true (record_extent all).bytes (2 ^ 31) fits))) room

pub end-split : (n : ℕ) (parts : List Extent) (from : ℕ) → end (drop n parts) (end (take n parts) from) ≡ end parts from
end-split zero parts from = refl
end-split (suc n) [] from = refl
end-split (suc n) (part ∷ parts) from = end-split n parts (place part from + part.bytes)

pub front_in_room : (sizes : SizeAlign) (members : List WitType) (n : ℕ) → n < length members → EndsInRoom sizes members → EndsInRoom sizes (take n members)
front_in_room sizes members n within room =
    let all = members_seen 3 sizes members in
    let front : members_seen 3 sizes (take n members) ≡ take n all = sym (take-map (seen_type 3 sizes.layouts) n members) in
    ⊎_elim (λ two. inl (omega (arith, length-take n members, two))) (λ fits. inr (omega (arith, ap (λ ps. end ps 0) front, end-split n all 0, end_behind (drop n all) (end (take n all) 0), fits))) room

pub front_have_sizes : (sizes : SizeAlign) (n : ℕ) (members : List WitType) → have_sizes sizes members ≡ true → have_sizes sizes (take n members) ≡ true
front_have_sizes sizes zero members h = refl
front_have_sizes sizes (suc n) [] h = refl
front_have_sizes sizes (suc n) (ty ∷ members) h =
    let b = and_parts _ _ h in
    ap₂ (λ x y. x && y) b.0 (front_have_sizes sizes n members b.1)

-- the place of one of some parts
pub places-at : (n : ℕ) (parts : List Extent) (part : Extent) (from : ℕ) → slice_get parts n ≡ Some part → get_or (places parts from) n 0 ≡ place part (end (take n parts) from)
places-at n [] part from e = cc
places-at zero (first ∷ parts) part from e =
    let is : first ≡ part = cc in ap (λ (p : Extent). place p from) is
places-at (suc n) (first ∷ parts) part from e = places-at n parts part (place first from + first.bytes) e

-- and what passes 2^31 bytes somewhere is too large
pub members_large : (sizes : SizeAlign) (members : List WitType) (i at : ℕ) → 2 ^ 31 ≤ at → end (drop i (members_seen 3 sizes members)) at ≡ end (members_seen 3 sizes members) 0 → false ≡ fits_in_record sizes members
members_large sizes members i at large here =
    let all = members_seen 3 sizes members in
    sym (le-ltb (record_extent all).bytes (2 ^ 31) (omega (arith, end_behind (drop i all) at, here, record_behind all, large)))

-- what the layouts say of the members is what their trees take
module _ (w : ℕ) (layouts : List TypeLayout) (table : List TypeDef) (agree : (i : ℕ) (layout : TypeLayout) → slice_get layouts i ≡ Some layout → seen w layout.extent ≡ extent_of w (get_or (trees table) i nothing)) where
  pub members_are : (members : List WitType) → list_all (type_below (length layouts)) members ≡ true → map (seen_type w layouts) members ≡ extents_of w (payloads_in (trees table) (map (λ ty. Some ty) members))
  members_are [] h = refl
  members_are (ty ∷ members) h =
      let b = and_parts _ _ h in
      ap₂ (λ (e : Extent) es. e ∷ es) (type_seen w layouts (trees table) agree ty b.0) (members_are members b.1)

module _ (sizes : SizeAlign) (members : List WitType) (h : have_sizes sizes members ≡ true) (table : List TypeDef) (filled : IsFilledFor sizes table) where
  pub members4 : members_seen 2 sizes members ≡ extents_of 2 (payloads_in (trees table) (map (λ ty. Some ty) members))
  members4 = members_are 2 sizes.layouts table (λ i layout e. (filled.extents i layout e).0) members h

  pub members8 : members_seen 3 sizes members ≡ extents_of 3 (payloads_in (trees table) (map (λ ty. Some ty) members))
  members8 = members_are 3 sizes.layouts table (λ i layout e. (filled.extents i layout e).1) members h

  pub record4 : record_extent (members_seen 2 sizes members) ≡ extent_of 2 (record_of table members)
  record4 = ap record_extent members4

  pub record8 : record_extent (members_seen 3 sizes members) ≡ extent_of 3 (record_of table members)
  record8 = ap record_extent members8

  pub fits_filled : fits_in_record sizes members ≡ nat_lt (elem_size 3 (record_of table members)) (2 ^ 31)
  fits_filled = ap (λ (e : Extent). nat_lt e.bytes (2 ^ 31)) record8

-- what a call said of a type, by the layouts that it was given
pub seen_by : (w : ℕ) (told layouts : List TypeLayout) (ty : WitType) (e : StoredExtent) → told ≡ layouts → seen w e ≡ seen_type w told ty → seen w e ≡ seen_type w layouts ty
seen_by w told layouts ty e same h = h ∙ ap (λ (ls : List TypeLayout). seen_type w ls ty) same

-- the place of a member, by what was gathered of those before it
pub offset_seen : (w : ℕ) (layouts : List TypeLayout) (members : List WitType) (nth : ℕ) (ty : WitType) (e : StoredExtent) (at bytes : ℕ) → slice_get members nth ≡ Some ty → seen w e ≡ seen_type w layouts ty → at ≡ end (map (seen_type w layouts) (take nth members)) 0 → bytes ≡ place (seen w e) at
    → bytes ≡ get_or (places (map (seen_type w layouts) members) 0) nth 0
offset_seen w layouts members nth ty e at bytes is same ended placed =
    let f : WitType → Extent = seen_type w layouts in
    let member : slice_get (map f members) nth ≡ Some (f ty) = slice_get-map f members nth ∙ ap (option_map f) is in
    let before : at ≡ end (take nth (map f members)) 0 = ended ∙ ap (λ ps. end ps 0) (sym (take-map f nth members)) in
    placed ∙ ap₂ (λ (p : Extent) k. place p k) same before ∙ sym (places-at nth (map f members) (f ty) 0 member)
