-- Along the fields of a record: each place from the last.
use Rattle.std.proofs.Common.{◌≡◌, ℕ, zero, suc, ◌+◌, ◌^◌, ◌<◌, true, List, [], ◌∷◌, map, take, drop, Some, sym, ap, ap₂, ◌∙◌, arith, add-one}
use Rattle.std.specs.List.{slice_get}
use Rattle.std.specs.Option.{option_map}
use Rattle.std.proofs.lemmas.List.{take-map}
use Rattle.std.proofs.lemmas.Option.{slice_get-map}
use Rattle.std.proofs.lemmas.Bool.{ltb-true}
use Rattle.wit_model.specs.declared.types.WitType.{WitType}
use Rattle.wit_layout.specs.declared.stored.StoredExtent.{StoredExtent}
use Rattle.wit_layout.specs.declared.size_align.SizeAlign.{SizeAlign}
use Rattle.wit_layout.specs.Extent.{Extent, place, end, record_extent}
use Rattle.wit_layout.specs.inside.Stored.{seen, seen_type}
use Rattle.wit_layout.specs.Filled.{members_seen, fits_in_record}
use Rattle.wit_layout.proofs.RecordSteps.{end_behind, end-split, record_behind}

end-suc : (n : ℕ) (parts : List Extent) (part : Extent) (from : ℕ) → slice_get parts n ≡ Some part → end (take (suc n) parts) from ≡ place part (end (take n parts) from) + part.bytes
end-suc n [] part from e = cc
end-suc zero (first ∷ parts) part from e =
    let is : first ≡ part = cc in ap (λ (p : Extent). place p from + p.bytes) is
end-suc (suc n) (first ∷ parts) part from e = end-suc n parts part (place first from + first.bytes) e

-- the front of a record that fits is small
pub front_small : (sizes : SizeAlign) (members : List WitType) (n at : ℕ) → fits_in_record sizes members ≡ true → at ≡ end (members_seen 3 sizes (take n members)) 0 → at < 2 ^ 31
front_small sizes members n at fits here =
    let all = members_seen 3 sizes members in
    let front : end (members_seen 3 sizes (take n members)) 0 ≡ end (take n all) 0 = ap (λ ps. end ps 0) (sym (take-map (seen_type 3 sizes.layouts) n members)) in
    omega (arith, here, front, end-split n all 0, end_behind (drop n all) (end (take n all) 0), record_behind all, ltb-true (record_extent all).bytes (2 ^ 31) fits)

-- the end of one more member, by the end of those before it
pub end_next : (w : ℕ) (sizes : SizeAlign) (members : List WitType) (n : ℕ) (ty : WitType) (e : StoredExtent) (at placed next : ℕ) → slice_get members n ≡ Some ty → seen w e ≡ seen_type w sizes.layouts ty → at ≡ end (members_seen w sizes (take n members)) 0
    → placed ≡ place (seen w e) at → next ≡ placed + (seen w e).bytes → next ≡ end (members_seen w sizes (take (n + 1) members)) 0
end_next w sizes members n ty e at placed next is same here put ended =
    let f : WitType → Extent = seen_type w sizes.layouts in
    let member : slice_get (map f members) n ≡ Some (f ty) = slice_get-map f members n ∙ ap (option_map f) is in
    let before : at ≡ end (take n (map f members)) 0 = here ∙ ap (λ ps. end ps 0) (sym (take-map f n members)) in
    ended ∙ ap (λ k. k + (seen w e).bytes) put ∙ ap₂ (λ (p : Extent) k. place p k + p.bytes) same before ∙ sym (end-suc n (map f members) (f ty) 0 member)
    ∙ ap (λ k. end (take k (map f members)) 0) (sym (add-one n)) ∙ ap (λ ps. end ps 0) (take-map f (n + 1) members)
