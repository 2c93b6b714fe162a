-- The area of an import whose code is closed: it is the one that the function is due, and has bytes.
use Rattle.std.proofs.Common.{◌≡◌, ◌≤◌, ◌<◌, ℕ, zero, suc, ◌+◌, ◌*◌, ◌^◌, max, nat_le, Bool, true, false, cond, List, [], ◌∷◌, ◌++◌, length, map, Option, None, Some, refl, ap, ap₂, subst, arith}
use Rattle.std.specs.Prelude.{IfSome, option_to_list}
use Rattle.std.specs.List.{AllByRecursion, fold}
use Rattle.std.proofs.lemmas.Bool.{and_parts, leb-false}
use Rattle.std.proofs.lemmas.Bool.Decides.{nat_tests}
use Rattle.std.proofs.lemmas.Nat.{pow_pos}
use Rattle.wit_layout.specs.Extent.{Extent, discriminant_grain, end, extent, flag_words, flags_extent, greatest, payload_place, place, variant_extent}
use Rattle.wit_layout.specs.Flat.{flatten_record, flatten_type}
use Rattle.wit_layout.specs.Sizes.{count, elem_size, extent_of, extents_of, scalar_grain}
use Rattle.wit_model.proofs.Rounding.{rounded_above}
use Rattle.wit_model.specs.Size.{alignment_at, bytes_at, greater_alignment, greater_size, paired}
use Rattle.wit_model.specs.declared.size.Alignment.TheVariants.{Bytes}
use Rattle.wit_model.specs.declared.size.ArchitectureSize.{ArchitectureSize}
use Rattle.wrapper_data.specs.declared.choice.Request.{Request}
use Rattle.wrapper_meaning.specs.Areas.{area_for, parameter_record, result_record, stored_alignment}
use Rattle.wrapper_meaning.specs.Layout.{layout, layouts}
use Rattle.wrapper_meaning.specs.Represents.{are_indirect, is_indirect}
use Rattle.wrapper_meaning.specs.Shape.{Shape, Shapes}
use Rattle.wrapper_meaning.specs.Shape.Shape.{cases, fields, fixed, flags, handle, list, other, pairs, resource, scalar, text, tuple}
use Rattle.wrapper_meaning.specs.Shape.Shapes.{more, none}
use Rattle.abi_bindgen.specs.declared.bindgen.Asked.{Asked}
use Rattle.abi_bindgen.specs.Area.{AreFor, HoldsRecord}
use Rattle.abi_bindgen.specs.Code.{record_size}
use Rattle.abi_driver.proofs.AreaAsked.{record_told}
use Rattle.func_gen.specs.Meaning.{IsArea}
use Rattle.wrapper_closing.specs.Direct.{are_direct, is_direct, is_direct_result}
use Rattle.wrapper_closing.specs.ImportBlock.{wanted}
use Rattle.wrapper_closing.proofs.AreaRoom.{area_aligned, area_large, area_room}
use Rattle.wit_layout.proofs.RecordSteps.{end_behind, record_behind}
use Rattle.abi_driver.proofs.AreaSteps.{last_room}

-- 1. What has words has bytes

first_end : (e : Extent) (es : List Extent) → end (e ∷ es) 0 ≡ 0 → e.bytes ≡ 0
first_end e es h = omega (arith, h, end_behind es (place e 0 + e.bytes))

-- a tag has bytes, and so do flags
tag_bytes : (n : ℕ) (payload : Extent) → 0 < (variant_extent n payload).bytes
tag_bytes n payload =
    let grain = max (discriminant_grain n) payload.grain in
    omega (arith, rounded_above (2 ^ grain) (payload_place n payload + payload.bytes) (pow_pos grain), rounded_above (2 ^ payload.grain) (2 ^ discriminant_grain n) (pow_pos payload.grain), pow_pos (discriminant_grain n))

flag_bytes : (n : ℕ) → 0 < (flags_extent n).bytes
flag_bytes n = go (nat_le n 8) (nat_le n 16) refl
  where
    go : (eight sixteen : Bool) → nat_le n 16 ≡ sixteen → 0 < (cond eight (extent 0 1) (cond sixteen (extent 1 2) (extent 2 (4 * flag_words n)))).bytes
    go true sixteen e = omega arith
    go false true e = omega arith
    go false false e = let many = leb-false n 16 e in omega (arith, many)

mutual
  no_words : (t : Shape) → is_direct t ≡ true → elem_size 2 (layout t) ≡ 0 → flatten_type (layout t) ≡ []
  no_words (scalar s) d h = absurd (omega (arith, h, pow_pos (scalar_grain s)))
  no_words text d h = absurd (omega (arith, h))
  no_words (fields ts) d h = no_words_in ts 0 d (omega (arith, h, record_behind (extents_of 2 (layouts ts))))
  no_words (tuple ts) d h = no_words_in ts 0 d (omega (arith, h, record_behind (extents_of 2 (layouts ts))))
  no_words (list t) d h = absurd cc
  no_words (pairs x y) d h = absurd cc
  no_words (fixed t n) d h = absurd cc
  no_words (cases ts) d h = absurd (omega (arith, h, tag_bytes (count (layouts ts)) (greatest (extents_of 2 (layouts ts)))))
  no_words (flags n) d h = absurd (omega (arith, h, flag_bytes n))
  no_words (handle o n) d h = absurd cc
  no_words (resource n) d h = absurd cc
  no_words other d h = absurd cc

  no_words_in : (ts : Shapes) (k : ℕ) → are_direct ts ≡ true → end (extents_of 2 (layouts ts)) k ≡ 0 → flatten_record (layouts ts) ≡ []
  no_words_in none k d h = refl
  no_words_in (more t ts) k d h =
      let both = and_parts (is_direct t) (are_direct ts) d in
      let e = extent_of 2 (layout t) in
      let behind = end_behind (extents_of 2 (layouts ts)) (place e k + e.bytes) in
      ap₂ (λ xs ys. xs ++ ys) (no_words t both.0 (omega (arith, h, behind))) (no_words_in ts (place e k + e.bytes) both.1 h)

some_bytes : (t : Shape) → is_direct t ≡ true → 0 < length (flatten_type (layout t)) → 0 < elem_size 2 (layout t)
some_bytes t d h = go (elem_size 2 (layout t)) refl
  where
    go : (n : ℕ) → elem_size 2 (layout t) ≡ n → 0 < n
    go zero e = absurd (let none = ap length (no_words t d e) in omega (arith, none, h))
    go (suc n) e = omega arith

-- 2. The records by which an import passes values

abbrev pub HaveBytes : List Shape → Type 0
HaveBytes ts = AllByRecursion (λ t. 0 < elem_size 2 (layout t)) ts

parameters_have : (ts : Shapes) → are_direct ts ≡ true → (c : Bool) → are_indirect ts ≡ c → HaveBytes (cond c (fields ts ∷ []) [])
parameters_have ts d true e = (some_bytes (fields ts) d (let l : 16 < length (flatten_record (layouts ts)) = grind (arith, nat_tests) in omega (arith, l)), tt)
parameters_have ts d false e = tt

result_has : (t : Shape) → is_direct t ≡ true → (c : Bool) → is_indirect (Some t) ≡ c → HaveBytes (cond c (t ∷ []) [])
result_has t d true e = (some_bytes t d (let l : 1 < length (flatten_type (layout t)) = grind (arith, nat_tests) in omega (arith, l)), tt)
result_has t d false e = tt

pub both_have : (xs ys : List Shape) → HaveBytes xs → HaveBytes ys → HaveBytes (xs ++ ys)
both_have [] ys h g = g
both_have (x ∷ xs) ys h g = (h.0, both_have xs ys h.1 g)

pub results_have : (r : Option Shape) → is_direct_result r ≡ true → HaveBytes (result_record r)
results_have None d = tt
results_have (Some t) d = result_has t d (is_indirect (Some t)) refl

abbrev pub records_of : Shapes → Option Shape → List Shape
records_of ts r = parameter_record ts ++ result_record r

have_bytes : (ts : Shapes) (r : Option Shape) → are_direct ts ≡ true → is_direct_result r ≡ true → HaveBytes (records_of ts r)
have_bytes ts r d g = both_have (parameter_record ts) (result_record r) (parameters_have ts d (are_indirect ts) refl) (results_have r g)

-- 3. The area

told : (t : Shape) (ts : List Shape) (a : Asked) (asked : List Asked) → AreFor (t ∷ ts) (a ∷ asked) → (a.size ≡ record_size t) × (a.align ≡ stored_alignment t)
told t ts a asked (size, align, h) = record_told t (layout t) a.size a.align refl size align

sizes_same : (ts : List Shape) (asked : List Asked) → AreFor ts asked → map (λ a. a.size) asked ≡ map (λ t. paired (elem_size 2 (layout t)) (elem_size 3 (layout t))) ts
sizes_same [] [] h = refl
sizes_same [] (a ∷ asked) h = absurd h
sizes_same (t ∷ ts) [] h = absurd h
sizes_same (t ∷ ts) (a ∷ asked) h = ap₂ (λ x xs. x ∷ xs) (told t ts a asked h).0 (sizes_same ts asked h.2)

alignments_same : (ts : List Shape) (asked : List Asked) → AreFor ts asked → map (λ a. a.align) asked ≡ map stored_alignment ts
alignments_same [] [] h = refl
alignments_same [] (a ∷ asked) h = absurd h
alignments_same (t ∷ ts) [] h = absurd h
alignments_same (t ∷ ts) (a ∷ asked) h = ap₂ (λ x xs. x ∷ xs) (told t ts a asked h).1 (alignments_same ts asked h.2)

-- it is asked for as the function is due it
pub area_due : (ts : List Shape) (asked : List Asked) → AreFor ts asked → option_to_list (wanted asked) ≡ area_for 2 ts
area_due [] [] h = refl
area_due [] (a ∷ asked) h = absurd h
area_due (t ∷ ts) [] h = absurd h
area_due (t ∷ ts) (a ∷ asked) h =
    ap₂ {C = List Request} (λ (ss : List ArchitectureSize) gs. record { size = bytes_at (fold greater_size (record { bytes = 0; pointers = 0 }) ss) 4; align = alignment_at (fold greater_alignment (Bytes 1) gs) 4 } ∷ [])
    (sizes_same (t ∷ ts) (a ∷ asked) h) (alignments_same (t ∷ ts) (a ∷ asked) h)

pub area_holds : (ts : List Shape) (asked : List Asked) → AreFor ts asked → AllByRecursion (HoldsRecord 2 (wanted asked)) asked
area_holds ts [] h = tt
area_holds ts (a ∷ asked) h = area_room ts (a ∷ asked) h

-- an area that is wanted has bytes, and an alignment
pub sized_for : (shapes : List Shape) (asked : List Asked) → HaveBytes shapes → AreFor shapes asked → IfSome (wanted asked) IsArea
sized_for [] [] b h = tt
sized_for [] (a ∷ asked) b h = absurd h
sized_for (t ∷ shapes) [] b h = absurd h
sized_for (t ∷ shapes) (a ∷ asked) b h = (omega (arith, b.0, h.0.0, area_large (t ∷ shapes) a asked h), area_aligned (t ∷ shapes) (a ∷ asked) h)

pub area_sized : (ts : Shapes) (r : Option Shape) (asked : List Asked) → are_direct ts ≡ true → is_direct_result r ≡ true → AreFor (records_of ts r) asked → IfSome (wanted asked) IsArea
area_sized ts r asked d g h = sized_for (records_of ts r) asked (have_bytes ts r d g) h

-- each record has room in it
rooms : (ts : List Shape) (asked : List Asked) (area : Request) → AreFor ts asked → AllByRecursion (HoldsRecord 2 (Some area)) asked → AllByRecursion (λ t. elem_size 2 (layout t) ≤ area.size) ts
rooms [] [] area h k = tt
rooms [] (a ∷ asked) area h k = absurd h
rooms (t ∷ ts) [] area h k = absurd h
rooms (t ∷ ts) (a ∷ asked) area h k = (omega (arith, h.0.0, k.0.size), rooms ts asked area h.2 k.1)

-- that of the result too
pub room_for_result : (ts : Shapes) (t : Shape) (asked : List Asked) (area : Request) → is_indirect (Some t) ≡ true → AreFor (records_of ts (Some t)) asked → wanted asked ≡ Some area → elem_size 2 (layout t) ≤ area.size
room_for_result ts t asked area many h is =
    let last : result_record (Some t) ≡ t ∷ [] = ap (λ c. cond c (t ∷ []) []) many in
    let all = rooms (records_of ts (Some t)) asked area h (subst (λ a. AllByRecursion (HoldsRecord 2 a) asked) is (area_holds (records_of ts (Some t)) asked h)) in
    last_room (λ u. elem_size 2 (layout u) ≤ area.size) (parameter_record ts) t (subst (λ us. AllByRecursion (λ u. elem_size 2 (layout u) ≤ area.size) (parameter_record ts ++ us)) last all)

-- where the result passes by the area, there is one
pub some_wanted : (ts : Shapes) (t : Shape) (asked : List Asked) → is_indirect (Some t) ≡ true → AreFor (records_of ts (Some t)) asked → (area : Request) × (wanted asked ≡ Some area)
some_wanted ts t asked many h = go (parameter_record ts) asked (subst (λ us. AreFor (parameter_record ts ++ us) asked) (ap (λ c. cond c (t ∷ []) []) many) h)
  where
    go : (xs : List Shape) (asked : List Asked) → AreFor (xs ++ t ∷ []) asked → (area : Request) × (wanted asked ≡ Some area)
    go [] [] k = absurd k
    go (x ∷ xs) [] k = absurd k
    go xs (a ∷ asked) k = (_, refl)
