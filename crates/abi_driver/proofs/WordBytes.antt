-- What has words has bytes, and so a small record has few parts.
use Rattle.std.proofs.Common.{◌≡◌, ◌⊎◌, ℕ, zero, suc, ◌+◌, ◌*◌, ◌^◌, ◌<◌, ◌≤◌, max, nat_le, Bool, true, false, cond, List, [], ◌∷◌, ◌++◌, length, map, Some, refl, ap, ap₂, arith}
use mathlib.Core.Logic.{inl, inr}
use Rattle.std.specs.List.{list_all}
use Rattle.std.proofs.lemmas.Bool.{and_parts, leb-false}
use Rattle.std.proofs.lemmas.Nat.{pow_pos}
use Rattle.wit_model.proofs.Rounding.{rounded_above}
use Rattle.wit_model.specs.TypeOrder.{payload_below, type_below}
use Rattle.wit_model.specs.WellFormed.{IsWellFormed}
use Rattle.wit_model.specs.declared.resolve.Resolve.{Resolve}
use Rattle.wit_model.specs.declared.types.WitType.{WitType}
use Rattle.wit_model.specs.declared.wasm_type.WasmType.{WasmType}
use Rattle.wit_layout.specs.Extent.{Extent, discriminant_grain, end, extent, flag_words, flags_extent, greatest, payload_place, place, variant_extent}
use Rattle.wit_layout.specs.Flat.{flatten_record, flatten_type, repeated}
use Rattle.wit_layout.specs.Sizes.{count, elem_size, extent_of, extents_of, scalar_grain}
use Rattle.wit_layout.specs.Tree.{Tree, Trees, payloads_in, tree_of, trees}
use Rattle.wit_layout.specs.Tree.Tree.{cases, fields, fixed, flags, list, pairs, scalar, text}
use Rattle.wit_layout.specs.Tree.Trees.{more, none}
use Rattle.wit_layout.proofs.AheadEnough.{type_words}
use Rattle.wit_layout.proofs.CheckedWords.{checked_words}
use Rattle.wit_layout.proofs.RecordSteps.{end_behind, record_behind}
use Rattle.abi_driver.specs.Low.{IsSmallRecord}

-- a tag has bytes, and so do flags
tag_bytes : (n : ℕ) (payload : Extent) → 0 < (variant_extent n payload).bytes
tag_bytes n payload =
    let grain = max (discriminant_grain n) payload.grain in
    omega (arith, rounded_above (2 ^ grain) (payload_place n payload + payload.bytes) (pow_pos grain), rounded_above (2 ^ payload.grain) (2 ^ discriminant_grain n) (pow_pos payload.grain), pow_pos (discriminant_grain n))

flag_bytes : (n : ℕ) → 0 < (flags_extent n).bytes
flag_bytes n = go (nat_le n 8) (nat_le n 16) refl
  where
    go : (eight sixteen : Bool) → nat_le n 16 ≡ sixteen → 0 < (cond eight (extent 0 1) (cond sixteen (extent 1 2) (extent 2 (4 * flag_words n)))).bytes
    go true sixteen e = omega arith
    go false true e = omega arith
    go false false e = let many = leb-false n 16 e in omega (arith, many)

-- no elements have no words, and nor have elements without words
no_elements : (n : ℕ) (ws : List WasmType) → (n ≡ 0) ⊎ (ws ≡ []) → repeated n ws ≡ []
unfolding repeated
no_elements zero ws h = refl
no_elements (suc n) ws (inl e) = absurd (omega (arith, e))
no_elements (suc n) ws (inr e) = ap₂ (λ xs ys. xs ++ ys) e (no_elements n ws (inr e))

-- what has no bytes has no words
module _ (w : ℕ) where
  mutual
    no_words : (t : Tree) → elem_size w t ≡ 0 → flatten_type t ≡ []
    no_words (scalar s) h = absurd (omega (arith, h, pow_pos (scalar_grain s)))
    no_words text h = absurd (omega (arith, h, pow_pos w))
    no_words (list t) h = absurd (omega (arith, h, pow_pos w))
    no_words (pairs k v) h = absurd (omega (arith, h, pow_pos w))
    no_words (fixed t zero) h = no_elements 0 (flatten_type t) (inl refl)
    no_words (fixed t (suc n)) h = no_elements (suc n) (flatten_type t) (inr (no_words t (omega (arith, h))))
    no_words (fields ts) h = no_parts ts 0 (omega (arith, h, record_behind (extents_of w ts)))
    no_words (cases ts) h = absurd (omega (arith, h, tag_bytes (count ts) (greatest (extents_of w ts))))
    no_words (flags n) h = absurd (omega (arith, h, flag_bytes n))

    no_parts : (ts : Trees) (k : ℕ) → end (extents_of w ts) k ≡ 0 → flatten_record ts ≡ []
    no_parts none k h = refl
    no_parts (more t ts) k h =
        let e = extent_of w t in
        let behind = end_behind (extents_of w ts) (place e k + e.bytes) in
        ap₂ (λ xs ys. xs ++ ys) (no_words t (omega (arith, h, behind))) (no_parts ts (place e k + e.bytes) h)

  pub some_bytes : (t : Tree) → 0 < length (flatten_type t) → 0 < elem_size w t
  some_bytes t h = go (elem_size w t) refl
    where
      go : (n : ℕ) → elem_size w t ≡ n → 0 < n
      go zero e = absurd (let none = ap length (no_words t e) in omega (arith, none, h))
      go (suc n) e = omega arith

-- in a checked table each type has a byte, and so a record has as many bytes as parts at least
module _ (r : Resolve) (well : IsWellFormed r) where
  type_bytes : (ty : WitType) → type_below (length r.types) ty ≡ true → 0 < elem_size 3 (tree_of r.types ty)
  unfolding payload_below
  type_bytes ty below = some_bytes 3 (tree_of r.types ty) (type_words r.types (length r.types) (checked_words r well.unbroken) ty below)

  part_count : (tys : List WitType) (k : ℕ) → list_all (λ ty. type_below (length r.types) ty) tys ≡ true → k + length tys ≤ end (extents_of 3 (payloads_in (trees r.types) (map (λ ty. Some ty) tys))) k
  part_count [] k below = omega arith
  part_count (ty ∷ tys) k below =
      let both = and_parts _ _ below in
      let e = extent_of 3 (tree_of r.types ty) in
      omega (arith, rounded_above (2 ^ e.grain) k (pow_pos e.grain), type_bytes ty both.0, part_count tys (place e k + e.bytes) both.1)

  pub few_parts : (tys : List WitType) → list_all (λ ty. type_below (length r.types) ty) tys ≡ true → IsSmallRecord r.types tys → length tys < 2 ^ 32
  few_parts tys below small = omega (arith, part_count tys 0 below, record_behind (extents_of 3 (payloads_in (trees r.types) (map (λ ty. Some ty) tys))), small)
