-- What a type takes in memory, where a pointer has 2 ^ w bytes: its size and alignment, the place of a variant's payload and
-- the places of a record's fields.
use Rattle.std.specs.Prelude.{ℕ, suc, ◌*◌, ◌^◌, List, [], ◌∷◌}
use Rattle.wit_layout.specs.Extent.{Extent, extent, places, greatest, record_extent, fixed_extent, payload_place, variant_extent, flags_extent}
use Rattle.wit_layout.specs.Tree.{Scalar, Tree, Trees}
use Rattle.wit_layout.specs.Tree.Scalar.{bool, u8, u16, u32, u64, s8, s16, s32, s64, f32, f64, char, handle}
use Rattle.wit_layout.specs.Tree.Tree.{scalar, text, list, pairs, fixed, fields, cases, flags}
use Rattle.wit_layout.specs.Tree.Trees.{none, more}

-- a scalar is aligned to its size, which is this power of 2
abbrev pub scalar_grain : Scalar → ℕ
scalar_grain bool = 0
scalar_grain u8 = 0
scalar_grain u16 = 1
scalar_grain u32 = 2
scalar_grain u64 = 3
scalar_grain s8 = 0
scalar_grain s16 = 1
scalar_grain s32 = 2
scalar_grain s64 = 3
scalar_grain f32 = 2
scalar_grain f64 = 3
scalar_grain char = 2
scalar_grain handle = 2

abbrev pub count : Trees → ℕ
count none = 0
count (more t ts) = suc (count ts)

-- a text, a list and a map are a pointer and a length
abbrev pub pointer_and_length : ℕ → Extent
pointer_and_length w = extent w (2 * 2 ^ w)

abbrev mutual
  pub extent_of : ℕ → Tree → Extent
  extent_of w (scalar s) = extent (scalar_grain s) (2 ^ scalar_grain s)
  extent_of w text = pointer_and_length w
  extent_of w (list t) = pointer_and_length w
  extent_of w (pairs k v) = pointer_and_length w
  extent_of w (fixed t n) = fixed_extent (extent_of w t) n
  extent_of w (fields ts) = record_extent (extents_of w ts)
  extent_of w (cases ts) = variant_extent (count ts) (greatest (extents_of w ts))
  extent_of w (flags n) = flags_extent n

  pub extents_of : ℕ → Trees → List Extent
  extents_of w none = []
  extents_of w (more t ts) = extent_of w t ∷ extents_of w ts

-- the bytes of a type
abbrev pub elem_size : ℕ → Tree → ℕ
elem_size w t = (extent_of w t).bytes

-- the number of which its address is a multiple
abbrev pub alignment : ℕ → Tree → ℕ
alignment w t = 2 ^ (extent_of w t).grain

-- where the payload of a variant stands in it
abbrev pub payload_offset : ℕ → Tree → ℕ
payload_offset w (cases ts) = payload_place (count ts) (greatest (extents_of w ts))
payload_offset w _ = 0

-- where the fields of a record stand in it, and the key and the value in an entry of a map
abbrev pub field_offsets : ℕ → Tree → List ℕ
field_offsets w (fields ts) = places (extents_of w ts) 0
field_offsets w (pairs k v) = places (extent_of w k ∷ extent_of w v ∷ []) 0
field_offsets w _ = []
