-- The room that cases have, each for its own payload.
use Rattle.std.proofs.Common.{◌≡◌, ℕ, suc, ◌+◌, ◌%◌, ◌^◌, ◌≤◌, max, List, ◌∷◌, refl, sym, ap, subst, arith}
use Rattle.wit_layout.specs.Extent.{Extent, discriminant_grain, greatest, payload_place}
use Rattle.wit_layout.specs.Sizes.{count, extents_of, payload_offset}
use Rattle.wrapper_data.specs.declared.block.Block.{Block}
use Rattle.wrapper_data.specs.declared.heap.Heap.{Heap}
use Rattle.wrapper_meaning.specs.Layout.{layout, layouts}
use Rattle.wrapper_meaning.specs.Shape.{Shapes}
use Rattle.wrapper_meaning.specs.Shape.Shape.{cases}
use Rattle.wrapper_meaning.specs.Shape.Shapes.{none, more}
use Rattle.wrapper_meaning.proofs.HoldsLocally.{payload_within, tag_within}
use Rattle.wrapper_meaning.proofs.PartPlaces.{aligned_part, bytes_of_first, bytes_of_rest, grain_of_first, grain_of_rest, less_grain, place_aligned}
use Rattle.abi_driver.specs.FinishedBlocks.{HasCaseRoom, HasPayloadRoom}
use Rattle.abi_bindgen.specs.Parts.{count as shape_count}
use Rattle.abi_bindgen.specs.Places.{HasRoom}

-- 1. How many cases there are

pub count_layouts : (ts : Shapes) → count (layouts ts) ≡ shape_count ts
count_layouts none = refl
count_layouts (more t ts) = ap suc (count_layouts ts)

-- 2. Their room

module _ (grain tag_address payload_address : ℕ) (b : Block) (k d : ℕ) (heap : Heap) where
  smaller : (e small : Extent) → small.bytes ≤ e.bytes → small.grain ≤ e.grain → HasCaseRoom grain e tag_address payload_address b k d heap → HasCaseRoom grain small tag_address payload_address b k d heap
  smaller e small bytes grains room = record {
    formed = room.formed;
    there = room.there;
    starts = room.starts;
    behind = room.behind;
    apart = room.apart;
    fits = omega (arith, room.fits, bytes);
    tag_aligned = room.tag_aligned;
    payload_aligned = less_grain payload_address e.grain small.grain room.payload_aligned grains;
  }

  pub first_room : (e : Extent) (es : List Extent) → HasCaseRoom grain (greatest (e ∷ es)) tag_address payload_address b k d heap → HasCaseRoom grain e tag_address payload_address b k d heap
  first_room e es room = smaller (greatest (e ∷ es)) e (bytes_of_first e es) (grain_of_first e es) room

  pub rest_room : (e : Extent) (es : List Extent) → HasCaseRoom grain (greatest (e ∷ es)) tag_address payload_address b k d heap → HasCaseRoom grain (greatest es) tag_address payload_address b k d heap
  rest_room e es room = smaller (greatest (e ∷ es)) (greatest es) (bytes_of_rest e es) (grain_of_rest e es) room

-- what has room for a value with cases has room for its tag, and behind it for each payload
pub case_room : (w : ℕ) (ts : Shapes) (base at : ℕ) (b : Block) (k : ℕ) (heap : Heap) → HasRoom w (cases ts) base b k heap → at ≡ base + payload_offset w (layout (cases ts))
    → HasCaseRoom (discriminant_grain (count (layouts ts))) (greatest (extents_of w (layouts ts))) base at b k (payload_offset w (layout (cases ts))) heap
case_room w ts base at b k heap room is =
    let n = count (layouts ts) in
    let e = greatest (extents_of w (layouts ts)) in
    let g = discriminant_grain n in
    let inside = payload_within n e in record {
      formed = room.formed;
      there = room.there;
      starts = room.starts;
      behind = is;
      apart = tag_within n e;
      fits = omega (arith, room.fits, inside);
      tag_aligned = less_grain base (max g e.grain) g room.aligned (omega arith);
      payload_aligned = subst (λ x. x % 2 ^ e.grain ≡ 0) (sym is) (aligned_part base (payload_place n e) (max g e.grain) e.grain room.aligned (omega arith) (place_aligned e (2 ^ g)));
    }

-- 3. The room of a payload alone

pub payload_room : (grain : ℕ) (e : Extent) (tag_address address : ℕ) (b : Block) (k d : ℕ) (heap : Heap) → HasCaseRoom grain e tag_address address b k d heap → HasPayloadRoom e address b (k + d) heap
payload_room grain e tag_address address b k d heap room =
    record { formed = room.formed; there = room.there; starts = omega (arith, room.behind, room.starts); fits = omega (arith, room.fits); aligned = room.payload_aligned }

module _ (address : ℕ) (b : Block) (k : ℕ) (heap : Heap) where
  smaller_payload : (e small : Extent) → small.bytes ≤ e.bytes → small.grain ≤ e.grain → HasPayloadRoom e address b k heap → HasPayloadRoom small address b k heap
  smaller_payload e small bytes grains room =
      record { formed = room.formed; there = room.there; starts = room.starts; fits = omega (arith, room.fits, bytes); aligned = less_grain address e.grain small.grain room.aligned grains }

  pub first_payload : (e : Extent) (es : List Extent) → HasPayloadRoom (greatest (e ∷ es)) address b k heap → HasPayloadRoom e address b k heap
  first_payload e es room = smaller_payload (greatest (e ∷ es)) e (bytes_of_first e es) (grain_of_first e es) room

  pub rest_payload : (e : Extent) (es : List Extent) → HasPayloadRoom (greatest (e ∷ es)) address b k heap → HasPayloadRoom (greatest es) address b k heap
  rest_payload e es room = smaller_payload (greatest (e ∷ es)) (greatest es) (bytes_of_rest e es) (grain_of_rest e es) room
