use Rattle.std.proofs.Common.{◌≡◌, ◌+◌, ◌<◌, ◌^◌, ◌++◌, ◌∷◌, [], ◌∙◌, map, length, sym, ap, ap₂, arith}
use Rattle.std.proofs.lemmas.List.{map_push}
use Rattle.wit_model.specs.Size.{bytes_at}
use Rattle.wit_model.specs.Parts.{parts}
use Rattle.wit_layout.specs.inside.Stored.{seen, seen_payload}
use Rattle.wit_layout.proofs.PartSteps.{part_below, parts_short, places_kept}
use Rattle.wit_layout.proofs.kind.places_of.Goals as goal

pub extent_of_payload-part-requires : goal.extent_of_payload-part-requires
extent_of_payload-part-requires c =
    part_below _ c.args.kind.now c.loop-nth.nth c.part.result c.requires.below c.part.ensures

pub aligned-place-requires-clause-room4 : goal.aligned-place-requires-clause-room4
aligned-place-requires-clause-room4 c =
    let short : length (parts c.args.kind.now) < 2 ^ 32 = parts_short c.args.kind.now c.requires.numbered in
    omega arith

pub aligned-place-requires-clause-room8 : goal.aligned-place-requires-clause-room8
aligned-place-requires-clause-room8 c =
    let short : length (parts c.args.kind.now) < 2 ^ 32 = parts_short c.args.kind.now c.requires.numbered in
    omega arith

pub plus-end-requires-clause-fits4 : goal.plus-end-requires-clause-fits4
plus-end-requires-clause-fits4 c =
    let short : length (parts c.args.kind.now) < 2 ^ 32 = parts_short c.args.kind.now c.requires.numbered in
    omega arith

pub plus-end-requires-clause-fits8 : goal.plus-end-requires-clause-fits8
plus-end-requires-clause-fits8 c =
    let short : length (parts c.args.kind.now) < 2 ^ 32 = parts_short c.args.kind.now c.requires.numbered in
    omega arith

pub loop-nth-preserved : goal.loop-nth-preserved
loop-nth-preserved c =
    let items = parts c.args.kind.now in
    let part = c.part.result in
    let extent = c.extent_of_payload-part in
    let at = c.loop-nth.nth in
    let offsets = c.loop-nth.offsets in
    let pushed = c.in_ok-push.ensures.ok in
    let place4 = c.size.ensures.four in
    let place8 = c.size.ensures.eight in
    let done4 : map (λ s. bytes_at s 4) c.push.new.self ≡ map (λ s. bytes_at s 4) offsets ++ bytes_at c.size.result 4 ∷ [] = ap (map (λ s. bytes_at s 4)) pushed ∙ map_push (λ s. bytes_at s 4) offsets c.size.result in
    let done8 : map (λ s. bytes_at s 8) c.push.new.self ≡ map (λ s. bytes_at s 8) offsets ++ bytes_at c.size.result 8 ∷ [] = ap (map (λ s. bytes_at s 8)) pushed ∙ map_push (λ s. bytes_at s 8) offsets c.size.result in
    let next4 : c.plus-end.result.at4 ≡ bytes_at c.size.result 4 + bytes_at extent.result.size 4 = c.plus-end.ensures.four ∙ ap₂ (λ i j. i + j) (sym place4) c.bytes.ensures.four in
    let next8 : c.plus-end.result.at8 ≡ bytes_at c.size.result 8 + bytes_at extent.result.size 8 = c.plus-end.ensures.eight ∙ ap₂ (λ i j. i + j) (sym place8) c.bytes.ensures.eight in
    record {
      places4 = places_kept (seen_payload 2 c.args.layouts.now) items at part c.part.ensures (seen 2 extent.result) _ _ c.loop-nth.end.at4 _ _ _ extent.ensures.four (place4 ∙ c.aligned-place.ensures.four) next4 done4 c.loop-nth.invariant.places4;
      places8 = places_kept (seen_payload 3 c.args.layouts.now) items at part c.part.ensures (seen 3 extent.result) _ _ c.loop-nth.end.at8 _ _ _ extent.ensures.eight (place8 ∙ c.aligned-place.ensures.eight) next8 done8 c.loop-nth.invariant.places8;
      size = c.plus-end.ensures.size (c.aligned-place.ensures.size c.loop-nth.invariant.size) c.bytes.ensures.size;
      bounded = omega arith;
    }
