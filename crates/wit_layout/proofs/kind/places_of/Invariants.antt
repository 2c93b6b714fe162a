use Rattle.std.proofs.Common.{◌≡◌, ◌*◌, ◌^◌, ◌≤◌, ◌++◌, drop, map}
use Rattle.wit_model.specs.Size.{bytes_at}
use Rattle.wit_layout.specs.Extent.{places}
use Rattle.wit_layout.specs.inside.Kind.{part_extents}
use Rattle.wit_layout.specs.inside.Spread.{IsSize}
use Rattle.wit_layout.specs.inside.Stored.{seen_payload}
use Rattle.wit_layout.proofs.kind.places_of.Given as goal

abbrev pub invariant-loop-nth : goal.invariant-loop-nth
invariant-loop-nth l =
    let parts4 = part_extents (seen_payload 2 l.layouts) l.kind in
    let parts8 = part_extents (seen_payload 3 l.layouts) l.kind in
    record {
      places4 : map (λ s. bytes_at s 4) l.offsets ++ places (drop l.nth parts4) l.end.at4 ≡ places parts4 0;
      places8 : map (λ s. bytes_at s 8) l.offsets ++ places (drop l.nth parts8) l.end.at8 ≡ places parts8 0;
      size : IsSize l.end;
      bounded : l.end.at8 ≤ l.nth * 2 ^ 32;
    }
