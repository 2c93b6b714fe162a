use Rattle.std.proofs.Common.{◌+◌, ◌<◌, ◌≤◌, [], ◌∷◌, List, length, get_or, slice_index, sym, ap, ◌∙◌, subst, arith, refl}
use Rattle.std.proofs.lemmas.List.{drop_more, length-append}
use Rattle.wit_model.specs.declared.size.ArchitectureSize.{ArchitectureSize}
use Rattle.wit_model.specs.declared.types.WitType.TheVariants as wit
use Rattle.wit_layout.specs.Sizes.{field_offsets}
use Rattle.wit_layout.specs.Told.{IsPairOf}
use Rattle.wit_layout.specs.Tree.{record_of}
use Rattle.abi_bindgen.specs.Code.{load_code, argument_place}
use Rattle.abi_bindgen.specs.Frees.{nowhere}
use Rattle.abi_driver.proofs.LoadSteps.{rest_last, rest_next}
use Rattle.abi_bindgen.proofs.Serving.{part_served}
use Rattle.abi_driver.proofs.LowPlaces.{small_fits, small_part}
use Rattle.abi_driver.proofs.PartOffsets.{behind_next, pair_is}
use Rattle.abi_bindgen.proofs.TableSizes.{have_places}
use Rattle.abi_driver.proofs.RecordPlaces.{record_place}
use Rattle.abi_bindgen.proofs.Records.{part_below_within}
use Rattle.abi_bindgen.proofs.Runs.{adds_both}
use Rattle.abi_bindgen.proofs.Writing.{one_written, writes_later}
use Rattle.abi_bindgen.proofs.FlowSteps.{flows_as, flows_next, flows_last}
use Rattle.abi_driver.proofs.calls.record.load_at.Goals as goal

pub record_places-requires-clause-small : goal.record_places-requires-clause-small
record_places-requires-clause-small g c =
    let types = c.args.resolve.now.types in
    let sizes = c.sizes-sizes.result.now in
    let tys = c.args.tys.now in
    let filled = c.sizes-sizes.ensures types c.requires.knows in
    small_fits sizes tys (have_places sizes types tys filled c.requires.below) types filled c.requires.small

pub load_type-requires : goal.load_type-requires
load_type-requires g c =
    let types = c.args.resolve.now.types in
    let short : c.loop-i.i < length c.args.tys.now = omega (arith, c.loop-i-test.true) in
    let tys = c.args.tys.now in
    let i = c.loop-i.i in
    let filled = c.sizes-sizes.ensures types c.requires.knows in
    let pair = subst (λ (ps : List ArchitectureSize). IsPairOf (get_or ps i nowhere) (λ w. slice_index (field_offsets w (record_of types tys)) i)) (sym c.as_slice.ensures) (c.in_ok-places.ensures.each types i nowhere filled short) in
    record {
      well = c.requires.well;
      down = c.requires.down;
      below = part_below_within (length types) c.args.tys.now c.requires.below c.loop-i.i wit.Bool short (length types) (omega arith);
      knows = c.loop-i.invariant.adds.grows.knows types c.requires.knows;
      serves = part_served types tys i wit.Bool c.requires.serves short;
      writes = writes_later g.B.Bindgen.meaning types _ _ (get_or tys i wit.Bool) c.loop-i.invariant.adds.grows (one_written g.B.Bindgen.meaning types c.args.bindgen.now tys i wit.Bool c.requires.writes short);
      low = small_part types tys i wit.Bool short (get_or c.as_slice.result.now i nowhere) c.requires.small pair;
    }

pub loop-i-preserved : goal.loop-i-preserved
loop-i-preserved g c =
    let m = g.B.Bindgen.meaning in
    let sound = g.met.B.Bindgen.sound in
    let types = c.args.resolve.now.types in
    let tys = c.args.tys.now in
    let i = c.loop-i.i in
    let short : i < length tys = omega (arith, c.loop-i-test.true) in
    let filled = c.sizes-sizes.ensures types c.requires.knows in
    let pair = subst (λ (ps : List ArchitectureSize). IsPairOf (get_or ps i nowhere) (λ w. slice_index (field_offsets w (record_of types tys)) i)) (sym c.as_slice.ensures) (c.in_ok-places.ensures.each types i nowhere filled short) in
    let here = ap (load_code types (get_or tys i wit.Bool)) (sym (pair_is (get_or c.as_slice.result.now i nowhere) (λ w. slice_index (field_offsets w (record_of types tys)) i) pair)) in
    let reads = c.args.address.now ∷ [] in
    let part = c.in_ok-part.part in
    let load = flows_as m types (load_code types (get_or tys i wit.Bool) (get_or c.as_slice.result.now i nowhere)) (load_code types (get_or tys i wit.Bool) (argument_place types tys i)) reads (part ∷ []) c.loop-i.bindgen c.load_type.new.bindgen here c.in_ok-part.ensures.flows in
    record {
      adds = adds_both m _ _ _ c.loop-i.invariant.adds c.in_ok-part.ensures.loads.adds;
      count = ap length c.in_ok-push.ensures.ok ∙ length-append c.loop-i.parts (c.in_ok-part.part ∷ []) ∙ ap (λ n. n + 1) c.loop-i.invariant.count;
      flows = flows_next m types 1 (λ ty. 0) (λ n ty. load_code types ty (argument_place types tys n)) reads tys reads c.args.bindgen.now i wit.Bool [] [] c.loop-i.parts (part ∷ []) c.push.new.self c.loop-i.bindgen c.load_type.new.bindgen short refl refl c.in_ok-push.ensures.ok load c.loop-i.invariant.flows;
      rest = rest_next m sound types tys c.args.address.now nowhere (get_or c.as_slice.result.now i nowhere) i c.loop-i.parts c.push.new.self _ _ _ (get_or tys i wit.Bool) c.in_ok-part.part
          (drop_more tys i wit.Bool short)
          (behind_next m.width types tys i wit.Bool short)
          (record_place m.width types tys i wit.Bool (get_or c.as_slice.result.now i nowhere) sound.wide short pair)
          c.in_ok-part.ensures.loads c.in_ok-push.ensures.ok c.loop-i.invariant.rest;
    }

pub returns-clause-count : goal.returns-clause-count
returns-clause-count g c = let count = c.loop-i.invariant.count in omega (arith, count, c.loop-i-test.false, c.loop-i.auto.i-end)

pub returns-clause-loads : goal.returns-clause-loads
returns-clause-loads g c =
    let m = g.B.Bindgen.meaning in
    let ended : length c.args.tys.now ≤ c.loop-i.i = omega (arith, c.loop-i-test.false) in
    rest_last m g.met.B.Bindgen.sound c.args.resolve.now.types c.args.tys.now c.args.address.now nowhere c.loop-i.i c.loop-i.parts _ _ ended c.loop-i.invariant.rest

pub returns-clause-flows : goal.returns-clause-flows
returns-clause-flows g c =
    let types = c.args.resolve.now.types in
    let tys = c.args.tys.now in
    let ended : length tys ≤ c.loop-i.i = omega (arith, c.loop-i-test.false) in
    flows_last g.B.Bindgen.meaning types 1 (λ ty. 0) (λ n ty. load_code types ty (argument_place types tys n)) (c.args.address.now ∷ []) tys (c.args.address.now ∷ []) c.args.bindgen.now c.loop-i.i c.loop-i.parts [] _ ended c.loop-i.invariant.flows
