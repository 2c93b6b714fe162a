use Rattle.std.proofs.Common.{◌<◌, ◌≤◌, List, length, get_or, slice_index, refl, sym, ap, subst, arith, ℕ, [], ◌∷◌}
use Rattle.std.proofs.lemmas.List.{drop_more}
use Rattle.wit_model.specs.declared.types.WitType.{WitType}
use Rattle.wit_model.specs.declared.size.ArchitectureSize.{ArchitectureSize}
use Rattle.wit_model.specs.declared.types.WitType.TheVariants as wit
use Rattle.wit_layout.specs.Sizes.{field_offsets}
use Rattle.wit_layout.specs.Told.{IsPairOf}
use Rattle.wit_layout.specs.Tree.{record_of}
use Rattle.abi_bindgen.specs.Code.{free_code, argument_place}
use Rattle.abi_bindgen.specs.Frees.{nowhere}
use Rattle.abi_bindgen.specs.Flow.{Flow}
use Rattle.abi_bindgen.proofs.Serving.{part_served}
use Rattle.abi_driver.proofs.LowPlaces.{small_fits, small_part}
use Rattle.abi_driver.proofs.FreeSteps.{rest_last, rest_next}
use Rattle.abi_driver.proofs.PartOffsets.{behind_next, pair_is}
use Rattle.abi_bindgen.proofs.TableSizes.{have_places}
use Rattle.abi_driver.proofs.RecordPlaces.{record_place}
use Rattle.abi_bindgen.proofs.Records.{part_below_within}
use Rattle.abi_bindgen.proofs.Runs.{adds_both, adds_same}
use Rattle.abi_bindgen.proofs.FlowSteps.{flows_as, flows_next, flows_last}
use Rattle.abi_driver.proofs.dealloc.memory.free_record.Goals as goal

pub loop-i-init : goal.loop-i-init
loop-i-init g c = record { adds = adds_same g.B.Bindgen.meaning c.args.bindgen.now; flows = λ new gives h. h; rest = λ new h. h }

pub free_type-requires : goal.free_type-requires
free_type-requires g c =
    let types = c.args.resolve.now.types in
    let tys = c.args.types.now in
    let i = c.loop-i.i in
    let short : i < length tys = omega (arith, c.loop-i-test.true) in
    let filled = c.sizes.ensures types c.requires.knows in
    let pair = subst (λ (ps : List ArchitectureSize). IsPairOf (get_or ps i nowhere) (λ w. slice_index (field_offsets w (record_of types tys)) i)) (sym c.as_slice.ensures) (c.in_ok-places.ensures.each types i nowhere filled short) in
    record {
      down = c.requires.down;
      below = part_below_within (length types) c.args.types.now c.requires.below c.loop-i.i wit.Bool short (length types) (omega arith);
      knows = c.loop-i.invariant.adds.grows.knows types c.requires.knows;
      serves = part_served types c.args.types.now c.loop-i.i wit.Bool c.requires.serves short;
      low = small_part types tys i wit.Bool short (get_or c.as_slice.result.now i nowhere) c.requires.small pair;
    }

pub record_places-requires-clause-small : goal.record_places-requires-clause-small
record_places-requires-clause-small g c =
    let types = c.args.resolve.now.types in
    let tys = c.args.types.now in
    let filled = c.sizes.ensures types c.requires.knows in
    small_fits c.sizes.result.now tys (have_places c.sizes.result.now types tys filled c.requires.below) types filled c.requires.small

pub loop-i-preserved : goal.loop-i-preserved
loop-i-preserved g c =
    let m = g.B.Bindgen.meaning in
    let sound = g.met.B.Bindgen.sound in
    let types = c.args.resolve.now.types in
    let tys = c.args.types.now in
    let i = c.loop-i.i in
    let short : i < length tys = omega (arith, c.loop-i-test.true) in
    let filled = c.sizes.ensures types c.requires.knows in
    let pair = subst (λ (ps : List ArchitectureSize). IsPairOf (get_or ps i nowhere) (λ w. slice_index (field_offsets w (record_of types tys)) i)) (sym c.as_slice.ensures) (c.in_ok-places.ensures.each types i nowhere filled short) in
    let here = ap (free_code types (get_or tys i wit.Bool)) (sym (pair_is (get_or c.as_slice.result.now i nowhere) (λ w. slice_index (field_offsets w (record_of types tys)) i) pair)) in
    let reads = c.args.address.now ∷ [] in
    let code : ℕ → WitType → Flow = λ n ty. free_code types ty (argument_place types tys n) in
    let flow = flows_as m types (free_code types (get_or tys i wit.Bool) (get_or c.as_slice.result.now i nowhere)) (code i (get_or tys i wit.Bool)) reads [] c.loop-i.bindgen c.free_type.new.bindgen here c.in_ok-free_type.ensures.flows in
    record {
      adds = adds_both m _ _ _ c.loop-i.invariant.adds c.in_ok-free_type.ensures.frees.adds;
      flows = flows_next m types 1 (λ ty. 0) code reads tys reads c.args.bindgen.now i wit.Bool [] [] [] [] [] c.loop-i.bindgen c.free_type.new.bindgen short refl refl refl flow c.loop-i.invariant.flows;
      rest = rest_next m sound types tys c.args.address.now nowhere (get_or c.as_slice.result.now i nowhere) i _ _ _ (get_or tys i wit.Bool)
          (drop_more tys i wit.Bool short)
          (behind_next m.width types tys i wit.Bool short)
          (record_place m.width types tys i wit.Bool (get_or c.as_slice.result.now i nowhere) sound.wide short pair)
          c.in_ok-free_type.ensures.frees c.loop-i.invariant.rest;
    }

pub returns : goal.returns
returns g c =
    let m = g.B.Bindgen.meaning in
    let ended : length c.args.types.now ≤ c.loop-i.i = omega (arith, c.loop-i-test.false) in
    let types = c.args.resolve.now.types in
    let tys = c.args.types.now in
    record {
      frees = rest_last m g.met.B.Bindgen.sound types tys c.args.address.now nowhere c.loop-i.i _ _ ended c.loop-i.invariant.rest;
      flows = flows_last m types 1 (λ ty. 0) (λ n ty. free_code types ty (argument_place types tys n)) (c.args.address.now ∷ []) tys (c.args.address.now ∷ []) c.args.bindgen.now c.loop-i.i [] [] _ ended c.loop-i.invariant.flows;
    }
