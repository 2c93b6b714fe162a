use Rattle.std.proofs.Common.{◌<◌, ◌≤◌, ◌∷◌, List, length, get_or, slice_index, false, refl, sym, ◌∙◌, ap, subst, arith, ℕ, []}
use Rattle.std.proofs.lemmas.List.{drop_more}
use Rattle.wit_model.specs.declared.size.ArchitectureSize.{ArchitectureSize}
use Rattle.wit_model.specs.declared.types.WitType.{WitType}
use Rattle.wit_model.specs.declared.types.WitType.TheVariants as wit
use Rattle.wit_layout.specs.Sizes.{field_offsets}
use Rattle.wit_layout.specs.Told.{IsPairOf}
use Rattle.wit_layout.specs.Tree.{record_of}
use Rattle.abi_bindgen.specs.declared.instruction.Instruction.TheVariants as instruction
use Rattle.abi_bindgen.specs.Code.{store_code, argument_place}
use Rattle.abi_bindgen.specs.Frees.{nowhere}
use Rattle.abi_bindgen.specs.Flow.{Flow, emit, leading, both, alone, ◌>>>◌}
use Rattle.abi_driver.proofs.ArgumentSteps.{within_count}
use Rattle.abi_bindgen.proofs.Serving.{part_served}
use Rattle.abi_driver.proofs.LowPlaces.{small_fits, small_part}
use Rattle.abi_driver.proofs.PartOffsets.{behind_next, pair_is}
use Rattle.abi_bindgen.proofs.TableSizes.{have_places}
use Rattle.abi_driver.proofs.RecordPlaces.{record_place}
use Rattle.abi_driver.proofs.RecordStores.{rest_last, rest_next}
use Rattle.abi_bindgen.proofs.Records.{part_below_within}
use Rattle.abi_bindgen.proofs.Runs.{adds_both, adds_same}
use Rattle.abi_bindgen.proofs.Writing.{one_written, writes_later}
use Rattle.abi_bindgen.proofs.FlowSteps.{flows_as, flows_then, flows_both, flows_alone, flows_next, flows_last}
use Rattle.abi_driver.proofs.calls.area.store_at.Goals as goal

pub loop-i-init : goal.loop-i-init
loop-i-init g c = record { adds = adds_same g.B.Bindgen.meaning c.args.bindgen.now; flows = λ new gives h. h; rest = λ new h. h }

pub argument-requires : goal.argument-requires
argument-requires g c =
    let m = g.B.Bindgen.meaning in
    let short : c.loop-i.i < length c.args.tys.now = omega (arith, c.loop-i-test.true) in
    within_count (m.arguments c.args.bindgen.now) (m.arguments c.loop-i.bindgen) (length c.args.tys.now) c.loop-i.i c.loop-i.invariant.adds.grows.arguments c.requires.arguments short

pub record_places-requires-clause-small : goal.record_places-requires-clause-small
record_places-requires-clause-small g c =
    let types = c.args.resolve.now.types in
    let sizes = c.sizes-sizes.result.now in
    let tys = c.args.tys.now in
    let filled = c.sizes-sizes.ensures types c.requires.knows in
    small_fits sizes tys (have_places sizes types tys filled c.requires.below) types filled c.requires.small

pub store_type-requires : goal.store_type-requires
store_type-requires g c =
    let short : c.loop-i.i < length c.args.tys.now = omega (arith, c.loop-i-test.true) in
    let adds = c.loop-i.invariant.adds.grows in
    let reads = c.in_ok-value.ensures.adds.grows in
    let types = c.args.resolve.now.types in
    let tys = c.args.tys.now in
    let i = c.loop-i.i in
    let filled = c.sizes-sizes.ensures types c.requires.knows in
    let pair = subst (λ (ps : List ArchitectureSize). IsPairOf (get_or ps i nowhere) (λ w. slice_index (field_offsets w (record_of types tys)) i)) (sym c.as_slice.ensures) (c.in_ok-places.ensures.each types i nowhere filled short) in
    record {
      well = c.requires.well;
      down = c.requires.down;
      below = part_below_within (length c.args.resolve.now.types) c.args.tys.now c.requires.below c.loop-i.i wit.Bool short (length c.args.resolve.now.types) (omega arith);
      side = reads.imports ∙ adds.imports ∙ c.requires.side;
      knows = reads.knows types (adds.knows types c.requires.knows);
      serves = part_served types tys i wit.Bool c.requires.serves short;
      writes = writes_later g.B.Bindgen.meaning types _ _ (get_or tys i wit.Bool) reads (writes_later g.B.Bindgen.meaning types _ _ (get_or tys i wit.Bool) adds (one_written g.B.Bindgen.meaning types c.args.bindgen.now tys i wit.Bool c.requires.writes short));
      low = small_part types tys i wit.Bool short (get_or c.as_slice.result.now i nowhere) c.requires.small pair;
    }

pub loop-i-preserved : goal.loop-i-preserved
loop-i-preserved g c =
    let m = g.B.Bindgen.meaning in
    let sound = g.met.B.Bindgen.sound in
    let types = c.args.resolve.now.types in
    let tys = c.args.tys.now in
    let i = c.loop-i.i in
    let short : i < length tys = omega (arith, c.loop-i-test.true) in
    let read = c.in_ok-value.ensures in
    let filled = c.sizes-sizes.ensures types c.requires.knows in
    let pair = subst (λ (ps : List ArchitectureSize). IsPairOf (get_or ps i nowhere) (λ w. slice_index (field_offsets w (record_of types tys)) i)) (sym c.as_slice.ensures) (c.in_ok-places.ensures.each types i nowhere filled short) in
    let here = ap (store_code types false (get_or tys i wit.Bool)) (sym (pair_is (get_or c.as_slice.result.now i nowhere) (λ w. slice_index (field_offsets w (record_of types tys)) i) pair)) in
    let address = c.args.address.now in
    let value = c.in_ok-value.value in
    let before = c.loop-i.bindgen in
    let taken = c.argument.new.bindgen in
    let after = c.store_type.new.bindgen in
    let get : ℕ → Flow = λ n. both (leading 1) (alone (emit (instruction.GetArg n))) in
    let code : ℕ → WitType → Flow = λ n ty. get n >>> store_code types false ty (argument_place types tys n) in
    let store = flows_as m types (store_code types false (get_or tys i wit.Bool) (get_or c.as_slice.result.now i nowhere)) (store_code types false (get_or tys i wit.Bool) (argument_place types tys i)) (address ∷ value ∷ []) [] taken after here c.in_ok-store_type.ensures.flows in
    let got = flows_both m types (leading 1) (alone (emit (instruction.GetArg i))) (address ∷ []) (address ∷ []) (value ∷ []) before before taken (refl, refl) (flows_alone m types (emit (instruction.GetArg i)) (address ∷ []) (value ∷ []) before taken read) in
    let one = flows_then m types (get i) (store_code types false (get_or tys i wit.Bool) (argument_place types tys i)) (address ∷ []) (address ∷ value ∷ []) [] before taken after got store in
    record {
      adds = adds_both m _ _ _ c.loop-i.invariant.adds (adds_both m _ _ _ c.in_ok-value.ensures.adds c.in_ok-store_type.ensures.stores.adds);
      flows = flows_next m types 1 (λ ty. 0) code (address ∷ []) tys (address ∷ []) c.args.bindgen.now i wit.Bool [] [] [] [] [] before after short refl refl refl one c.loop-i.invariant.flows;
      rest = rest_next m sound types tys c.args.address.now (get_or c.as_slice.result.now i nowhere) i _ _ _ _ (get_or tys i wit.Bool) c.in_ok-value.value
          (drop_more tys i wit.Bool short) read
          (behind_next m.width types tys i wit.Bool short)
          (record_place m.width types tys i wit.Bool (get_or c.as_slice.result.now i nowhere) sound.wide short pair)
          c.in_ok-store_type.ensures.stores c.loop-i.invariant.rest;
    }

pub returns : goal.returns
returns g c =
    let m = g.B.Bindgen.meaning in
    let types = c.args.resolve.now.types in
    let tys = c.args.tys.now in
    let ended : length tys ≤ c.loop-i.i = omega (arith, c.loop-i-test.false) in
    record {
      stores = rest_last m g.met.B.Bindgen.sound types tys c.args.address.now c.loop-i.i _ _ ended c.loop-i.invariant.rest;
      flows = flows_last m types 1 (λ ty. 0) (λ n ty. both (leading 1) (alone (emit (instruction.GetArg n))) >>> store_code types false ty (argument_place types tys n)) (c.args.address.now ∷ []) tys (c.args.address.now ∷ []) c.args.bindgen.now c.loop-i.i [] [] _ ended c.loop-i.invariant.flows;
    }
