use Rattle.std.proofs.Common.{◌<◌, ◌≤◌, ◌∷◌, ◌++◌, length, get_or, false, refl, ap, ◌∙◌, arith, []}
use Rattle.std.proofs.lemmas.Bool.{ltb-false}
use Rattle.std.proofs.lemmas.List.{drop_more}
use Rattle.wit_model.specs.declared.types.WitType.TheVariants as wit
use Rattle.abi_bindgen.specs.declared.instruction.Instruction.TheVariants as instruction
use Rattle.abi_bindgen.specs.Code.{lower_code}
use Rattle.abi_bindgen.specs.Instructions.{shapes_of}
use Rattle.abi_bindgen.specs.Flow.{emit, ◌>>>◌}
use Rattle.wrapper_meaning.specs.Represents.{param_words}
use Rattle.abi_bindgen.proofs.Serving.{part_served}
use Rattle.abi_bindgen.proofs.WordCounts.{part_few}
use Rattle.abi_driver.proofs.ArgumentSteps.{rest_last, rest_next, within_count}
use Rattle.abi_bindgen.proofs.Records.{part_below_within}
use Rattle.abi_bindgen.proofs.Runs.{adds_both, adds_same}
use Rattle.abi_bindgen.proofs.Writing.{one_written, writes_later}
use Rattle.abi_bindgen.proofs.FlowSteps.{flows_then, flows_next, flows_last}
use Rattle.abi_driver.proofs.calls.import.lower_arguments.Goals as goal

pub loop-i-init : goal.loop-i-init
loop-i-init g c = record { adds = adds_same g.B.Bindgen.meaning c.args.bindgen.now; flows = λ new gives h. rw c.new-all.ensures.items h; rest = λ new later h. rw c.new-all.ensures.items h }

pub argument-requires : goal.argument-requires
argument-requires g c =
    let m = g.B.Bindgen.meaning in
    let short : c.loop-i.i < length c.args.tys.now = omega (arith, c.loop-i-test.true) in
    within_count (m.arguments c.args.bindgen.now) (m.arguments c.loop-i.bindgen) (length c.args.tys.now) c.loop-i.i c.loop-i.invariant.adds.grows.arguments c.requires.arguments short

pub lower_flat-requires : goal.lower_flat-requires
lower_flat-requires g c =
    let short : c.loop-i.i < length c.args.tys.now = omega (arith, c.loop-i-test.true) in
    let adds = c.loop-i.invariant.adds.grows in
    let reads = c.in_ok-value.ensures.adds.grows in
    let types = c.args.resolve.now.types in
    let tys = c.args.tys.now in
    let most = ltb-false 16 (length (param_words (shapes_of types tys))) c.requires.direct in
    record {
      well = c.requires.well;
      down = c.requires.down;
      below = part_below_within (length c.args.resolve.now.types) c.args.tys.now c.requires.below c.loop-i.i wit.Bool short (length c.args.resolve.now.types) (omega arith);
      side = reads.imports ∙ adds.imports ∙ c.requires.side;
      serves = part_served types tys c.loop-i.i wit.Bool c.requires.serves short;
      writes = writes_later g.B.Bindgen.meaning types _ _ (get_or tys c.loop-i.i wit.Bool) reads (writes_later g.B.Bindgen.meaning types _ _ (get_or tys c.loop-i.i wit.Bool) adds (one_written g.B.Bindgen.meaning types c.args.bindgen.now tys c.loop-i.i wit.Bool c.requires.writes short));
      few = omega (arith, part_few types tys c.loop-i.i wit.Bool short, most);
    }

pub loop-i-preserved : goal.loop-i-preserved
loop-i-preserved g c =
    let m = g.B.Bindgen.meaning in
    let types = c.args.resolve.now.types in
    let short : c.loop-i.i < length c.args.tys.now = omega (arith, c.loop-i-test.true) in
    let read = c.in_ok-value.ensures in
    let tys = c.args.tys.now in
    let i = c.loop-i.i in
    let words = c.in_ok-words.words in
    let all = c.in_ok-push_copies.ensures ∙ ap (λ os. c.loop-i.all.items ++ os) c.as_slice.ensures in
    record {
      adds = adds_both m _ _ _ c.loop-i.invariant.adds (adds_both m _ _ _ c.in_ok-value.ensures.adds c.in_ok-words.ensures.lowers.adds);
      flows = flows_next m types 0 (λ ty. 0) (λ n ty. emit (instruction.GetArg n) >>> lower_code types false ty) [] tys [] c.args.bindgen.now i wit.Bool [] [] c.loop-i.all.items words c.push_copies.new.all.items c.loop-i.bindgen c.lower_flat.new.bindgen short refl refl all
          (flows_then m types (emit (instruction.GetArg i)) (lower_code types false (get_or tys i wit.Bool)) [] (c.in_ok-value.value ∷ []) words c.loop-i.bindgen c.argument.new.bindgen c.lower_flat.new.bindgen read c.in_ok-words.ensures.flows) c.loop-i.invariant.flows;
      rest = rest_next m g.met.B.Bindgen.sound types c.args.tys.now c.loop-i.i c.loop-i.all.items c.in_ok-words.words c.push_copies.new.all.items _ _ _ _ (get_or c.args.tys.now c.loop-i.i wit.Bool) c.in_ok-value.value
          (drop_more c.args.tys.now c.loop-i.i wit.Bool short) read c.in_ok-words.ensures.lowers all c.loop-i.invariant.rest;
    }

pub returns : goal.returns
returns g c =
    let m = g.B.Bindgen.meaning in
    let types = c.args.resolve.now.types in
    let tys = c.args.tys.now in
    let ended : length tys ≤ c.loop-i.i = omega (arith, c.loop-i-test.false) in
    record {
      lowers = rw c.from_vec.ensures (rest_last m g.met.B.Bindgen.sound types tys c.loop-i.i c.loop-i.all.items _ _ ended c.loop-i.invariant.rest);
      flows = rw c.from_vec.ensures (flows_last m types 0 (λ ty. 0) (λ n ty. emit (instruction.GetArg n) >>> lower_code types false ty) [] tys [] c.args.bindgen.now c.loop-i.i c.loop-i.all.items [] _ ended c.loop-i.invariant.flows);
    }
