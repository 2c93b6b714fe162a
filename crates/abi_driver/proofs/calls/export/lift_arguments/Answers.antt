use Rattle.std.proofs.Common.{◌≡◌, ◌<◌, ◌≤◌, [], append-nil, drop, length, get_or, refl, sym, ap, ◌∙◌, arith, List, subst, ◌++◌}
use Rattle.std.proofs.lemmas.Bool.{ltb-false}
use Rattle.std.proofs.lemmas.List.{drop_all, drop_more}
use Rattle.wit_model.specs.declared.types.WitType.TheVariants as wit
use Rattle.wit_model.proofs.WellFormedLemmas.{types_go_down}
use Rattle.wit_layout.specs.Flat.{flatten_type}
use Rattle.wit_layout.specs.Tree.{tree_of}
use Rattle.wrapper_meaning.specs.Represents.{param_words}
use Rattle.wrapper_meaning.proofs.LayoutIsTree.{layout_is_tree}
use Rattle.abi_bindgen.specs.Code.{lift_arguments}
use Rattle.abi_bindgen.specs.Instructions.{shapes_of}
use Rattle.abi_bindgen.specs.WordCount.{word_count}
use Rattle.abi_bindgen.specs.Flow.{leave_none}
use Rattle.abi_bindgen.specs.Flows.{Flows}
use Rattle.abi_driver.proofs.ArgumentSteps.{within_words}
use Rattle.abi_driver.proofs.CallCode as Flowing
use Rattle.abi_driver.proofs.LiftedArguments.{rest_first, rest_last, rest_next, told_within, words_left, words_next}
use Rattle.abi_bindgen.proofs.WordCounts.{no_more}
use Rattle.abi_bindgen.proofs.Payloads.{payload_count}
use Rattle.abi_bindgen.proofs.Records.{part_below_within}
use Rattle.abi_bindgen.proofs.Runs.{adds_both, adds_same}
use Rattle.abi_bindgen.proofs.Serving.{part_served}
use Rattle.abi_bindgen.proofs.Writing.{one_written, writes_later}
use Rattle.abi_bindgen.proofs.FlowSteps.{flows_as}
use Rattle.abi_driver.proofs.calls.export.lift_arguments.Goals as goal

pub loop-i-init : goal.loop-i-init
loop-i-init g c =
    let m = g.B.Bindgen.meaning in
    record {
      adds = adds_same m c.args.bindgen.now;
      words = omega arith;
      flows = λ new gives h. subst (λ (vs : List g.row.B-Operand.Denot). Flows m c.args.resolve.now.types (lift_arguments c.args.resolve.now.types 0 c.args.tys.now) [] (vs ++ gives) c.args.bindgen.now new) (sym c.new-values.ensures) h;
      rest = rest_first m g.met.B.Bindgen.sound c.args.resolve.now.types c.args.tys.now c.new-values.result c.args.bindgen.now c.new-values.ensures;
    }

pub read_words-requires-clause-few : goal.read_words-requires-clause-few
read_words-requires-clause-few g c =
    let types = c.args.resolve.now.types in
    let tys = c.args.tys.now in
    let i = c.loop-i.i in
    let ty = get_or tys i wit.Bool in
    let short : i < length tys = omega (arith, c.loop-i-test.true) in
    let told = told_within types tys i ty c.flat_types-flat.result (drop_more tys i wit.Bool short) c.flat_types-flat.ensures in
    let most = ltb-false 16 (length (param_words (shapes_of types tys))) c.requires.direct in
    omega (arith, told, most, c.loop-i.invariant.words)

pub read_words-requires-clause-arguments : goal.read_words-requires-clause-arguments
read_words-requires-clause-arguments g c =
    let m = g.B.Bindgen.meaning in
    let types = c.args.resolve.now.types in
    let tys = c.args.tys.now in
    let i = c.loop-i.i in
    let ty = get_or tys i wit.Bool in
    let short : i < length tys = omega (arith, c.loop-i-test.true) in
    let told = told_within types tys i ty c.flat_types-flat.result (drop_more tys i wit.Bool short) c.flat_types-flat.ensures in
    let inv = c.loop-i.invariant in
    within_words (m.arguments c.args.bindgen.now) (m.arguments c.loop-i.bindgen) (length (param_words (shapes_of types tys))) c.loop-i.first c.flat_types-flat.result.count (words_left types tys i) inv.adds.grows.arguments c.requires.arguments inv.words told

pub flat_types-flat-requires-clause-below : goal.flat_types-flat-requires-clause-below
flat_types-flat-requires-clause-below g c =
    let n = length c.args.resolve.now.types in
    let short : c.loop-i.i < length c.args.tys.now = omega (arith, c.loop-i-test.true) in
    part_below_within n c.args.tys.now c.requires.below c.loop-i.i wit.Bool short n (omega arith)

pub lift_flat-requires : goal.lift_flat-requires
lift_flat-requires g c =
    let n = length c.args.resolve.now.types in
    let types = c.args.resolve.now.types in
    let tys = c.args.tys.now in
    let ty = get_or tys c.loop-i.i wit.Bool in
    let f = c.flat_types-flat.result in
    let short : c.loop-i.i < length c.args.tys.now = omega (arith, c.loop-i-test.true) in
    let most = ltb-false 16 (length (param_words (shapes_of types tys))) c.requires.direct in
    let next = words_next types tys c.loop-i.i ty (drop_more tys c.loop-i.i wit.Bool short) in
    let few : word_count types ty ≤ 16 = omega (arith, most, next, c.loop-i.invariant.words) in
    let exact : f.count ≡ word_count types ty = payload_count types ty f c.flat_types-flat.ensures (no_more types ty f c.flat_types-flat.ensures few) in
    let read = c.in_ok-words.ensures.reads.fits in
    record {
      well = c.requires.well;
      down = types_go_down c.args.resolve.now c.requires.well.unbroken;
      below = part_below_within n c.args.tys.now c.requires.below c.loop-i.i wit.Bool short n (omega arith);
      serves = part_served types tys c.loop-i.i wit.Bool c.requires.serves short;
      writes = writes_later g.B.Bindgen.meaning types _ _ ty c.in_ok-words.ensures.reads.adds.grows (writes_later g.B.Bindgen.meaning types _ _ ty c.loop-i.invariant.adds.grows (one_written g.B.Bindgen.meaning types c.args.bindgen.now tys c.loop-i.i wit.Bool c.requires.writes short));
      few = omega (arith, read, exact, few);
      exact = read ∙ exact;
    }

pub overflow_add-first : goal.overflow_add-first
overflow_add-first g c =
    let types = c.args.resolve.now.types in
    let tys = c.args.tys.now in
    let i = c.loop-i.i in
    let ty = get_or tys i wit.Bool in
    let short : i < length tys = omega (arith, c.loop-i-test.true) in
    let told = told_within types tys i ty c.flat_types-flat.result (drop_more tys i wit.Bool short) c.flat_types-flat.ensures in
    let most = ltb-false 16 (length (param_words (shapes_of types tys))) c.requires.direct in
    omega (arith, told, most, c.loop-i.invariant.words)

pub loop-i-preserved : goal.loop-i-preserved
loop-i-preserved g c =
    let m = g.B.Bindgen.meaning in
    let sound = g.met.B.Bindgen.sound in
    let types = c.args.resolve.now.types in
    let tys = c.args.tys.now in
    let i = c.loop-i.i in
    let ty = get_or tys i wit.Bool in
    let short : i < length tys = omega (arith, c.loop-i-test.true) in
    let et = drop_more tys i wit.Bool short in
    let inv = c.loop-i.invariant in
    let flat : length (flatten_type (tree_of types ty)) ≡ c.flat_types-flat.result.count = ap (λ t. length (flatten_type t)) (sym (layout_is_tree types ty)) ∙ sym c.in_ok-value.ensures.lifts.fits ∙ c.in_ok-words.ensures.reads.fits in
    record {
      adds = adds_both m _ _ _ inv.adds (adds_both m _ _ _ c.in_ok-words.ensures.reads.adds c.in_ok-value.ensures.lifts.adds);
      words = omega (arith, inv.words, words_next types tys i ty et, c.in_ok-words.ensures.reads.fits, c.in_ok-value.ensures.lifts.fits);
      flows = Flowing.rest_next m types tys i c.loop-i.first c.flat_types-flat.result.count c.in_ok-words.words c.loop-i.values c.push.new.self c.in_ok-value.value c.args.bindgen.now c.loop-i.bindgen c.read_words.new.bindgen c.lift_flat.new.bindgen ty et flat c.in_ok-words.ensures.reads.fits c.in_ok-push.ensures.ok c.in_ok-words.ensures.flows c.in_ok-value.ensures.flows inv.flows;
      rest = rest_next m sound types tys i c.loop-i.first c.flat_types-flat.result.count c.loop-i.values c.in_ok-words.words c.push.new.self _ _ _ _ ty c.in_ok-value.value et c.in_ok-words.ensures.reads c.in_ok-value.ensures.lifts c.in_ok-push.ensures.ok inv.rest;
    }

pub returns : goal.returns
returns g c =
    let m = g.B.Bindgen.meaning in
    let types = c.args.resolve.now.types in
    let tys = c.args.tys.now in
    let ended : length tys ≤ c.loop-i.i = omega (arith, c.loop-i-test.false) in
    record {
      lifts = rest_last m g.met.B.Bindgen.sound types tys c.loop-i.i c.loop-i.first c.loop-i.values _ _ ended c.loop-i.invariant.rest;
      flows = subst (λ (vs : List g.row.B-Operand.Denot). Flows m types (lift_arguments types 0 tys) [] vs c.args.bindgen.now c.loop-i.bindgen) (append-nil c.loop-i.values) (c.loop-i.invariant.flows c.loop-i.bindgen []
          (flows_as m types leave_none (lift_arguments types c.loop-i.first (drop c.loop-i.i tys)) [] [] c.loop-i.bindgen c.loop-i.bindgen (ap (lift_arguments types c.loop-i.first) (drop_all c.loop-i.i tys ended)) (refl, refl)));
    }
