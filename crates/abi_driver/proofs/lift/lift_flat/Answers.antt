use Rattle.std.proofs.Common.{◌≡◌, ◌+◌, List, [], ◌++◌, ◌∷◌, drop, take, length, sym, ap, ◌∙◌, subst, arith}
use Rattle.std.proofs.lemmas.List.{take_all}
use Rattle.wrapper_meaning.specs.Shape.{shape_of}
use Rattle.abi_bindgen.specs.Code.{lift_code}
use Rattle.abi_bindgen.specs.Flows.{Flows}
use Rattle.abi_bindgen.specs.Lifts.{LiftsFlat}
use Rattle.abi_bindgen.specs.WordCount.{word_count}
use Rattle.abi_driver.proofs.LiftedVariants.{all_used}
use Rattle.abi_driver.proofs.lift.lift_flat.Goals as goal

pub lift_type-requires-clause-few : goal.lift_type-requires-clause-few
lift_type-requires-clause-few g c = omega (arith, c.requires.few, c.requires.exact)

pub lift_type-requires-clause-enough : goal.lift_type-requires-clause-enough
lift_type-requires-clause-enough g c = omega (arith, ap length c.as_slice.ensures, c.requires.exact)

-- all words were used
pub returns-clause-lifts : goal.returns-clause-lifts
returns-clause-lifts g c =
    let m = g.B.Bindgen.meaning in
    let types = c.args.resolve.now.types in
    let words = c.args.words.now in
    let x = c.in_ok-lifted.lifted in
    let Lifts : List g.row.B-Operand.Denot → Type 0 = λ os. LiftsFlat m (shape_of types c.args.ty.now) os x.operand c.args.bindgen.now c.lift_type.new.bindgen in
    let got = subst (λ (os : List g.row.B-Operand.Denot). (used : List g.row.B-Operand.Denot) × (os ≡ used ++ drop x.next os) × Lifts used) c.as_slice.ensures c.in_ok-lifted.ensures.lifts in
    subst Lifts (all_used words got.0 (drop x.next words) got.1 (got.2.fits ∙ sym c.requires.exact)) got.2

pub returns-clause-flows : goal.returns-clause-flows
returns-clause-flows g c =
    let m = g.B.Bindgen.meaning in
    let types = c.args.resolve.now.types in
    let words = c.args.words.now in
    let n = word_count types c.args.ty.now in
    let all : take n (drop 0 c.as_slice.result.now) ≡ words = ap (take n) c.as_slice.ensures ∙ take_all n words (omega (arith, c.requires.exact)) in
    subst (λ os. Flows m types (lift_code types c.args.ty.now) os (c.in_ok-lifted.lifted.operand ∷ []) c.args.bindgen.now c.lift_type.new.bindgen) all c.in_ok-lifted.ensures.flows
