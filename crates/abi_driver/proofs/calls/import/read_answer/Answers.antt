use Rattle.std.proofs.Common.{◌≡◌, true, false, if◌then◌else◌, List, ◌++◌, length, Option, Some, option_map, refl, sym, ap, ◌∙◌, subst, arith}
use Rattle.std.proofs.lemmas.Result.{IfOk-weaker}
use Rattle.std.proofs.lemmas.Bool.{ltb-false}
use Rattle.wit_model.specs.declared.types.WitType.{WitType}
use Rattle.wrapper_meaning.specs.Represents.{result_words}
use Rattle.wrapper_meaning.specs.Shape.{shape_of}
use Rattle.wrapper_meaning.specs.Represents.{is_indirect}
use Rattle.abi_bindgen.specs.Code.{lift_code, load_code, read_code}
use Rattle.abi_bindgen.specs.Frees.{nowhere}
use Rattle.abi_bindgen.specs.Flows.{Flows}
use Rattle.abi_bindgen.specs.Served.{ServesResult}
use Rattle.abi_bindgen.specs.Written.{WritesPart}
use Rattle.abi_bindgen.proofs.FlowSteps.{flows_as}
use Rattle.std.proofs.lemmas.List.{append-nil}
use Rattle.abi_driver.proofs.calls.import.read_answer.Goals as goal

pub load_answer-requires-clause-writes : goal.load_answer-requires-clause-writes
load_answer-requires-clause-writes g c =
    let types = c.args.resolve.now.types in
    subst (λ (p : Option WitType). WritesPart g.B.Bindgen.meaning types p c.args.bindgen.now) c.in-Some.is c.requires.writes

pub lift_answer-requires-clause-writes : goal.lift_answer-requires-clause-writes
lift_answer-requires-clause-writes g c =
    let types = c.args.resolve.now.types in
    subst (λ (p : Option WitType). WritesPart g.B.Bindgen.meaning types p c.args.bindgen.now) c.in-Some-2.is c.requires.writes

-- a result that is passed directly is a word at most

pub lift_answer-requires-clause-exact : goal.lift_answer-requires-clause-exact
lift_answer-requires-clause-exact g c =
    let types = c.args.resolve.now.types in
    c.requires.answered c.if-retptr.false ∙ ap (λ (p : Option WitType). length (result_words (option_map (shape_of types) p))) c.in-Some-2.is

pub lift_answer-requires-clause-few : goal.lift_answer-requires-clause-few
lift_answer-requires-clause-few g c =
    let types = c.args.resolve.now.types in
    let r = option_map (shape_of types) c.args.ty in
    let one = ltb-false 1 (length (result_words r)) (sym c.requires.retptr ∙ c.if-retptr.false) in
    omega (arith, one, c.requires.answered c.if-retptr.false)

pub lift_answer-requires-clause-serves : goal.lift_answer-requires-clause-serves
lift_answer-requires-clause-serves g c =
    let types = c.args.resolve.now.types in
    subst (λ (p : Option WitType). ServesResult (option_map (shape_of types) p)) c.in-Some-2.is c.requires.serves

pub load_answer-requires-clause-serves : goal.load_answer-requires-clause-serves
load_answer-requires-clause-serves g c =
    let types = c.args.resolve.now.types in
    subst (λ (p : Option WitType). ServesResult (option_map (shape_of types) p)) c.in-Some.is c.requires.serves

-- the words that are read are those of the answer, or the address

pub returns-in-None-clause-flows : goal.returns-in-None-clause-flows
returns-in-None-clause-flows g c =
    let m = g.B.Bindgen.meaning in
    let types = c.args.resolve.now.types in
    let b = c.args.bindgen.now in
    subst (λ (p : Option WitType). Flows m types (read_code types p) (c.args.words.now ++ c.args.pointer.now) c.new.result b b) (sym c.in-None.is) (c.new.ensures, refl)

pub returns-in-Some-clause-flows : goal.returns-in-Some-clause-flows
returns-in-Some-clause-flows g c =
    let m = g.B.Bindgen.meaning in
    let types = c.args.resolve.now.types in
    let ty = c.in-Some.ty in
    let pointer = c.args.pointer.now in
    let code = load_code types ty nowhere in
    let read = read_code types c.args.ty in
    let indirect : is_indirect (Some (shape_of types ty)) ≡ true = ap (λ (p : Option WitType). is_indirect (option_map (shape_of types) p)) (sym c.in-Some.is) ∙ sym c.requires.retptr ∙ c.if-retptr.true in
    let same : read ≡ code = ap (read_code types) c.in-Some.is ∙ ap (λ q. if q then code else lift_code types ty) indirect in
    let none : c.args.words.now ++ pointer ≡ pointer = ap (λ (os : List g.row.B-Operand.Denot). os ++ pointer) (c.requires.unanswered c.if-retptr.true) in
    IfOk-weaker c.load_answer.result
    (λ (given : List g.row.B-Operand.Denot). Flows m types code pointer given c.args.bindgen.now c.load_answer.new.bindgen)
    (λ (given : List g.row.B-Operand.Denot). Flows m types read (c.args.words.now ++ pointer) given c.args.bindgen.now c.load_answer.new.bindgen)
    (λ given h. subst (λ (os : List g.row.B-Operand.Denot). Flows m types read os given c.args.bindgen.now c.load_answer.new.bindgen) (sym none) (flows_as m types code read pointer given c.args.bindgen.now c.load_answer.new.bindgen same h))
    c.load_answer.ensures.flows

pub returns-in-Some-2-clause-flows : goal.returns-in-Some-2-clause-flows
returns-in-Some-2-clause-flows g c =
    let m = g.B.Bindgen.meaning in
    let types = c.args.resolve.now.types in
    let ty = c.in-Some-2.ty in
    let words = c.args.words.now in
    let code = lift_code types ty in
    let read = read_code types c.args.ty in
    let direct : is_indirect (Some (shape_of types ty)) ≡ false = ap (λ (p : Option WitType). is_indirect (option_map (shape_of types) p)) (sym c.in-Some-2.is) ∙ sym c.requires.retptr ∙ c.if-retptr.false in
    let same : read ≡ code = ap (read_code types) c.in-Some-2.is ∙ ap (λ q. if q then load_code types ty nowhere else code) direct in
    let none : words ++ c.args.pointer.now ≡ words = ap (λ (os : List g.row.B-Operand.Denot). words ++ os) (c.requires.unpointed c.if-retptr.false) ∙ append-nil words in
    IfOk-weaker c.lift_answer.result
    (λ (given : List g.row.B-Operand.Denot). Flows m types code words given c.args.bindgen.now c.lift_answer.new.bindgen)
    (λ (given : List g.row.B-Operand.Denot). Flows m types read (words ++ c.args.pointer.now) given c.args.bindgen.now c.lift_answer.new.bindgen)
    (λ given h. subst (λ (os : List g.row.B-Operand.Denot). Flows m types read os given c.args.bindgen.now c.lift_answer.new.bindgen) (sym none) (flows_as m types code read words given c.args.bindgen.now c.lift_answer.new.bindgen same h))
    c.lift_answer.ensures.flows
