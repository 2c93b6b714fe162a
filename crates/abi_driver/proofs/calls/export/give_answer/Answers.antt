use Rattle.std.proofs.Common.{length, Option, option_map, sym, ap, ◌∙◌, subst, arith}
use Rattle.std.proofs.lemmas.Bool.{ltb-false}
use Rattle.wit_model.specs.declared.types.WitType.{WitType}
use Rattle.wrapper_meaning.specs.Represents.{result_words}
use Rattle.wrapper_meaning.specs.Shape.{shape_of}
use Rattle.abi_bindgen.specs.Served.{ServesResult}
use Rattle.abi_bindgen.specs.Written.{WritesPart}
use Rattle.abi_driver.proofs.calls.export.give_answer.Goals as goal

pub store_answer-requires-clause-writes : goal.store_answer-requires-clause-writes
store_answer-requires-clause-writes g c =
    let types = c.args.resolve.now.types in
    subst (λ (p : Option WitType). WritesPart g.B.Bindgen.meaning types p c.args.bindgen.now) c.in-Some.is c.requires.writes

pub lower_answer-requires-clause-writes : goal.lower_answer-requires-clause-writes
lower_answer-requires-clause-writes g c =
    let types = c.args.resolve.now.types in
    subst (λ (p : Option WitType). WritesPart g.B.Bindgen.meaning types p c.args.bindgen.now) c.in-Some-2.is c.requires.writes

pub store_answer-requires-clause-serves : goal.store_answer-requires-clause-serves
store_answer-requires-clause-serves g c =
    let types = c.args.resolve.now.types in
    subst (λ (p : Option WitType). ServesResult (option_map (shape_of types) p)) c.in-Some.is c.requires.serves

pub lower_answer-requires-clause-serves : goal.lower_answer-requires-clause-serves
lower_answer-requires-clause-serves g c =
    let types = c.args.resolve.now.types in
    subst (λ (p : Option WitType). ServesResult (option_map (shape_of types) p)) c.in-Some-2.is c.requires.serves

-- a result that is passed directly is a word at most
pub lower_answer-requires-clause-few : goal.lower_answer-requires-clause-few
lower_answer-requires-clause-few g c =
    let types = c.args.resolve.now.types in
    let one = ltb-false 1 (length (result_words (option_map (shape_of types) c.args.ty))) (sym c.requires.retptr ∙ c.if-retptr.false) in
    omega (arith, one, ap (λ (p : Option WitType). length (result_words (option_map (shape_of types) p))) c.in-Some-2.is)
