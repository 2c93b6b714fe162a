use Rattle.std.proofs.Common.{◌≤◌, List, length, sym, ap, subst, ◌∙◌, append-nil, arith}
use Rattle.std.specs.Prelude.{IfSome}
use Rattle.wit_model.proofs.WellFormedLemmas.{types_go_down}
use Rattle.wit_layout.specs.Flat.{flatten_type}
use Rattle.wrapper_meaning.specs.Layout.{layout}
use Rattle.wrapper_meaning.specs.Shape.{shape_at}
use Rattle.func_gen.specs.declared.operand.ExprOperand.{ExprOperand}
use Rattle.wrapper_closing.proofs.StepsDeclare.{none_open}
use Rattle.command_tests.proofs.bodies.memory.three_words_freed.Goals as goal

pub deallocate_lists_in_types-requires-clause-down : goal.deallocate_lists_in_types-requires-clause-down
deallocate_lists_in_types-requires-clause-down c = types_go_down c.args.resolve.now c.requires.well.unbroken

pub deallocate_lists_in_types-requires-clause-serves : goal.deallocate_lists_in_types-requires-clause-serves
deallocate_lists_in_types-requires-clause-serves c = (c.requires.serves, tt)

pub deallocate_lists_in_types-requires-clause-record : goal.deallocate_lists_in_types-requires-clause-record
deallocate_lists_in_types-requires-clause-record c = λ e. absurd (cc)

pub deallocate_lists_in_types-requires-clause-words : goal.deallocate_lists_in_types-requires-clause-words
deallocate_lists_in_types-requires-clause-words c =
    let types = c.args.resolve.now.types in
    λ e. c.in_ok-words.ensures ∙ sym (ap length (append-nil (flatten_type (layout (shape_at types 0)))) ∙ c.requires.three)

pub deallocate_lists_in_types-requires-clause-few : goal.deallocate_lists_in_types-requires-clause-few
deallocate_lists_in_types-requires-clause-few c = λ e. omega (arith, c.in_ok-words.ensures)

pub finish-requires-clause-closed : goal.finish-requires-clause-closed
finish-requires-clause-closed c =
    none_open c.give_nothing.new.bindgen (c.in_ok-give_nothing.ensures.closed ∙ c.in_ok-deallocate_lists_in_types.ensures.frees.adds.grows.opened ∙ c.in_ok-bindgen.ensures.begins.closed)

pub finish-requires-clause-few : goal.finish-requires-clause-few
finish-requires-clause-few c = subst (λ given. IfSome given (λ (os : List ExprOperand). length os ≤ 1)) (sym c.in_ok-give_nothing.ensures.nothing) (omega arith)
