use Rattle.std.proofs.Common.{◌≤◌, List, Option, length, ap, sym, subst, ◌∙◌, arith}
use Rattle.std.specs.Prelude.{IfSome}
use Rattle.wit_model.proofs.WellFormedLemmas.{types_go_down}
use Rattle.func_gen.specs.declared.operand.ExprOperand.{ExprOperand}
use Rattle.func_gen.specs.declared.type_site.TypeSite.{TypeSite}
use Rattle.func_gen.specs.declared.type_tables.TypeTables.{TypeTables}
use Rattle.func_gen.specs.Written.{CanWrite}
use Rattle.wrapper_closing.proofs.StepsDeclare.{none_open}
use Rattle.command_tests.proofs.bodies.memory.stored.Goals as goal

pub lower_to_memory-requires-clause-down : goal.lower_to_memory-requires-clause-down
lower_to_memory-requires-clause-down c = types_go_down c.args.resolve.now c.requires.unbroken

pub lower_to_memory-requires-clause-writes : goal.lower_to_memory-requires-clause-writes
lower_to_memory-requires-clause-writes c =
    let is = c.in_ok-bindgen.ensures.made.of_sites ∙ ap (λ (t : TypeTables). t.sites) c.in_ok-parts.ensures.over in
    λ id reaches. subst (λ (sites : List (Option TypeSite)). CanWrite c.args.resolve.now.types sites id.0) (sym is) (c.in_ok-tables.ensures.written id.0)

pub finish-requires-clause-closed : goal.finish-requires-clause-closed
finish-requires-clause-closed c =
    none_open c.give_nothing.new.bindgen (c.in_ok-give_nothing.ensures.closed ∙ c.in_ok-lower_to_memory.ensures.stores.adds.grows.opened ∙ c.in_ok-bindgen.ensures.begins.closed)

pub finish-requires-clause-few : goal.finish-requires-clause-few
finish-requires-clause-few c = subst (λ given. IfSome given (λ (os : List ExprOperand). length os ≤ 1)) (sym c.in_ok-give_nothing.ensures.nothing) (omega arith)
