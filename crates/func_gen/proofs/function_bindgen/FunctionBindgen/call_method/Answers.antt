use Rattle.std.proofs.Common.{◌≡◌, Bool, true, false, None, Some, not, refl, ap, ◌∙◌}
use Rattle.rust_tree.specs.declared.expr.Expr.TheVariants as expr
use Rattle.abi_bindgen.specs.declared.instruction.Instruction.TheVariants as instruction
use Rattle.func_gen.specs.CallForms.{exprs}
use Rattle.func_gen.proofs.MethodRows.{calls_as, method_row, none_due, one_due}
use Rattle.func_gen.proofs.Rows.{emits_as, pushed}
use Rattle.func_gen.proofs.WholeLemmas.{none_open}
use Rattle.func_gen.proofs.function_bindgen.FunctionBindgen.call_method.Goals as goal

exported : (import : Bool) → not import ≡ true → import ≡ false
exported false e = refl
exported true e = absurd cc

pub returns-then-is_none : goal.returns-then-is_none
returns-then-is_none c =
    let types = c.args.resolve.now.types in
    let (export, _, fresh) = c.requires.sendable.suits in
    let calls = calls_as c.args.func.now _ _ None c.args.self.now _ (c.in_ok-arguments.ensures ∙ ap exprs c.as_slice.ensures) c.in_ok-begin_call.ensures.calls in
    emits_as types (instruction.CallInterface c.args.func) _ _ _ _ _ _ refl c.requires.empty
    (method_row types c.args.func c.args.operands.now None c.args.self.now _ calls fresh.uncalled.here fresh.unasked (exported c.args.self.now.import export) (none_due c.args.func.now.result (c.is_none.ensures ∙ ap not c.if-is_none.true)) c.in_ok-begin_call.ensures.scope c.in_ok-begin_call.ensures.scope)

pub returns : goal.returns
returns c =
    let types = c.args.resolve.now.types in
    let (export, _, fresh) = c.requires.sendable.suits in
    let name = c.in_ok-name.name in
    let calls = calls_as c.args.func.now _ _ (Some name) c.args.self.now _ (c.in_ok-arguments.ensures ∙ ap exprs c.as_slice.ensures) c.in_ok-name.ensures.calls in
    emits_as types (instruction.CallInterface c.args.func) _ _ _ _ _ _ refl (pushed c.args.results.now _ _ (expr.Local name) c.in_ok-push.ensures.ok c.requires.empty refl)
    (method_row types c.args.func c.args.operands.now (Some name) c.args.self.now _ calls fresh.uncalled.here fresh.unasked (exported c.args.self.now.import export) (one_due c.args.func.now.result (c.is_none.ensures ∙ ap not c.if-is_none.false)) c.in_ok-name.ensures.fresh c.in_ok-name.ensures.takes)

pub begin_call-requires : goal.begin_call-requires
begin_call-requires c = record { closed = none_open c.args.self.now.opened c.requires.sendable.suits.2.closed }

pub call_for_value-requires : goal.call_for_value-requires
call_for_value-requires c = record { closed = none_open c.args.self.now.opened c.requires.sendable.suits.2.closed }
