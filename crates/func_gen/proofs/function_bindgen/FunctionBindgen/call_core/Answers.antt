use Rattle.std.proofs.Common.{refl, sym, ap, ◌∙◌}
use Rattle.rust_tree.specs.declared.expr.Expr.TheVariants as expr
use Rattle.abi_bindgen.specs.declared.instruction.Instruction.TheVariants as instruction
use Rattle.func_gen.specs.CallForms.{exprs}
use Rattle.func_gen.proofs.CallRows.{call_as, call_emits, statement_as, statement_emits}
use Rattle.func_gen.proofs.Rows.{emits_as, pushed}
use Rattle.func_gen.proofs.function_bindgen.FunctionBindgen.call_core.Goals as goal

pub returns-in_ok-add_statement-in-None : goal.returns-in_ok-add_statement-in-None
returns-in_ok-add_statement-in-None c =
    let types = c.args.resolve.now.types in
    let adds = statement_as c.args.func.now _ _ _ _ c.args.self.now _ c.in_ok-params.ensures (c.in_ok-arguments.ensures ∙ ap exprs c.as_slice.ensures) c.in_ok-add_statement-in-None.ensures in
    emits_as types (instruction.CallWasm c.args.func) _ _ _ _ _ _ refl c.requires.empty
    (statement_emits types c.args.func c.args.operands.now c.args.self.now _ c.requires.imports c.requires.words adds (sym c.in-None.ensures))

pub returns-in_ok-push-in-Some : goal.returns-in_ok-push-in-Some
returns-in_ok-push-in-Some c =
    let types = c.args.resolve.now.types in
    let name = c.in_ok-name-in-Some.name in
    let adds = call_as c.args.func.now _ _ c.in-Some.ty _ _ name c.args.self.now _ c.in_ok-params.ensures (c.in_ok-arguments.ensures ∙ ap exprs c.as_slice.ensures) c.in_ok-name-in-Some.ensures in
    emits_as types (instruction.CallWasm c.args.func) _ _ _ _ _ _ refl (pushed c.args.results.now _ _ (expr.Local name) c.in_ok-push-in-Some.ensures.ok c.requires.empty refl)
    (call_emits types c.args.func c.args.operands.now c.args.self.now _ c.in-Some.ty name c.requires.imports c.requires.words adds (sym c.in-Some.ensures))
