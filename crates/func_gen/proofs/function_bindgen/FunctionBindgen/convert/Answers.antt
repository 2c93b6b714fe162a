use Rattle.std.proofs.Common.{ap, ◌∙◌}
use Rattle.func_gen.specs.Forms.{runtime_call}
use Rattle.func_gen.specs.Operand.{is_operand}
use Rattle.func_gen.proofs.OperandSteps.{converted_operand}
use Rattle.func_gen.proofs.Rows.{emits_as, pushed}
use Rattle.func_gen.proofs.ScalarRows.{convert_row, one_operand}
use Rattle.func_gen.proofs.function_bindgen.FunctionBindgen.convert.Goals as goal

pub returns : goal.returns
returns c =
    let types = c.args.resolve.now.types in
    let e = c.in_ok-e.e in
    let (kept, is) = one_operand c.args.operands.now e c.in_ok-e.ensures.only in
    emits_as types c.args.inst.now _ _ _ _ _ _ is (pushed c.args.results.now _ c.in_ok-expr.expr (runtime_call c.args.function e) c.in_ok-push.ensures.ok c.requires.empty c.in_ok-expr.ensures)
    (convert_row types _ _ c.args.inst.now c.args.function e kept c.requires.conversion c.in_ok-ask.ensures.asks c.in_ok-ask.ensures.scope)

pub invariant_of-push : goal.invariant_of-push
invariant_of-push c = ap is_operand c.in_ok-expr.ensures ∙ converted_operand c.args.inst.now c.args.function c.in_ok-e.e c.requires.conversion c.in_ok-e.ensures.operand
