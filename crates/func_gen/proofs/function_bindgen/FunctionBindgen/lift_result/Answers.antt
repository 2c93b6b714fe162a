use Rattle.std.proofs.Common.{◌≡◌, ◌∙◌, ap, arith, length, refl, subst, sym}
use Rattle.rust_tree.specs.declared.expr.Expr.TheVariants as expr
use Rattle.abi_bindgen.specs.declared.instruction.Instruction.TheVariants as instruction
use Rattle.abi_bindgen.specs.Cases.{payloads_at}
use Rattle.func_gen.specs.LiftedCases.{LiftsBy, is_inward_case}
use Rattle.func_gen.proofs.BlocksThere.{cases_few, cases_there}
use Rattle.func_gen.proofs.CaseFits.{result_count}
use Rattle.func_gen.proofs.CaseLifted.{result_made}
use Rattle.func_gen.proofs.Rows.{pushed}
use Rattle.std.specs.List.{list_all}
use Rattle.func_gen.proofs.InwardArms.{result_inward}
use Rattle.func_gen.proofs.PlainOperands.{emits_plainly}
use Rattle.func_gen.proofs.function_bindgen.FunctionBindgen.lift_result.Goals as goal

pub lift_cases-requires : goal.lift_cases-requires
lift_cases-requires c =
    let payloads = payloads_at c.args.resolve.now.types c.args.id.0 in
    let cases = c.as_slice.result.now in
    let forms = c.in_ok-forms.ensures in
    let two = ap length (c.as_slice.ensures ∙ forms.are) in
    let many : length payloads ≡ length cases = result_count c.args.resolve.now.types c.args.id.0 c.in_ok-forms.forms forms ∙ sym (ap length c.as_slice.ensures) in
    let has = c.requires.sendable.suits.3 in
    record { operand = c.only_expr-e.ensures.operand; low = omega (arith, two); there = cases_there c.args.self.now payloads (length cases) many has; few = cases_few c.args.self.now payloads (length cases) many has; inward = ap (list_all is_inward_case) (c.as_slice.ensures ∙ forms.are) ∙ result_inward forms.ok forms.err }

pub returns : goal.returns
returns c =
    let types = c.args.resolve.now.types in
    let e = c.only_expr-e.result.now in
    let forms = c.in_ok-forms.forms in
    let name = c.in_ok-name.name in
    let lifts = subst (λ fs. LiftsBy fs e name c.args.self.now c.lift_cases.new.self) c.as_slice.ensures c.in_ok-name.ensures in
    emits_plainly types (instruction.ResultLift c.args.id) _ _ _ _ _ _ refl c.only_expr-e.ensures.only (pushed c.args.results.now _ _ (expr.Local name) c.in_ok-push.ensures.ok c.requires.empty refl)
    (result_made types c.args.id _ _ forms e name lifts c.only_expr-e.ensures.operand c.in_ok-forms.ensures)
