use Rattle.std.proofs.Common.{[], ◌∷◌, refl, ap, ◌∙◌, subst}
use Rattle.rust_tree.specs.declared.expr.Expr.TheVariants as expr
use Rattle.rust_tree.specs.declared.stmt.Stmt.TheVariants as stmt
use Rattle.wit_model.specs.declared.types.TypeDefKind.TheVariants as kind
use Rattle.abi_bindgen.specs.declared.instruction.Instruction.TheVariants as instruction
use Rattle.func_gen.specs.Added.{Appends}
use Rattle.func_gen.proofs.EnumRows.{case_row}
use Rattle.func_gen.proofs.Rows.{pushed}
use Rattle.func_gen.proofs.WrittenSites.{written_kind}
use Rattle.wrapper_run.specs.Inward.{is_inward_expr}
use Rattle.func_gen.proofs.InwardForms.{lift_inward}
use Rattle.func_gen.proofs.PlainOperands.{emits_plainly}
use Rattle.func_gen.proofs.function_bindgen.FunctionBindgen.lift_enum.Goals as goal

pub returns : goal.returns
returns c =
    let types = c.args.resolve.now.types in
    let e = c.only_expr-e.result.now in
    let n = c.in_ok-name.name in
    let k = c.in_ok-case.ensures in
    let same = k.is ∙ ap (λ path. expr.Call path (expr.Cast e k.to ∷ [])) k.by.is in
    emits_plainly types (instruction.EnumLift c.args.id) _ _ _ _ _ _ refl c.only_expr-e.ensures.only (pushed c.args.results.now _ _ (expr.Local n) c.in_ok-push.ensures.ok c.requires.empty refl)
    (case_row types c.args.self.now _ n c.args.id e k.site k.is_site k.by.name k.by.root k.by.typed k.to k.cast c.only_expr-e.ensures.operand c.in_ok-name.ensures.fresh
    (subst (λ x. Appends c.args.self.now c.add_let.new.self (stmt.Let n x ∷ []) []) same c.in_ok-name.ensures.adds) c.in_ok-name.ensures.takes)

pub lifted_case-requires-clause-site : goal.lifted_case-requires-clause-site
lifted_case-requires-clause-site c =
    let (members, is, written) = c.requires.sendable.suits in
    written_kind c.args.resolve.now.types c.args.self.now.sites c.args.id.0 is.entry (kind.Enum members) is.stands is.kind written

pub add_let-requires : goal.add_let-requires
add_let-requires c =
    let k = c.in_ok-case.ensures in
    let same = k.is ∙ ap (λ path. expr.Call path (expr.Cast c.only_expr-e.result.now k.to ∷ [])) k.by.is in
    record { inward = ap is_inward_expr same ∙ lift_inward c.only_expr-e.result.now c.only_expr-e.ensures.operand k.by.name k.to }
