use Rattle.std.proofs.Common.{[], ◌∷◌, refl, subst, ap, ◌∙◌}
use Rattle.rust_tree.specs.declared.expr.Expr.TheVariants as expr
use Rattle.rust_tree.specs.declared.stmt.Stmt.TheVariants as stmt
use Rattle.wit_model.specs.declared.types.TypeDefKind.TheVariants as kind
use Rattle.abi_bindgen.specs.declared.instruction.Instruction.TheVariants as instruction
use Rattle.func_gen.specs.Added.{Appends}
use Rattle.func_gen.proofs.FlagsRows.{flags_row}
use Rattle.func_gen.proofs.Rows.{emits_as, pushed}
use Rattle.func_gen.proofs.WrittenSites.{written_kind}
use Rattle.wrapper_run.specs.Inward.{is_inward_expr}
use Rattle.func_gen.proofs.InwardForms.{flags_inward}
use Rattle.func_gen.proofs.function_bindgen.FunctionBindgen.lift_flags.Goals as goal

pub returns : goal.returns
returns c =
    let types = c.args.resolve.now.types in
    let n = c.in_ok-name.name in
    let k = c.in_ok-flags.ensures in
    emits_as types (instruction.FlagsLift c.args.id) _ _ _ _ _ _ refl (pushed c.args.results.now _ _ (expr.Local n) c.in_ok-push.ensures.ok c.requires.empty refl)
    (flags_row types c.args.self.now _ n c.args.id c.args.operands.now k.site k.is_site k.many k.operands
    (subst (λ x. Appends c.args.self.now c.add_let.new.self (stmt.Let n x ∷ []) []) k.is c.in_ok-name.ensures.adds) c.in_ok-name.ensures.fresh c.in_ok-name.ensures.takes)

pub flags_expr-requires : goal.flags_expr-requires
flags_expr-requires c =
    let (n, is, written) = c.requires.sendable.suits in
    record {
      site = written_kind c.args.resolve.now.types c.args.self.now.sites c.args.id.0 is.1.entry (kind.Flags is.0) is.1.stands is.1.kind written;
      reads = c.requires.sendable.operands;
    }

pub add_let-requires : goal.add_let-requires
add_let-requires c =
    let k = c.in_ok-flags.ensures in
    record { inward = ap is_inward_expr k.is ∙ flags_inward c.args.operands.now k.operands k.site }
