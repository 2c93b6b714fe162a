use Rattle.std.proofs.Common.{refl, ap, ◌∙◌}
use Rattle.rust_tree.specs.declared.expr.Expr.TheVariants as expr
use Rattle.wit_model.specs.declared.types.TypeDefKind.TheVariants as kind
use Rattle.abi_bindgen.specs.declared.instruction.Instruction.TheVariants as instruction
use Rattle.func_gen.proofs.RecordRows.{record_made}
use Rattle.func_gen.proofs.Rows.{emits_as, pushed}
use Rattle.func_gen.proofs.WrittenSites.{written_kind}
use Rattle.wrapper_run.specs.Inward.{is_inward_expr}
use Rattle.func_gen.proofs.InwardForms.{record_inward}
use Rattle.func_gen.proofs.function_bindgen.FunctionBindgen.lift_record.Goals as goal

pub returns : goal.returns
returns c =
    let types = c.args.resolve.now.types in
    let n = c.in_ok-name.name in
    emits_as types (instruction.RecordLift c.args.id) _ _ _ _ _ _ refl (pushed c.args.results.now _ _ (expr.Local n) c.in_ok-push.ensures.ok c.requires.empty refl)
    (record_made types c.args.self.now _ n c.args.id c.args.operands.now c.in_ok-record.record c.in_ok-record.ensures c.in_ok-name.ensures.adds c.in_ok-name.ensures.fresh c.in_ok-name.ensures.takes)

pub record_expr-requires : goal.record_expr-requires
record_expr-requires c =
    let (members, is, written) = c.requires.sendable.suits in
    record { site = written_kind c.args.resolve.now.types c.args.self.now.sites c.args.id.0 is.entry (kind.Record members) is.at is.kind written; reads = c.requires.sendable.operands }

pub add_let-requires : goal.add_let-requires
add_let-requires c =
    let k = c.in_ok-record.ensures in
    record { inward = ap is_inward_expr k.is ∙ record_inward c.args.operands.now k.operands k.site.lifted k.site.fields }
