use Rattle.std.proofs.Common.{refl, ◌++◌, ◌∙◌, ap}
use Rattle.wit_model.specs.declared.types.TypeDefKind.TheVariants as kind
use Rattle.abi_bindgen.specs.declared.instruction.Instruction.TheVariants as instruction
use Rattle.func_gen.specs.PartForms.{locals_of}
use Rattle.func_gen.proofs.RecordRows.{record_split}
use Rattle.func_gen.proofs.WrittenSites.{written_kind}
use Rattle.func_gen.proofs.PlainOperands.{emits_plainly}
use Rattle.func_gen.proofs.function_bindgen.FunctionBindgen.lower_record.Goals as goal

pub returns : goal.returns
returns c =
    let types = c.args.resolve.now.types in
    let e = c.only_expr-e.result.now in
    let names = c.in_ok-names.names in
    emits_plainly types (instruction.RecordLower c.args.id) _ _ _ _ _ _ refl c.only_expr-e.ensures.only
    (c.in_ok-push_locals.ensures ∙ ap (λ rs. rs ++ locals_of c.as_slice.result.now) c.requires.empty ∙ ap locals_of c.as_slice.ensures)
    (record_split types c.args.self.now _ c.args.id e names c.only_expr-e.ensures.operand c.in_ok-names.ensures)

pub add_fields-requires-clause-site : goal.add_fields-requires-clause-site
add_fields-requires-clause-site c =
    let (members, is, written) = c.requires.sendable.suits in
    written_kind c.args.resolve.now.types c.args.self.now.sites c.args.id.0 is.entry (kind.Record members) is.at is.kind written
