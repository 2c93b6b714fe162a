use Rattle.std.proofs.Common.{refl, ap}
use Rattle.rust_tree.specs.declared.expr.Expr.TheVariants as expr
use Rattle.abi_bindgen.specs.declared.instruction.Instruction.TheVariants as instruction
use Rattle.func_gen.proofs.EnumRows.{enum_number_row}
use Rattle.func_gen.proofs.Rows.{pushed, unchanged}
use Rattle.func_gen.proofs.PlainOperands.{emits_plainly}
use Rattle.func_gen.proofs.function_bindgen.FunctionBindgen.lower_enum.Goals as goal

pub returns : goal.returns
returns c =
    let types = c.args.resolve.now.types in
    let e = c.in_ok-e.e in
    emits_plainly types (instruction.EnumLower c.args.id) _ _ _ _ _ _ refl c.in_ok-e.ensures.only (pushed c.args.results.now _ _ (expr.EnumNumber e) c.in_ok-push.ensures.ok c.requires.empty (ap (λ x. expr.EnumNumber x) c.in_ok-new.ensures))
    (enum_number_row types c.args.self.now _ c.args.id e c.requires.kind (unchanged c.args.self.now) refl)
