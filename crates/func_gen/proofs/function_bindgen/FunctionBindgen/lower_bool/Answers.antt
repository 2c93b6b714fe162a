use Rattle.std.proofs.Common.{[], ◌∷◌, subst, refl}
use Rattle.rust_tree.specs.declared.expr.Expr.TheVariants as expr
use Rattle.rust_tree.specs.declared.stmt.Stmt.TheVariants as stmt
use Rattle.abi_bindgen.specs.declared.instruction.Instruction.TheVariants as instruction
use Rattle.func_gen.specs.Added.{Appends}
use Rattle.func_gen.proofs.LiftedRows.{bool_row}
use Rattle.func_gen.proofs.Rows.{pushed}
use Rattle.func_gen.proofs.InwardForms.{bool_inward}
use Rattle.func_gen.proofs.PlainOperands.{emits_plainly}
use Rattle.func_gen.proofs.function_bindgen.FunctionBindgen.lower_bool.Goals as goal

pub returns : goal.returns
returns c =
    let types = c.args.resolve.now.types in
    let e = c.in_ok-e.e in
    let n = c.in_ok-name.name in
    let adds = subst (λ x. Appends c.args.self.now c.add_let.new.self (stmt.Let n (expr.I32FromBool x) ∷ []) []) c.in_ok-new.ensures c.in_ok-name.ensures.adds in
    emits_plainly types instruction.I32FromBool _ _ _ _ _ _ refl c.in_ok-e.ensures.only (pushed c.args.results.now _ _ (expr.Local n) c.in_ok-push.ensures.ok c.requires.empty refl)
    (bool_row types _ _ n e c.in_ok-e.ensures.operand adds c.in_ok-name.ensures.fresh c.in_ok-name.ensures.takes)

pub add_let-requires : goal.add_let-requires
add_let-requires c = record { inward = rw c.in_ok-new.ensures (bool_inward c.in_ok-e.e c.in_ok-e.ensures.operand) }
