use Rattle.std.proofs.Common.{[], ◌∷◌, ◌∙◌, ap, refl, subst, sym}
use Rattle.rust_tree.specs.declared.expr.Expr.TheVariants as expr
use Rattle.rust_tree.specs.declared.stmt.Stmt.TheVariants as stmt
use Rattle.abi_bindgen.specs.declared.instruction.Instruction.TheVariants as instruction
use Rattle.func_gen.specs.Added.{Appends}
use Rattle.func_gen.specs.PartForms.{are_operands, exprs_of}
use Rattle.func_gen.proofs.PartRows.{tuple_row}
use Rattle.func_gen.proofs.Rows.{emits_as, pushed}
use Rattle.func_gen.proofs.InwardForms.{tuple_inward}
use Rattle.func_gen.proofs.function_bindgen.FunctionBindgen.lift_tuple.Goals as goal

pub returns : goal.returns
returns c =
    let types = c.args.resolve.now.types in
    let n = c.in_ok-name.name in
    let same = c.as_slice.ensures in
    let adds = subst (λ es. Appends c.args.self.now c.add_let.new.self (stmt.Let n (expr.Tuple es) ∷ []) []) (c.in_ok-parts.ensures.same ∙ ap exprs_of same) c.in_ok-name.ensures.adds in
    emits_as types (instruction.TupleLift c.args.count) _ _ _ _ _ _ refl (pushed c.args.results.now _ _ (expr.Local n) c.in_ok-push.ensures.ok c.requires.empty refl)
    (tuple_row types _ _ n c.args.count c.args.operands.now c.requires.many (sym (ap are_operands same) ∙ c.in_ok-parts.ensures.operands) adds c.in_ok-name.ensures.fresh c.in_ok-name.ensures.takes)

pub add_let-requires : goal.add_let-requires
add_let-requires c = record { inward = tuple_inward c.in_ok-parts.parts c.in_ok-parts.ensures.each }
