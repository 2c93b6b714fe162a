use Rattle.std.proofs.Common.{[], ◌∷◌, subst, ap, refl, ◌∙◌}
use Rattle.rust_tree.specs.declared.expr.CastType.TheVariants as cast
use Rattle.rust_tree.specs.declared.expr.Expr.TheVariants as expr
use Rattle.rust_tree.specs.declared.runtime_item.RuntimeItem.TheVariants.{CharLift}
use Rattle.rust_tree.specs.declared.stmt.Stmt.TheVariants as stmt
use Rattle.abi_bindgen.specs.declared.instruction.Instruction.TheVariants as instruction
use Rattle.func_gen.specs.Added.{Appends}
use Rattle.func_gen.specs.Forms.{runtime_call}
use Rattle.func_gen.proofs.Forming.{one_since}
use Rattle.func_gen.proofs.LiftedRows.{char_lift_row}
use Rattle.func_gen.proofs.Rows.{appends_both, fresh_since, pushed}
use Rattle.func_gen.proofs.InwardForms.{lifted_inward}
use Rattle.func_gen.proofs.PlainOperands.{emits_plainly}
use Rattle.func_gen.proofs.function_bindgen.FunctionBindgen.lift_char.Goals as goal

pub returns : goal.returns
returns c =
    let types = c.args.resolve.now.types in
    let e = c.in_ok-e.e in
    let n = c.in_ok-name.name in
    let same = c.in_ok-lifted.ensures ∙ ap (λ x. runtime_call CharLift (expr.Cast x cast.U32)) c.in_ok-new.ensures in
    let adds = appends_both c.args.self.now c.ask.new.self c.add_let.new.self [] (stmt.Let n c.in_ok-lifted.lifted ∷ []) (CharLift ∷ []) [] c.in_ok-ask.ensures.asks c.in_ok-name.ensures.adds in
    emits_plainly types instruction.CharFromI32 _ _ _ _ _ _ refl c.in_ok-e.ensures.only (pushed c.args.results.now _ _ (expr.Local n) c.in_ok-push.ensures.ok c.requires.empty refl)
    (char_lift_row types _ _ n e c.in_ok-e.ensures.operand (fresh_since c.args.self.now c.ask.new.self c.add_let.new.self n c.in_ok-ask.ensures.scope c.in_ok-name.ensures.fresh)
    (subst (λ x. Appends c.args.self.now c.add_let.new.self (stmt.Let n x ∷ []) (CharLift ∷ [])) same adds)
    (one_since c.args.self.now.scope c.ask.new.self.scope c.add_let.new.self.scope _ n c.in_ok-ask.ensures.scope c.in_ok-name.ensures.takes))

pub add_let-requires : goal.add_let-requires
add_let-requires c = record { inward = rw (c.in_ok-lifted.ensures, c.in_ok-new.ensures) (lifted_inward c.in_ok-e.e c.in_ok-e.ensures.operand CharLift cast.U32) }
