use Rattle.std.proofs.Common.{[], ◌∷◌, refl, subst}
use Rattle.rust_tree.specs.declared.expr.Expr.TheVariants as expr
use Rattle.rust_tree.specs.declared.stmt.Stmt.TheVariants as stmt
use Rattle.func_gen.specs.Added.{Appends}
use Rattle.func_gen.proofs.LoadRows.{small_load_row, small_load_plainly}
use Rattle.func_gen.proofs.Rows.{pushed}
use Rattle.func_gen.proofs.InwardForms.{load_small_inward}
use Rattle.func_gen.proofs.PlainOperands.{emits_plainly}
use Rattle.func_gen.proofs.function_bindgen.FunctionBindgen.load_low.Goals as goal

pub returns : goal.returns
returns c =
    let types = c.args.resolve.now.types in
    let e = c.in_ok-address.address in
    let n = c.in_ok-name.name in
    let adds = subst (λ x. Appends c.args.self.now c.add_let.new.self (stmt.Let n (expr.LoadSmall x c.args.place.0 c.args.place.1) ∷ []) []) c.in_ok-new.ensures c.in_ok-name.ensures.adds in
    emits_plainly types c.args.inst.now _ _ _ _ _ _ (small_load_plainly c.args.inst.now c.args.place c.requires.load) c.in_ok-address.ensures.only (pushed c.args.results.now _ _ (expr.Local n) c.in_ok-push.ensures.ok c.requires.empty refl)
    (small_load_row types _ _ c.args.inst.now n e c.in_ok-address.ensures.operand c.in_ok-name.ensures.fresh c.in_ok-name.ensures.takes c.args.place c.requires.load adds)

pub add_let-requires : goal.add_let-requires
add_let-requires c = record { inward = rw c.in_ok-new.ensures (load_small_inward c.in_ok-address.address c.in_ok-address.ensures.operand c.args.place.0 c.args.place.1) }
