use Rattle.std.proofs.Common.{[], ◌∷◌, ◌++◌, subst, sym}
use Rattle.rust_tree.specs.declared.expr.Expr.TheVariants as expr
use Rattle.rust_tree.specs.declared.stmt.Stmt.TheVariants as stmt
use Rattle.abi_bindgen.specs.Laws.{PointsTo}
use Rattle.func_gen.specs.declared.function_bindgen.FunctionBindgen.{FunctionBindgen}
use Rattle.func_gen.specs.Added.{Appends}
use Rattle.func_gen.specs.BindgenSeen.{seen_bindgen}
use Rattle.func_gen.specs.Forms.{operand_of}
use Rattle.func_gen.specs.Meaning.{func_meaning}
use Rattle.func_gen.proofs.AreaRows.{points_to}
use Rattle.func_gen.proofs.function_bindgen.FunctionBindgen.point.Goals as goal

pub returns : goal.returns
returns c =
    let old = c.args.self.now in
    let mid = c.let_outside.new.self in
    let n = c.in_ok-name.name in
    let added = subst (λ e. Appends old mid (stmt.Let n e ∷ []) []) c.in_ok-pointer.ensures c.in_ok-name.ensures.adds in
    subst (λ asked. PointsTo func_meaning c.args.room (operand_of (expr.Local n)) old (record (seen_bindgen c.self.inside) { asked = asked })) (sym c.in_ok-push.ensures.ok)
    (subst (λ (b : FunctionBindgen). PointsTo func_meaning c.args.room (operand_of (expr.Local n)) old (record b { asked = b.asked ++ c.args.room ∷ [] })) (sym c.self.view_is) (points_to c.args.room old mid n added c.in_ok-name.ensures.fresh c.requires.aligned c.in_ok-name.ensures.takes))
