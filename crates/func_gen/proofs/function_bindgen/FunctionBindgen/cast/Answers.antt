use Rattle.std.proofs.Common.{refl, ap}
use Rattle.rust_tree.specs.declared.expr.Expr.TheVariants as expr
use Rattle.func_gen.proofs.Rows.{pushed, unchanged}
use Rattle.func_gen.proofs.ScalarRows.{cast_plainly, cast_row}
use Rattle.func_gen.proofs.PlainOperands.{emits_plainly}
use Rattle.func_gen.proofs.function_bindgen.FunctionBindgen.cast.Goals as goal

pub returns : goal.returns
returns c =
    let types = c.args.resolve.now.types in
    let e = c.in_ok-e.e in
    emits_plainly types c.args.inst.now _ _ _ _ _ _ (cast_plainly c.args.inst.now c.args.to c.requires.cast) c.in_ok-e.ensures.only (pushed c.args.results.now _ _ (expr.Cast e c.args.to) c.in_ok-push.ensures.ok c.requires.empty (ap (λ x. expr.Cast x c.args.to) c.in_ok-new.ensures))
    (cast_row types c.args.self.now _ c.args.inst.now c.args.to e c.requires.cast (unchanged c.args.self.now) refl)
