use Rattle.std.proofs.Common.{refl, ap}
use Rattle.rust_tree.specs.declared.expr.Expr.TheVariants as expr
use Rattle.func_gen.specs.Scope.{with_number}
use Rattle.func_gen.proofs.NameRows.{stem_row}
use Rattle.func_gen.proofs.Rows.{emits_as, pushed}
use Rattle.func_gen.proofs.function_bindgen.FunctionBindgen.read_name.Goals as goal

pub returns : goal.returns
returns c =
    let k = c.innermost-number.result in
    let n = with_number c.args.stem.now k in
    emits_as c.args.resolve.now.types c.args.inst.now _ _ _ _ _ _ refl (pushed c.args.results.now _ _ (expr.Local n) c.in_ok-push.ensures.ok c.requires.empty (ap (λ name. expr.Local name) c.in_ok-numbered.ensures))
    (stem_row c.args.self.now k c.innermost-number.ensures c.args.resolve.now.types c.args.inst.now c.args.stem.now c.requires.stem)
