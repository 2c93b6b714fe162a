use Rattle.std.proofs.Common.{[], ◌∷◌, ◌++◌, ◌∙◌, ap, refl}
use Rattle.func_gen.specs.Forms.{kept_operand}
use Rattle.func_gen.proofs.Rows.{unchanged}
use Rattle.func_gen.proofs.ScalarRows.{keep_plainly, keep_row}
use Rattle.func_gen.proofs.PlainOperands.{emits_plainly}
use Rattle.func_gen.proofs.function_bindgen.FunctionBindgen.keep.Goals as goal

pub returns : goal.returns
returns c =
    let types = c.args.resolve.now.types in
    let e = c.in_ok-expr.expr in
    emits_plainly types c.args.inst.now _ _ _ _ _ _ (keep_plainly c.args.inst.now c.requires.kept) c.in_ok-expr.ensures.only (c.in_ok-push.ensures.ok ∙ ap (λ rs. rs ++ kept_operand e ∷ []) c.requires.empty)
    (keep_row types c.args.self.now _ c.args.inst.now e c.requires.kept (unchanged c.args.self.now) refl)
