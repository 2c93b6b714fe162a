use Rattle.std.proofs.Common.{[], ◌∷◌, ◌++◌, ap₂, ◌∙◌}
use Rattle.std.proofs.lemmas.Bool.{and_from}
use Rattle.std.proofs.lemmas.List.Folds.{list_all-append}
use Rattle.rust_tree.specs.declared.expr.Expr.TheVariants as expr
use Rattle.rust_tree.specs.declared.runtime_item.RuntimeItem.TheVariants.{CabiDealloc}
use Rattle.wrapper_run.specs.Inward.{is_inward_expr}
use Rattle.func_gen.proofs.InwardForms.{expr_inward, one_inward, runtime_inward, size_inward}
use Rattle.func_gen.proofs.function_bindgen.FunctionBindgen.add_free.Goals as goal

pub add_effect-requires : goal.add_effect-requires
add_effect-requires c =
    let size = expr.Size c.args.align in
    let same = ap₂ (λ path es. is_inward_expr (expr.Call path es)) c.in_ok-path.ensures c.in_ok-push.ensures.ok in
    let each = list_all-append is_inward_expr c.args.bytes (size ∷ []) ∙ and_from _ _ c.requires.inward (one_inward size (size_inward c.args.align)) in
    record { inward = expr_inward _ (same ∙ runtime_inward CabiDealloc (c.args.bytes ++ size ∷ []) each) }
