use Rattle.rust_tree.specs.declared.expr.Expr.TheVariants as expr
use Rattle.func_gen.proofs.InwardForms.{length_inward, let_inward}
use Rattle.func_gen.proofs.function_bindgen.FunctionBindgen.push_len.Goals as goal

pub add_effect-requires : goal.add_effect-requires
add_effect-requires c = record { inward = let_inward (expr.Len c.in_ok-vec.vec) (length_inward c.in_ok-vec.vec) c.in_ok-name.name }
