use Rattle.std.proofs.Common.{ap, ◌∙◌}
use Rattle.rust_tree.specs.declared.expr.Expr.TheVariants as expr
use Rattle.wrapper_run.specs.Inward.{is_inward_expr}
use Rattle.func_gen.proofs.InwardForms.{let_inward, parts_inward}
use Rattle.func_gen.proofs.function_bindgen.FunctionBindgen.push_bytes.Goals as goal

pub add_effect-requires : goal.add_effect-requires
add_effect-requires c =
    let address = c.in_ok-address.address in
    record { inward = let_inward (expr.FromRawParts address c.in_ok-len.len) (parts_inward address c.in_ok-len.len (ap is_inward_expr c.in_ok-address.ensures ∙ c.requires.inward)) c.in_ok-name.name }
