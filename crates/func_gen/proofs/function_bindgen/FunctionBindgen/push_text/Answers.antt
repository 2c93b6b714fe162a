use Rattle.std.proofs.Common.{ap, ◌∙◌}
use Rattle.wrapper_run.specs.Inward.{is_inward_expr}
use Rattle.func_gen.proofs.InwardForms.{let_inward, text_inward}
use Rattle.func_gen.proofs.function_bindgen.FunctionBindgen.push_text.Goals as goal

pub add_effect-requires : goal.add_effect-requires
add_effect-requires c = record { inward = let_inward c.in_ok-lifted.lifted (ap is_inward_expr c.in_ok-lifted.ensures ∙ text_inward _) c.in_ok-name.name }
