use Rattle.std.proofs.Common.{ap, ◌∙◌}
use Rattle.rust_tree.specs.declared.stmt.MatchNames.TheVariants as names_of
use Rattle.wrapper_run.specs.Inward.{is_inward_expr}
use Rattle.func_gen.proofs.InwardForms.{match_inward, operand_inward}
use Rattle.func_gen.proofs.function_bindgen.FunctionBindgen.add_match.Goals as goal

pub add_effect-requires : goal.add_effect-requires
add_effect-requires c = record { inward = match_inward c.in_ok-e.e (ap is_inward_expr c.in_ok-e.ensures ∙ operand_inward c.args.e.now c.requires.operand) (names_of.One c.in_ok-name.bound) c.args.arms c.requires.inward }
