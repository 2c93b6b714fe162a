use Rattle.std.proofs.Common.{ap, ◌∙◌}
use Rattle.wrapper_run.specs.Inward.{is_inward_expr}
use Rattle.func_gen.proofs.InwardForms.{let_inward, operand_inward}
use Rattle.func_gen.proofs.function_bindgen.FunctionBindgen.push_taken.Goals as goal

pub add_effect-requires : goal.add_effect-requires
add_effect-requires c = record { inward = let_inward c.in_ok-n.n (ap is_inward_expr c.in_ok-n.ensures ∙ operand_inward c.args.n.now c.requires.second) c.args.len }

pub push_bytes-requires : goal.push_bytes-requires
push_bytes-requires c = record { inward = ap is_inward_expr c.in_ok-address.ensures ∙ operand_inward c.args.address.now c.requires.first }
