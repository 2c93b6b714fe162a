use Rattle.func_gen.proofs.InwardForms.{let_inward}
use Rattle.func_gen.proofs.function_bindgen.FunctionBindgen.push_buffer.Goals as goal

pub add_effect-requires : goal.add_effect-requires
add_effect-requires c = record { inward = let_inward c.args.e c.requires.inward c.args.vec }
