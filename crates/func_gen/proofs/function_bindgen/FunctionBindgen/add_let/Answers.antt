use Rattle.func_gen.proofs.InwardForms.{let_inward}
use Rattle.func_gen.proofs.function_bindgen.FunctionBindgen.add_let.Goals as goal

pub add_effect-requires : goal.add_effect-requires
add_effect-requires c = record { inward = let_inward c.args.e c.requires.inward c.in_ok-name.declared }
