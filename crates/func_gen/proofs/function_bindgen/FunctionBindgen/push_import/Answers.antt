use Rattle.func_gen.proofs.InwardForms.{import_inward}
use Rattle.func_gen.proofs.function_bindgen.FunctionBindgen.push_import.Goals as goal

pub add_effect-requires : goal.add_effect-requires
add_effect-requires c = record { inward = import_inward c.in_ok-declared.declared }
