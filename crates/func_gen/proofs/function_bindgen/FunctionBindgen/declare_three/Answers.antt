use Rattle.func_gen.proofs.KeptNames.{still_whole}
use Rattle.func_gen.proofs.function_bindgen.FunctionBindgen.declare_three.Goals as goal

pub invariant_of-self : goal.invariant_of-self
invariant_of-self c = still_whole c.declare.ensures.keeps c.self.invariant
