use Rattle.func_gen.proofs.KeptNames.{still_whole}
use Rattle.func_gen.proofs.function_bindgen.FunctionBindgen.new_local.Goals as goal

pub invariant_of-self : goal.invariant_of-self
invariant_of-self c = still_whole c.in_err-t.ensures.keeps c.self.invariant

pub invariant_of-self-in_err-text : goal.invariant_of-self-in_err-text
invariant_of-self-in_err-text c = still_whole c.in_ok-t.ensures.keeps c.self.invariant

pub invariant_of-self-in_err-copy : goal.invariant_of-self-in_err-copy
invariant_of-self-in_err-copy c = still_whole c.in_ok-t.ensures.keeps c.self.invariant

pub invariant_of-self-2 : goal.invariant_of-self-2
invariant_of-self-2 c = still_whole c.in_ok-t.ensures.keeps c.self.invariant
