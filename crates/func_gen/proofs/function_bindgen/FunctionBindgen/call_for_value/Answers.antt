use Rattle.func_gen.proofs.KeptNames.{still_whole}
use Rattle.func_gen.proofs.function_bindgen.FunctionBindgen.call_for_value.Goals as goal

pub invariant_of-self : goal.invariant_of-self
invariant_of-self c = still_whole c.in_err-t.ensures.keeps c.self.invariant

pub invariant_of-self-in_err-name : goal.invariant_of-self-in_err-name
invariant_of-self-in_err-name c = still_whole c.in_ok-t.ensures.keeps c.self.invariant

pub invariant_of-self-in_err-given : goal.invariant_of-self-in_err-given
invariant_of-self-in_err-given c = still_whole c.in_ok-t.ensures.keeps c.self.invariant

pub invariant_of-self-2 : goal.invariant_of-self-2
invariant_of-self-2 c = still_whole c.in_ok-t.ensures.keeps c.self.invariant
