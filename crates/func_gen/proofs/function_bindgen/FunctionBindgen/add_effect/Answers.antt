use Rattle.std.proofs.Common.{[], ◌∷◌}
use Rattle.func_gen.proofs.KeptNames.{added_whole}
use Rattle.func_gen.proofs.function_bindgen.FunctionBindgen.add_effect.Goals as goal

pub invariant_of-self : goal.invariant_of-self
invariant_of-self c = rw c.in_err-push.ensures.err c.self.invariant

pub invariant_of-self-2 : goal.invariant_of-self-2
invariant_of-self-2 c = rw c.in_ok-push.ensures.ok (added_whole c.self.inside.code (c.args.effect ∷ []) c.requires.inward c.self.invariant)
