use Rattle.std.proofs.Common.{arith}
use Rattle.std.proofs.lemmas.Grind.{common_steps}
use Rattle.func_gen.proofs.emit.casts.slot_names.Goals as goal

pub loop-i-preserved : goal.loop-i-preserved
loop-i-preserved c = λ t. grind (arith, common_steps, c.in_ok-push_slot_name.ensures t, c.loop-i.invariant t)
