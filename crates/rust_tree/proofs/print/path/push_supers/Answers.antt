use Rattle.std.proofs.Common.{arith}
use Rattle.std.proofs.lemmas.Grind.{common_steps}
use Rattle.rust_tree.proofs.Joins.{supers_less}
use Rattle.rust_tree.proofs.print.path.push_supers.Goals as goal

pub loop-i-preserved : goal.loop-i-preserved
loop-i-preserved c = let e = supers_less c.args.supers c.loop-i._i (omega arith) in grind (arith, common_steps, e)
