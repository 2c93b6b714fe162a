use Rattle.std.proofs.Common.{arith}
use Rattle.std.proofs.lemmas.List.{take_rest}
use Rattle.std.proofs.lemmas.Grind.{common_steps}
use Rattle.wit_ends.proofs.ToldLemmas.{append_known-next}
use Rattle.wit_ends.proofs.write.write_all.Goals as goal

pub loop-done-preserved : goal.loop-done-preserved
loop-done-preserved g c =
    let written = c.in_ok-count.ensures in
    record {
      within = grind (arith, common_steps);
      taken =
          append_known-next _ _ _ c.args.bytes.now c.loop-done.done c.in_ok-count.count c.loop-done.invariant.taken (simp take_rest at written.bytes);
      never_falls = omega (arith, written.never_falls);
    }
