use Rattle.std.proofs.Common.{refl}
use Rattle.wrapper_run.specs.Results.{run_results}
use Rattle.wrapper_run.proofs.BesideActs.{Frames, frames_everywhere, frames_scope}
use Rattle.wrapper_run.proofs.GrowLemmas.{all_known}
use Rattle.wrapper_run.proofs.Walk.{known_block, walks_block, walks_given}
use Rattle.wrapper_run.proofs.laws.beside_law.Goals as goal

pub returns : goal.returns
returns c = record {
  bodies = λ w b others held s blocks taken h. (walks_block w all_known (Frames others held h) (frames_everywhere others held h w all_known) b (known_block all_known (λ name. refl) b)).1.alike s blocks taken;
  inner = λ w b others held s blocks taken h.
      (frames_scope others held h w (run_results w b)
      (walks_given w all_known (Frames others held h) (frames_everywhere others held h w all_known) b (known_block all_known (λ name. refl) b))).1.alike s blocks taken;
}
