use Rattle.wrapper_faithful.proofs.Round.{run_leaves}
use Rattle.wrapper_faithful.proofs.laws.unreturned_law.Goals as goal

pub returns : goal.returns
returns c = run_leaves
