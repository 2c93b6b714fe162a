use Rattle.wrapper_meaning.proofs.DistinctKeys.{settled_is_distinct}
use Rattle.wrapper_meaning.proofs.laws.map_law.Goals as goal

pub returns : goal.returns
returns c = settled_is_distinct
