use Rattle.wrapper_meaning.proofs.MadeIsLent.{made_is_lent}
use Rattle.wrapper_meaning.proofs.laws.made_law.Goals as goal

pub returns : goal.returns
returns c = made_is_lent
