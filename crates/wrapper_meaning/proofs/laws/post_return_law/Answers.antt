use Rattle.wrapper_meaning.proofs.PostReturn.{post_return_leaves}
use Rattle.wrapper_meaning.proofs.laws.post_return_law.Goals as goal

pub returns : goal.returns
returns c = post_return_leaves
