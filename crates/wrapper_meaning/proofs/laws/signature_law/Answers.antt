use Rattle.wrapper_meaning.proofs.LayoutIsTree.{signature_is_by_shapes}
use Rattle.wrapper_meaning.proofs.laws.signature_law.Goals as goal

pub returns : goal.returns
returns c = signature_is_by_shapes
