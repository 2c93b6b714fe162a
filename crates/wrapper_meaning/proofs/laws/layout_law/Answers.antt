use Rattle.wrapper_meaning.proofs.LayoutIsTree.{layout_is_tree}
use Rattle.wrapper_meaning.proofs.laws.layout_law.Goals as goal

pub returns : goal.returns
returns c = layout_is_tree
