use Rattle.wrapper_meaning.proofs.ShapeIsByKind.{shape_is_by_kind}
use Rattle.wrapper_meaning.proofs.laws.shape_law.Goals as goal

pub returns : goal.returns
returns c = shape_is_by_kind
