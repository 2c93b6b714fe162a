-- The tree of a shape's layout, in which tuples are records and handles are numbers.
use Rattle.wit_layout.specs.Tree.{Scalar, Tree, Trees}
use Rattle.wrapper_meaning.specs.Shape.{Shape, Shapes}
use Rattle.wrapper_meaning.specs.Shape.Shape.{scalar, text, list, pairs, fixed, fields, tuple, cases, flags, handle, resource, other}
use Rattle.wrapper_meaning.specs.Shape.Shapes.{none, more}

abbrev mutual
  pub layout : Shape → Tree
  layout (scalar s) = Tree.scalar s
  layout text = Tree.text
  layout (list t) = Tree.list (layout t)
  layout (pairs k v) = Tree.pairs (layout k) (layout v)
  layout (fixed t n) = Tree.fixed (layout t) n
  layout (fields ts) = Tree.fields (layouts ts)
  layout (tuple ts) = Tree.fields (layouts ts)
  layout (cases ts) = Tree.cases (layouts ts)
  layout (flags n) = Tree.flags n
  layout (handle owns number) = Tree.scalar Scalar.handle
  layout (resource number) = Tree.scalar Scalar.handle
  layout other = Tree.scalar Scalar.handle

  pub layouts : Shapes → Trees
  layouts none = Trees.none
  layouts (more t ts) = Trees.more (layout t) (layouts ts)
