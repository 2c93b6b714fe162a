-- Which shapes are passed without memory of their own for lists, and without handles: scalars, texts and flags, and records, tuples and
-- cases of such.
use Rattle.std.specs.Prelude.{Bool, true, false, ◌&&◌, Option, None, Some}
use Rattle.wrapper_meaning.specs.Shape.{Shape, Shapes}
use Rattle.wrapper_meaning.specs.Shape.Shape.{cases, fields, flags, scalar, text, tuple}
use Rattle.wrapper_meaning.specs.Shape.Shapes.{more, none}

abbrev mutual
  pub is_direct : Shape → Bool
  is_direct (scalar s) = true
  is_direct text = true
  is_direct (fields ts) = are_direct ts
  is_direct (tuple ts) = are_direct ts
  is_direct (cases ts) = are_direct ts
  is_direct (flags n) = true
  is_direct _ = false

  pub are_direct : Shapes → Bool
  are_direct none = true
  are_direct (more t ts) = is_direct t && are_direct ts

abbrev pub is_direct_result : Option Shape → Bool
is_direct_result None = true
is_direct_result (Some t) = is_direct t
