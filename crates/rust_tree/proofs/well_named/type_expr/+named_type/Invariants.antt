use Rattle.std.proofs.Common.{◌≡◌, drop}
use Rattle.std.specs.List.{list_all}
use Rattle.rust_tree.specs.WellNamed.{is_named_type}
use Rattle.rust_tree.proofs.well_named.type_expr.+named_type.Given as goal

abbrev pub invariant-are_named_types-loop-ty : goal.invariant-are_named_types-loop-ty
invariant-are_named_types-loop-ty l = list_all is_named_type (drop l.ty-index l.types) ≡ list_all is_named_type l.types
