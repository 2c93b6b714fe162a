use Rattle.std.proofs.Common.{◌≡◌, true, ◌&&◌, refl}
use Rattle.std.specs.List.{list_all}
use Rattle.rust_tree.specs.WellNamed.{is_named_type}
use Rattle.rust_tree.proofs.NamedTypeLemmas.{is_named-tuple}
use Rattle.rust_tree.proofs.well_named.type_expr.+named_type.Goals as goal

pub is_named_type-returns-then-is_nonempty : goal.is_named_type-returns-then-is_nonempty
is_named_type-returns-then-is_nonempty t c =
    let tuple = is_named-tuple c.in-Tuple.parts in
    let passed : (true && list_all is_named_type c.in-Tuple.parts) ≡ list_all is_named_type c.in-Tuple.parts = refl in cc
