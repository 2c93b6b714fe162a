use Rattle.std.proofs.Common.{◌≡◌, drop, map}
use Rattle.rust_tree.specs.Ident.{is_ident}
use Rattle.rust_tree.specs.WellNamed.{are_fields}
use Rattle.rust_tree.proofs.well_named.code.are_bound_fields.Given as goal

abbrev pub invariant-loop-field : goal.invariant-loop-field
invariant-loop-field l = are_fields (map (λ f. (f.0, is_ident f.1)) (drop l.field-index l.fields)) ≡ are_fields (map (λ f. (f.0, is_ident f.1)) l.fields)
