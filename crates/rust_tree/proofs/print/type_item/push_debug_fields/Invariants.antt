use Rattle.std.proofs.Common.{◌≡◌, ◌++◌, drop}
use Rattle.std.specs.List.{flat_map}
use Rattle.rust_tree.specs.DefinitionText.{debug_field_text}
use Rattle.rust_tree.proofs.print.type_item.push_debug_fields.Given as goal

abbrev pub invariant-loop-field : goal.invariant-loop-field
invariant-loop-field l = l.out ++ flat_map debug_field_text (drop l.field-index l.fields) ≡ l.initial.out ++ flat_map debug_field_text l.fields
