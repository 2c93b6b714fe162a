use Rattle.std.proofs.Common.{◌≡◌, map, take}
use Rattle.type_defs.specs.Defined.{field_item}
use Rattle.type_defs.proofs.define.record.field_items.Given as goal

abbrev pub invariant-loop-field : goal.invariant-loop-field
invariant-loop-field l = l.items ≡ map (field_item l.types) (take l.field-index l.fields)
