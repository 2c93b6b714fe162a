use Rattle.std.proofs.Common.{◌≡◌, drop}
use Rattle.wrapper_values.specs.Fields.{type_named}
use Rattle.wrapper_values.proofs.fields.type_named.Given as goal

abbrev pub invariant-loop-item : goal.invariant-loop-item
invariant-loop-item l = type_named (drop l.item-index l.items) l.name ≡ type_named l.items l.name
