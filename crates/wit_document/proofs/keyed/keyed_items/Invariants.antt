use Rattle.std.proofs.Common.{◌≡◌, map}
use Rattle.wit_document.specs.Keyed.{keyed_item}
use Rattle.wit_document.proofs.keyed.keyed_items.Given as goal

abbrev pub invariant-loop-item : goal.invariant-loop-item
invariant-loop-item l = l.entries ≡ map (keyed_item l.types) l.yielded
