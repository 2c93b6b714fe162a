use Rattle.std.proofs.Common.{◌≡◌, drop}
use Rattle.wrapper_run.specs.Run.{runtime_item_named}
use Rattle.wrapper_run.proofs.call.runtime_item_named.Given as goal

abbrev pub invariant-loop-item : goal.invariant-loop-item
invariant-loop-item l = runtime_item_named (drop l.item-index l.items) l.name ≡ runtime_item_named l.items l.name
