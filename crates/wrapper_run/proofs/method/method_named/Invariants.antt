use Rattle.std.proofs.Common.{◌≡◌, drop}
use Rattle.wrapper_run.specs.ExportRun.{method_named}
use Rattle.wrapper_run.proofs.method.method_named.Given as goal

abbrev pub invariant-loop-item : goal.invariant-loop-item
invariant-loop-item l = method_named (drop l.item-index l.items) l.bound l.name ≡ method_named l.items l.bound l.name
