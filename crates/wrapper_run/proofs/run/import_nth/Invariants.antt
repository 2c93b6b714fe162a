use Rattle.std.proofs.Common.{◌≡◌, drop}
use Rattle.wrapper_run.specs.Run.{import_nth}
use Rattle.wrapper_run.proofs.run.import_nth.Given as goal

abbrev pub invariant-loop-item : goal.invariant-loop-item
invariant-loop-item l = import_nth l.left (drop l.item-index l.items) ≡ import_nth l.nth l.items
