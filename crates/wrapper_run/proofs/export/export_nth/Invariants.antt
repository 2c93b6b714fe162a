use Rattle.std.proofs.Common.{◌≡◌, drop}
use Rattle.wrapper_run.specs.ExportRun.{export_nth}
use Rattle.wrapper_run.proofs.export.export_nth.Given as goal

abbrev pub invariant-loop-item : goal.invariant-loop-item
invariant-loop-item l = export_nth l.left (drop l.item-index l.items) ≡ export_nth l.nth l.items
