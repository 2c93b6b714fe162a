use Rattle.std.proofs.Common.{◌≡◌, drop}
use Rattle.wrapper_run.specs.Blocks.{release_all}
use Rattle.wrapper_values.specs.Setting.{setting}
use Rattle.wrapper_run.proofs.freeing.release_all.Given as goal

abbrev pub invariant-loop-address : goal.invariant-loop-address
invariant-loop-address l = release_all (setting l.world) (drop l.address-index l.addresses) l.state ≡ release_all (setting l.world) l.addresses l.initial.state
