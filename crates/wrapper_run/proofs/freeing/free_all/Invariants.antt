use Rattle.std.proofs.Common.{◌≡◌, drop}
use Rattle.wrapper_run.specs.Blocks.{free_all}
use Rattle.wrapper_values.specs.Setting.{setting}
use Rattle.wrapper_run.proofs.freeing.free_all.Given as goal

abbrev pub invariant-loop-address : goal.invariant-loop-address
invariant-loop-address l = free_all (setting l.world) (drop l.address-index l.addresses) l.state ≡ free_all (setting l.world) l.addresses l.initial.state
