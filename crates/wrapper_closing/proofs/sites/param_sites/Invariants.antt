use Rattle.std.proofs.Common.{◌≡◌, ◌++◌, drop}
use Rattle.wrapper_closing.specs.Params.{local_sites}
use Rattle.wrapper_closing.proofs.sites.param_sites.Given as goal

abbrev pub invariant-loop-name : goal.invariant-loop-name
invariant-loop-name l = l.sites ++ local_sites (drop l.name-index l.names) ≡ local_sites l.names
