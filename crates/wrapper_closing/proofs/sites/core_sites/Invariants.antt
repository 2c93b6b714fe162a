use Rattle.std.proofs.Common.{◌≡◌, ◌++◌, drop}
use Rattle.wrapper_closing.specs.Params.{arg_names, local_sites}
use Rattle.wrapper_closing.proofs.sites.core_sites.Given as goal

abbrev pub invariant-loop-param : goal.invariant-loop-param
invariant-loop-param l = l.sites ++ local_sites (arg_names (drop l.param-index l.params)) ≡ local_sites (arg_names l.params)
