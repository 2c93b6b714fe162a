use Rattle.std.proofs.Common.{◌≡◌, map, take}
use Rattle.type_sites.proofs.sites.case_names.Given as goal

abbrev pub invariant-loop-case : goal.invariant-loop-case
invariant-loop-case l = l.names ≡ map (λ c. c.name.camel) (take l.case-index l.cases)
