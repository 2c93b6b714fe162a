use Rattle.std.proofs.Common.{◌≡◌, map, take}
use Rattle.rust_gen.specs.Body.{import_site}
use Rattle.rust_gen.proofs.sites.import_sites.Given as goal

abbrev pub invariant-loop-p : goal.invariant-loop-p
invariant-loop-p l = l.sites ≡ map import_site (take l.p-index l.params)
