use Rattle.std.proofs.Common.{◌≡◌, map, take}
use Rattle.type_defs.specs.Paths.{local_path}
use Rattle.type_defs.proofs.define.derives.local_paths.Given as goal

abbrev pub invariant-loop-name : goal.invariant-loop-name
invariant-loop-name l = l.paths ≡ map local_path (map (λ n. n.now) (take l.name-index l.names))
