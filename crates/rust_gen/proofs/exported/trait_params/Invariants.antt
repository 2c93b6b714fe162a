use Rattle.std.proofs.Common.{◌≡◌, map, take}
use Rattle.rust_gen.specs.Exported.{trait_param}
use Rattle.rust_gen.proofs.exported.trait_params.Given as goal

abbrev pub invariant-loop-p : goal.invariant-loop-p
invariant-loop-p l = l.printed ≡ map (trait_param l.types) (take l.p-index l.params)
