use Rattle.std.proofs.Common.{◌≡◌, map, take}
use Rattle.rust_gen.specs.Exported.{trait_fn}
use Rattle.rust_gen.proofs.exported.guest_trait.Given as goal

abbrev pub invariant-loop-function : goal.invariant-loop-function
invariant-loop-function l = l.printed ≡ map (trait_fn l.resolve.types) (map (λ f. f.now) (take l.function-index l.functions))
