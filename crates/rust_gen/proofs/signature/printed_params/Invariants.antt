use Rattle.std.proofs.Common.{◌≡◌, map, take}
use Rattle.rust_gen.specs.Wrapper.{printed_param}
use Rattle.rust_gen.proofs.signature.printed_params.Given as goal

abbrev pub invariant-loop-p : goal.invariant-loop-p
invariant-loop-p l = l.printed ≡ map (printed_param l.resolve.types) (take l.p-index l.params)
