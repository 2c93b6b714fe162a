use Rattle.std.proofs.Common.{◌≡◌, map, take}
use Rattle.gen_accept.specs.Emitted.{functions_in}
use Rattle.gen_accept.proofs.emitted.functions_in.Given as goal

abbrev pub invariant-loop-entry : goal.invariant-loop-entry
invariant-loop-entry l = map (λ f. f.now) l.functions.items ≡ functions_in (take l.entry-index l.entries)
