use Rattle.std.proofs.Common.{◌≡◌, take}
use Rattle.gen_accept.specs.Emitted.{places_from}
use Rattle.gen_accept.proofs.emitted.places_in.Given as goal

abbrev pub invariant-loop-nth : goal.invariant-loop-nth
invariant-loop-nth l = l.places ≡ places_from 0 (take l.nth l.entries)
