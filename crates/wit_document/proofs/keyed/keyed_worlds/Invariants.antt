use Rattle.std.proofs.Common.{◌≡◌, map}
use Rattle.wit_document.specs.Keyed.{keyed}
use Rattle.wit_document.proofs.keyed.keyed_worlds.Given as goal

abbrev pub invariant-loop-world : goal.invariant-loop-world
invariant-loop-world l = l.all ≡ map (keyed l.types) l.yielded
