use Rattle.std.proofs.Common.{◌≡◌, ◌++◌, drop}
use Rattle.local_names.specs.Texts.{texts_of}
use Rattle.local_names.proofs.names.shared_sets.Given as goal

abbrev pub invariant-loop-set : goal.invariant-loop-set
invariant-loop-set l = texts_of l.all.items ++ texts_of (drop l.set-index l.sets) ≡ texts_of l.sets
