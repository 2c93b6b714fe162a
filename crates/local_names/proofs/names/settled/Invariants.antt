use Rattle.std.proofs.Common.{◌≡◌, ◌++◌, length}
use Rattle.local_names.specs.Texts.{texts_in, texts_of}
use Rattle.local_names.proofs.names.settled.Given as goal

abbrev pub invariant-loop-more : goal.invariant-loop-more
invariant-loop-more l = texts_of l.front ++ texts_in l.more ≡ texts_of l.initial.front ++ texts_in l.initial.more

abbrev pub decreases-loop-more : goal.decreases-loop-more
decreases-loop-more l = length l.front
