use Rattle.std.proofs.Common.{◌≡◌, ◌++◌, map, take}
use Rattle.gen_accept.specs.DeclaredNames.{declared}
use Rattle.gen_accept.proofs.names.declare_all.Given as goal

abbrev pub invariant-loop-word : goal.invariant-loop-word
invariant-loop-word l = l.names ≡ l.initial.names ++ map (declared l.sort) (map (λ w. w.now) (take l.word-index l.words))
