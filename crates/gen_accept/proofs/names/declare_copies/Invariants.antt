use Rattle.std.proofs.Common.{◌≡◌, ◌++◌, map, take}
use Rattle.gen_accept.specs.DeclaredNames.{declared}
use Rattle.gen_accept.proofs.names.declare_copies.Given as goal

abbrev pub invariant-loop-text : goal.invariant-loop-text
invariant-loop-text l = l.names ≡ l.initial.names ++ map (declared l.sort) (take l.text-index l.texts)
