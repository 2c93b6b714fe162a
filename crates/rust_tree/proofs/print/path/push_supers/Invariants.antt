use Rattle.std.proofs.Common.{◌≡◌, ◌++◌, ◌-◌}
use Rattle.rust_tree.specs.CodeText.{supers_text}
use Rattle.rust_tree.proofs.print.path.push_supers.Given as goal

abbrev pub invariant-loop-i : goal.invariant-loop-i
invariant-loop-i l = l.out ++ supers_text (l.supers - l._i) ≡ l.initial.out ++ supers_text l.supers
