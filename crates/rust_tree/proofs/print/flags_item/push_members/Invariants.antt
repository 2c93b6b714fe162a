use Rattle.std.proofs.Common.{◌≡◌, ◌++◌, drop}
use Rattle.rust_tree.specs.FlagsText.{members_text}
use Rattle.rust_tree.proofs.print.flags_item.push_members.Given as goal

abbrev pub invariant-loop-i : goal.invariant-loop-i
invariant-loop-i l = l.out ++ members_text l.i (drop l.i l.members) ≡ l.initial.out ++ members_text 0 l.members
