use Rattle.std.proofs.Common.{◌≡◌, ◌++◌, drop}
use Rattle.rust_tree.specs.EnumText.{arms_text}
use Rattle.rust_tree.proofs.print.enum_item.push_arms.Given as goal

abbrev pub invariant-loop-i : goal.invariant-loop-i
invariant-loop-i l = l.out ++ arms_text l.name l.i (drop l.i l.cases) ≡ l.initial.out ++ arms_text l.name 0 l.cases
