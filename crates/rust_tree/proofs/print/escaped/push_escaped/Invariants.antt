use Rattle.std.proofs.Common.{◌≡◌, ◌++◌}
use Rattle.std.specs.List.{flat_map}
use Rattle.std.specs.Str.Iter.{chars_rest}
use Rattle.rust_tree.specs.EnumText.{escaped}
use Rattle.rust_tree.proofs.print.escaped.push_escaped.Given as goal

abbrev pub invariant-loop-c : goal.invariant-loop-c
invariant-loop-c l = l.out ++ flat_map escaped (chars_rest l.c-iterator) ≡ l.initial.out ++ flat_map escaped l.text
