use Rattle.std.proofs.Common.{◌≡◌, ◌++◌, drop}
use Rattle.rust_tree.specs.CodeText.{commas_text}
use Rattle.rust_tree.proofs.print.pattern.push_names.Given as goal

abbrev pub invariant-loop-name : goal.invariant-loop-name
invariant-loop-name l = l.out ++ commas_text (drop l.name-index l.names) ≡ l.initial.out ++ commas_text l.names
