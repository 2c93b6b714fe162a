use Rattle.std.proofs.Common.{◌≡◌, ◌++◌, drop}
use Rattle.std.specs.List.{flat_map}
use Rattle.rust_tree.specs.CodeText.{doc_text}
use Rattle.rust_tree.proofs.print.function.push_docs.Given as goal

abbrev pub invariant-loop-line : goal.invariant-loop-line
invariant-loop-line l = l.out ++ flat_map doc_text (drop l.line-index l.docs) ≡ l.initial.out ++ flat_map doc_text l.docs
