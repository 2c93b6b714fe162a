use Rattle.std.proofs.Common.{◌≡◌, ◌++◌, drop}
use Rattle.std.specs.List.{join_by}
use Rattle.rust_tree.specs.declared.print.word.sign.Sign.TheVariants.{Comma}
use Rattle.rust_tree.specs.CodeText.{path_text}
use Rattle.rust_tree.specs.Word.{sign}
use Rattle.rust_tree.proofs.Joins.{rest_from}
use Rattle.rust_tree.proofs.print.derives.push_paths.Given as goal

abbrev pub invariant-loop-i : goal.invariant-loop-i
invariant-loop-i l = l.out ++ rest_from path_text (sign Comma) l.i (drop l.i l.paths) ≡ l.initial.out ++ join_by path_text (sign Comma) l.paths
