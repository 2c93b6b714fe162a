use Rattle.std.proofs.Common.{◌≡◌, ◌++◌, drop}
use Rattle.std.specs.List.{join_by}
use Rattle.rust_tree.specs.declared.print.word.sign.Sign.TheVariants.{PathMark}
use Rattle.rust_tree.specs.Word.{sign}
use Rattle.rust_tree.proofs.Joins.{rest_from}
use Rattle.rust_tree.proofs.print.path.push_names.Given as goal

abbrev pub invariant-loop-i : goal.invariant-loop-i
invariant-loop-i l = l.out ++ rest_from (λ name. name) (sign PathMark) l.i (drop l.i l.names) ≡ l.initial.out ++ join_by (λ name. name) (sign PathMark) l.names
