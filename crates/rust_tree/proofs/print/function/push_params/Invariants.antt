use Rattle.std.proofs.Common.{◌≡◌, ◌++◌, drop}
use Rattle.std.specs.List.{join_by}
use Rattle.rust_tree.specs.declared.print.word.sign.Sign.TheVariants.{Comma}
use Rattle.rust_tree.specs.Text.{param_text}
use Rattle.rust_tree.specs.Word.{sign}
use Rattle.rust_tree.proofs.Joins.{rest_from}
use Rattle.rust_tree.proofs.print.function.push_params.Given as goal

abbrev pub invariant-loop-i : goal.invariant-loop-i
invariant-loop-i l =
    l.out ++ rest_from param_text (sign Comma) l.i (drop l.i l.params) ≡ l.initial.out ++ join_by param_text (sign Comma) l.params
