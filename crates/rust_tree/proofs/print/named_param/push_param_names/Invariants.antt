use Rattle.std.proofs.Common.{◌≡◌, ◌++◌, drop}
use Rattle.rust_tree.specs.declared.print.word.sign.Sign.TheVariants.{Comma}
use Rattle.rust_tree.specs.ExportText.{names_text}
use Rattle.rust_tree.specs.Word.{sign}
use Rattle.rust_tree.proofs.Joins.{rest_from}
use Rattle.rust_tree.proofs.print.named_param.push_param_names.Given as goal

abbrev pub invariant-loop-i : goal.invariant-loop-i
invariant-loop-i l =
    l.out ++ rest_from (λ p. p.name) (sign Comma) l.i (drop l.i l.params) ≡ l.initial.out ++ names_text l.params
