use Rattle.std.proofs.Common.{◌≡◌, ◌++◌, drop}
use Rattle.std.specs.List.{join_by}
use Rattle.rust_tree.specs.declared.print.word.sign.Sign.TheVariants.{Comma}
use Rattle.rust_tree.specs.CodeText.{field_text}
use Rattle.rust_tree.specs.Word.{sign}
use Rattle.rust_tree.proofs.Joins.{rest_from}
use Rattle.rust_tree.proofs.print.pattern.push_bound_fields.Given as goal

abbrev pub invariant-loop-i : goal.invariant-loop-i
invariant-loop-i l = l.out ++ rest_from field_text (sign Comma) l.i (drop l.i l.fields) ≡ l.initial.out ++ join_by field_text (sign Comma) l.fields
