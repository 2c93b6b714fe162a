use Rattle.std.proofs.Common.{◌≡◌, ◌++◌, drop, map}
use Rattle.std.specs.List.{join_by}
use Rattle.rust_tree.specs.declared.print.word.sign.Sign.TheVariants.{Comma}
use Rattle.rust_tree.specs.CodeText.{type_text}
use Rattle.rust_tree.specs.Word.{sign}
use Rattle.rust_tree.proofs.Joins.{rest_from}
use Rattle.rust_tree.proofs.print.type_name.+type_name.Given as goal

abbrev pub invariant-push_tuple-loop-i : goal.invariant-push_tuple-loop-i
invariant-push_tuple-loop-i l =
    l.out ++ rest_from (λ part. part) (sign Comma) l.i (map type_text (drop l.i l.parts)) ≡ l.initial.out ++ join_by (λ part. part) (sign Comma) (map type_text l.parts)
