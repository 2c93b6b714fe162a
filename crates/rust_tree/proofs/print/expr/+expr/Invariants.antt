use Rattle.std.proofs.Common.{◌≡◌, ◌++◌, drop, map}
use Rattle.std.specs.List.{flat_map, join_by}
use Rattle.rust_tree.specs.declared.print.word.sign.Sign.TheVariants.{Comma}
use Rattle.rust_tree.specs.CodeText.{expr_fields, expr_spelled, expr_words, field_text, listed_text, or_word_text}
use Rattle.rust_tree.specs.Word.{sign}
use Rattle.rust_tree.proofs.Joins.{rest_from}
use Rattle.rust_tree.proofs.print.expr.+expr.Given as goal

abbrev pub invariant-push_listed-loop-i : goal.invariant-push_listed-loop-i
invariant-push_listed-loop-i l =
    l.out ++ rest_from (λ e. e.text) (sign Comma) l.i (map expr_spelled (drop l.i l.es)) ≡ l.initial.out ++ listed_text (map expr_spelled l.es)

abbrev pub invariant-push_record-loop-i : goal.invariant-push_record-loop-i
invariant-push_record-loop-i l =
    l.out ++ rest_from field_text (sign Comma) l.i (expr_fields (drop l.i l.fields)) ≡ l.initial.out ++ join_by field_text (sign Comma) (expr_fields l.fields)

abbrev pub invariant-push_flags-loop-word : goal.invariant-push_flags-loop-word
invariant-push_flags-loop-word l =
    l.out ++ flat_map (or_word_text l.path l.repr) (expr_words (drop l.word-index l.words)) ≡ l.initial.out ++ flat_map (or_word_text l.path l.repr) (expr_words l.words)
