use Rattle.std.proofs.Common.{◌≡◌, ◌++◌, drop}
use Rattle.std.specs.List.{flat_map}
use Rattle.rust_tree.specs.Asked.{asked_by_expr, asked_by_path}
use Rattle.rust_tree.proofs.asked.+asked_expr.Given as goal

abbrev pub invariant-ask_by_exprs-loop-e : goal.invariant-ask_by_exprs-loop-e
invariant-ask_by_exprs-loop-e l = l.asked ++ flat_map asked_by_expr (drop l.e-index l.es) ≡ l.initial.asked ++ flat_map asked_by_expr l.es

abbrev pub invariant-ask_by_fields-loop-field : goal.invariant-ask_by_fields-loop-field
invariant-ask_by_fields-loop-field l =
    l.asked ++ flat_map (λ f. asked_by_expr f.1) (drop l.field-index l.fields) ≡ l.initial.asked ++ flat_map (λ f. asked_by_expr f.1) l.fields

abbrev pub invariant-ask_by_words-loop-word : goal.invariant-ask_by_words-loop-word
invariant-ask_by_words-loop-word l =
    l.asked ++ flat_map (λ w. asked_by_path l.path ++ asked_by_expr w.1) (drop l.word-index l.words)
    ≡ l.initial.asked ++ flat_map (λ w. asked_by_path l.path ++ asked_by_expr w.1) l.words
