use Rattle.std.proofs.Common.{◌≡◌, ℕ, Bool, drop, map}
use Rattle.std.specs.List.{list_all}
use Rattle.rust_tree.specs.WellNamed.{are_fields, is_named_expr}
use Rattle.rust_tree.proofs.well_named.code.+named_expr.Given as goal

abbrev pub invariant-are_named_exprs-loop-e : goal.invariant-are_named_exprs-loop-e
invariant-are_named_exprs-loop-e l = list_all is_named_expr (drop l.e-index l.list) ≡ list_all is_named_expr l.list

abbrev pub invariant-are_named_fields-loop-field : goal.invariant-are_named_fields-loop-field
invariant-are_named_fields-loop-field l =
    are_fields (map (λ f. (f.0, is_named_expr f.1)) (drop l.field-index l.fields)) ≡ are_fields (map (λ f. (f.0, is_named_expr f.1)) l.fields)

abbrev pub invariant-are_named_words-loop-word : goal.invariant-are_named_words-loop-word
invariant-are_named_words-loop-word l =
    list_all (λ (w : ℕ × Bool). w.1) (map (λ w. (w.0, is_named_expr w.1)) (drop l.word-index l.words)) ≡ list_all (λ (w : ℕ × Bool). w.1) (map (λ w. (w.0, is_named_expr w.1)) l.words)
