use Rattle.std.proofs.Common.{◌≡◌, ℕ, Bool, true, ◌&&◌, List, map, refl, sym, ap, ◌∙◌}
use Rattle.rust_tree.specs.declared.expr.Expr.{Expr}
use Rattle.std.specs.List.{list_all}
use Rattle.rust_tree.specs.WellNamed.{are_path_names, are_words, is_named_expr}
use Rattle.rust_tree.proofs.NamedLemmas.{is_named-array, is_named-call, is_named-tuple, is_named-words}
use Rattle.rust_tree.proofs.well_named.code.+named_expr.Goals as goal

pub is_named_expr-returns-then-are_path_names : goal.is_named_expr-returns-then-are_path_names
is_named_expr-returns-then-are_path_names t c =
    let call = is_named-call c.in-Call.path c.in-Call.arguments in
    let passed : (true && list_all is_named_expr c.in-Call.arguments) ≡ list_all is_named_expr c.in-Call.arguments = refl in cc

pub is_named_expr-returns-in-Tuple : goal.is_named_expr-returns-in-Tuple
is_named_expr-returns-in-Tuple t c = let tuple = is_named-tuple c.in-Tuple.parts in cc

pub is_named_expr-returns-in-Array : goal.is_named_expr-returns-in-Array
is_named_expr-returns-in-Array t c = let array = is_named-array c.in-Array.parts in cc

pub is_named_expr-returns-then-are_path_names-3 : goal.is_named_expr-returns-then-are_path_names-3
is_named_expr-returns-then-are_path_names-3 t c =
    let path = c.in-FlagsOfWords.path in
    let named : List (ℕ × Expr) → Bool = λ ws. are_words (map (λ w. (w.0, is_named_expr w.1)) ws) in
    let is_path : are_path_names path.names ≡ true = sym (c.are_path_names-in-FlagsOfWords.ensures ∙ ap are_path_names c.as_slice-in-FlagsOfWords.ensures) ∙ c.if-are_path_names-3.true in
    let whole = ap is_named_expr c.in-FlagsOfWords.is ∙ is_named-words path c.in-FlagsOfWords.field-1 c.in-FlagsOfWords.words ∙ ap (λ b. b && named c.in-FlagsOfWords.words) is_path in
    c.are_named_words.ensures ∙ ap named c.as_slice-then-are_path_names-3.ensures ∙ sym whole
