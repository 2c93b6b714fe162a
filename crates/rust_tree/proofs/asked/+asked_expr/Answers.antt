use Rattle.std.proofs.Common.{◌≡◌, [], ◌∷◌, ◌++◌, OnOk, ap, subst, sym, ◌∙◌}
use Rattle.std.specs.List.{flat_map}
use Rattle.rust_tree.specs.declared.runtime_item.RuntimeItem.TheVariants.{VecType}
use Rattle.rust_tree.specs.Asked.{asked_by_expr, asked_by_path}
use Rattle.rust_tree.proofs.AskedLemmas.{asked-array, asked-call, asked-raw, asked-record, asked-tuple, asked-words}
use Rattle.rust_tree.proofs.Joins.{behind}
use Rattle.rust_tree.proofs.asked.+asked_expr.Goals as goal

pub ask_by_expr-returns-in_ok-ask_by_path-in-Call : goal.ask_by_expr-returns-in_ok-ask_by_path-in-Call
ask_by_expr-returns-in_ok-ask_by_path-in-Call t c =
    let rest = flat_map asked_by_expr c.as_slice.result.now in
    let whole = ap asked_by_expr c.in-Call.is ∙ asked-call c.in-Call.path c.in-Call.arguments ∙ ap (λ es. asked_by_path c.in-Call.path ++ flat_map asked_by_expr es) (sym c.as_slice.ensures) in
    subst (λ items. OnOk c.ask_by_exprs.result (c.ask_by_exprs.new.asked ≡ items))
    (behind c.args.asked.now c.ask_by_path.new.asked (asked_by_path c.in-Call.path) rest (asked_by_expr c.args.e.now) c.in_ok-ask_by_path-in-Call.ensures whole) c.ask_by_exprs.ensures

pub ask_by_expr-returns-in_ok-push-in-FromRawParts : goal.ask_by_expr-returns-in_ok-push-in-FromRawParts
ask_by_expr-returns-in_ok-push-in-FromRawParts t c =
    let rest = asked_by_expr c.get.result.now in
    let whole = ap asked_by_expr c.in-FromRawParts.is ∙ asked-raw c.in-FromRawParts.pointer c.in-FromRawParts.field-1 ∙ ap (λ e. VecType ∷ asked_by_expr e) (sym c.get.ensures) in
    subst (λ items. OnOk c.ask_by_expr.result (c.ask_by_expr.new.asked ≡ items))
    (behind c.args.asked.now c.push.new.self (VecType ∷ []) rest (asked_by_expr c.args.e.now) c.in_ok-push-in-FromRawParts.ensures.ok whole) c.ask_by_expr.ensures

pub ask_by_expr-returns-in_ok-ask_by_path-in-Record : goal.ask_by_expr-returns-in_ok-ask_by_path-in-Record
ask_by_expr-returns-in_ok-ask_by_path-in-Record t c =
    let rest = flat_map (λ f. asked_by_expr f.1) c.as_slice-in-Record.result.now in
    let whole = ap asked_by_expr c.in-Record.is ∙ asked-record c.in-Record.path c.in-Record.fields ∙ ap (λ fs. asked_by_path c.in-Record.path ++ flat_map (λ f. asked_by_expr f.1) fs) (sym c.as_slice-in-Record.ensures) in
    subst (λ items. OnOk c.ask_by_fields.result (c.ask_by_fields.new.asked ≡ items))
    (behind c.args.asked.now c.ask_by_path-in-Record.new.asked (asked_by_path c.in-Record.path) rest (asked_by_expr c.args.e.now) c.in_ok-ask_by_path-in-Record.ensures whole) c.ask_by_fields.ensures

pub ask_by_expr-returns-in-Tuple : goal.ask_by_expr-returns-in-Tuple
ask_by_expr-returns-in-Tuple t c =
    let same = ap asked_by_expr c.in-Tuple.is ∙ asked-tuple c.in-Tuple.parts ∙ ap (flat_map asked_by_expr) (sym c.as_slice-in-Tuple.ensures) in
    subst (λ items. OnOk c.ask_by_exprs-in-Tuple.result (c.ask_by_exprs-in-Tuple.new.asked ≡ c.args.asked.now ++ items)) (sym same) c.ask_by_exprs-in-Tuple.ensures

pub ask_by_expr-returns-in-Array : goal.ask_by_expr-returns-in-Array
ask_by_expr-returns-in-Array t c =
    let same = ap asked_by_expr c.in-Array.is ∙ asked-array c.in-Array.parts ∙ ap (flat_map asked_by_expr) (sym c.as_slice-in-Array.ensures) in
    subst (λ items. OnOk c.ask_by_exprs-in-Array.result (c.ask_by_exprs-in-Array.new.asked ≡ c.args.asked.now ++ items)) (sym same) c.ask_by_exprs-in-Array.ensures

pub ask_by_expr-returns-in_ok-ask_by_path-in-FlagsOfWords : goal.ask_by_expr-returns-in_ok-ask_by_path-in-FlagsOfWords
ask_by_expr-returns-in_ok-ask_by_path-in-FlagsOfWords t c =
    let path = c.in-FlagsOfWords.path in
    let rest = flat_map (λ w. asked_by_path path ++ asked_by_expr w.1) c.as_slice-in-FlagsOfWords.result.now in
    let whole = ap asked_by_expr c.in-FlagsOfWords.is ∙ asked-words path c.in-FlagsOfWords.field-1 c.in-FlagsOfWords.words ∙ ap (λ ws. asked_by_path path ++ flat_map (λ w. asked_by_path path ++ asked_by_expr w.1) ws) (sym c.as_slice-in-FlagsOfWords.ensures) in
    subst (λ items. OnOk c.ask_by_words.result (c.ask_by_words.new.asked ≡ items))
    (behind c.args.asked.now c.ask_by_path-in-FlagsOfWords.new.asked (asked_by_path path) rest (asked_by_expr c.args.e.now) c.in_ok-ask_by_path-in-FlagsOfWords.ensures whole) c.ask_by_words.ensures
