use Rattle.std.proofs.Common.{◌≡◌, ◌++◌, OnOk, ap, subst, sym, ◌∙◌}
use Rattle.std.specs.List.{flat_map}
use Rattle.rust_tree.specs.Asked.{asked_by_type}
use Rattle.rust_tree.proofs.AskedLemmas.{asked-tuple_type}
use Rattle.rust_tree.proofs.asked.+asked_type.Goals as goal

pub ask_by_type-returns-in-Tuple : goal.ask_by_type-returns-in-Tuple
ask_by_type-returns-in-Tuple t c =
    let same = ap asked_by_type c.in-Tuple.is ∙ asked-tuple_type c.in-Tuple.parts ∙ ap (flat_map asked_by_type) (sym c.as_slice.ensures) in
    subst (λ items. OnOk c.ask_by_types.result (c.ask_by_types.new.asked ≡ c.args.asked.now ++ items)) (sym same) c.ask_by_types.ensures
