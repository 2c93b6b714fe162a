use Rattle.std.proofs.Common.{[], ◌∷◌, ap, sym, ◌∙◌}
use Rattle.std.specs.Option.{option_copied}
use Rattle.std.proofs.lemmas.Result.{on_ok_weaker}
use Rattle.func_gen.proofs.GivenTexts.{lent_instead, local_there}
use Rattle.func_gen.proofs.function_bindgen.FunctionBindgen.give_text.Goals as goal

pub hand_text-requires-clause-local : goal.hand_text-requires-clause-local
hand_text-requires-clause-local c =
    c.only_expr-e.ensures.only ∙ ap (λ x. x ∷ []) (local_there c.only_expr-e.result.now c.in-Some.name.now (sym c.local_of.ensures ∙ ap option_copied c.in-Some.is))

pub returns-in-None : goal.returns-in-None
returns-in-None c =
    on_ok_weaker c.lend_text.result
    (lent_instead c.args.resolve.now.types c.args.operands.now _ c.only_expr-e.result.now _ _ c.only_expr-e.ensures.only (sym c.local_of.ensures ∙ ap option_copied c.in-None.is))
    c.lend_text.ensures
