use Rattle.std.proofs.Common.{ap, refl, sym, ◌∙◌}
use Rattle.rust_tree.specs.declared.expr.Expr.TheVariants as expr
use Rattle.wrapper_values.specs.Setting.{setting}
use Rattle.wrapper_run.proofs.StepLemmas.{eval-form}
use Rattle.wrapper_run.proofs.eval.+eval.Goals as goal

pub eval-returns-in-Call : goal.eval-returns-in-Call
eval-returns-in-Call t c =
    let is = c.in-Call.is ∙ ap (expr.Call _) (sym c.as_slice.ensures) in
    eval-form (setting c.args.world.now) _ _ _ _ (is ∙ sym (expr.rolls-Call _ _)) refl c.eval_call.ensures

pub eval-returns-in-I32FromBool : goal.eval-returns-in-I32FromBool
eval-returns-in-I32FromBool t c =
    let is = c.in-I32FromBool.is ∙ ap expr.I32FromBool (sym c.get-in-I32FromBool.ensures) in
    eval-form (setting c.args.world.now) _ _ _ _ (is ∙ sym (expr.rolls-I32FromBool _)) refl c.eval_bool.ensures

pub eval-returns-in-EnumNumber : goal.eval-returns-in-EnumNumber
eval-returns-in-EnumNumber t c =
    let is = c.in-EnumNumber.is ∙ ap expr.EnumNumber (sym c.get-in-EnumNumber.ensures) in
    eval-form (setting c.args.world.now) _ _ _ _ (is ∙ sym (expr.rolls-EnumNumber _)) refl c.eval_case.ensures

pub eval-returns-in-Load : goal.eval-returns-in-Load
eval-returns-in-Load t c =
    let is = c.in-Load.is ∙ ap (λ x. expr.Load x c.in-Load.offset c.in-Load.ty) (sym c.get-in-Load.ensures) in
    eval-form (setting c.args.world.now) _ _ _ _ (is ∙ sym (expr.rolls-Load _ _ _)) refl c.eval_load.ensures

pub eval-returns-in-LoadSmall : goal.eval-returns-in-LoadSmall
eval-returns-in-LoadSmall t c =
    let is = c.in-LoadSmall.is ∙ ap (λ x. expr.LoadSmall x c.in-LoadSmall.offset c.in-LoadSmall.ty) (sym c.get-in-LoadSmall.ensures) in
    eval-form (setting c.args.world.now) _ _ _ _ (is ∙ sym (expr.rolls-LoadSmall _ _ _)) refl c.eval_load_small.ensures

pub eval-returns-in-FromRawParts : goal.eval-returns-in-FromRawParts
eval-returns-in-FromRawParts t c =
    let is = c.in-FromRawParts.is ∙ ap (λ x. expr.FromRawParts x c.in-FromRawParts.length) (sym c.get-in-FromRawParts.ensures) in
    eval-form (setting c.args.world.now) _ _ _ _ (is ∙ sym (expr.rolls-FromRawParts _ _)) refl c.eval_bytes.ensures

pub eval-returns-in-Method : goal.eval-returns-in-Method
eval-returns-in-Method t c =
    let is = c.in-Method.is ∙ ap (λ x. expr.Method x c.in-Method.method) (sym c.get-in-Method.ensures) in
    eval-form (setting c.args.world.now) _ _ _ _ (is ∙ sym (expr.rolls-Method _ _)) refl c.eval_method.ensures

pub eval-returns-in-Record : goal.eval-returns-in-Record
eval-returns-in-Record t c =
    let is = c.in-Record.is ∙ ap (expr.Record _) (sym c.as_slice-in-Record.ensures) in
    eval-form (setting c.args.world.now) _ _ _ _ (is ∙ sym (expr.rolls-Record _ _)) refl c.eval_record.ensures

pub eval-returns-in-FlagsOfWords : goal.eval-returns-in-FlagsOfWords
eval-returns-in-FlagsOfWords t c =
    let is = c.in-FlagsOfWords.is ∙ ap (expr.FlagsOfWords _ _) (sym c.as_slice-in-FlagsOfWords.ensures) in
    eval-form (setting c.args.world.now) _ _ _ _ (is ∙ sym (expr.rolls-FlagsOfWords _ _ _)) refl c.eval_flags.ensures
