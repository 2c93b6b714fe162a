use Rattle.std.proofs.Common.{◌<◌, ◌∙◌, List, length, ap, sym, subst, slice_get}
use Rattle.std.proofs.lemmas.Option.{slice_get-get_or}
use Rattle.type_facts.specs.declared.types.Entry.{Entry}
use Rattle.type_facts.proofs.types.Types.get.Goals as goal

pub returns : goal.returns
returns c r world analysis =
    let within : c.args.id.0 < length c.as_slice.result.now = subst (λ (es : List Entry). c.args.id.0 < length es) (sym c.as_slice.ensures) c.requires in
    analysis.info_at c.args.id _ (ap (λ (es : List Entry). slice_get es c.args.id.0) (sym c.as_slice.ensures) ∙ slice_get-get_or c.as_slice.result.now c.args.id.0 _ within)
