-- proofs/define/param/has_list/Answers.antt
use Rattle.std.proofs.Common.{◌≡◌, ◌∙◌, true, sym, ap, subst}
use Rattle.wit_model.specs.TypeOrder.{type_below}
use Rattle.wit_model.proofs.BelowLemmas.{id_below}
use Rattle.type_facts.specs.Facts.{type_count}
use Rattle.type_defs.specs.ParamType.{has_list}
use Rattle.type_defs.proofs.ParamLemmas.{has_list-itself, has_list-told}
use Rattle.type_defs.proofs.define.param.has_list.Goals as goal

pub get-requires : goal.get-requires
get-requires c = id_below (type_count c.args.facts.now) c.in-Id.id (subst (λ ty. type_below (type_count c.args.facts.now) ty ≡ true) c.in-Id.is c.requires)

pub returns-in-Id : goal.returns-in-Id
returns-in-Id c =
    λ r has. has_list-told r has.analyzed.0 c.in-Id.id c.get.result has.shallow (c.get.ensures r has.analyzed.0 has.analyzed.1) ∙ ap (has_list r.types) (sym c.in-Id.is)

pub returns-in_default : goal.returns-in_default
returns-in_default c = λ r has. c.is_string.ensures ∙ sym (has_list-itself r.types c.args.ty c.in_default.not-Id)
