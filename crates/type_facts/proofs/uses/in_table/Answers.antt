use Rattle.std.proofs.Common.{◌∙◌, ◌∷◌, [], List, ap, sym}
use Rattle.wit_model.specs.declared.name.TypeId.{TypeId}
use Rattle.wit_model.specs.declared.types.TypeDef.{TypeDef}
use Rattle.wit_model.specs.declared.types.WitType.TheVariants.{Id}
use Rattle.wit_model.specs.Dealias.{dealias}
use Rattle.type_facts.specs.Roots.{in_table}
use Rattle.type_facts.proofs.uses.in_table.Goals as goal

pub returns-in-Id : goal.returns-in-Id
returns-in-Id c =
    let same = ap (λ (types : List TypeDef). dealias types c.in-Id.id) c.as_slice.ensures in
    ap (λ (i : TypeId). Id i ∷ []) (c.end.ensures ∙ same) ∙ ap (in_table c.args.resolve.now.types) (sym c.in-Id.is)
