use Rattle.std.proofs.Common.{◌∙◌, List, Option, ap}
use Rattle.wit_model.specs.declared.name.TypeId.{TypeId}
use Rattle.wit_model.specs.Ends.{end_of}
use Rattle.wit_model.proofs.EndLemmas.{end_is}
use Rattle.wit_model.proofs.alias_ends.AliasEnds.end.Goals as goal

pub returns : goal.returns
returns c =
    c.end_of.ensures ∙ ap (λ (ends : List (Option TypeId)). end_of ends c.args.id) c.as_slice.ensures ∙ end_is c.args.types.now c.args.self.now c.requires c.args.id
