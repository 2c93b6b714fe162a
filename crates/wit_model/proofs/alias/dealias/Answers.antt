use Rattle.std.proofs.Common.{◌≡◌, None, subst, sym}
use Rattle.wit_model.specs.declared.name.TypeId.{TypeId}
use Rattle.wit_model.specs.Dealias.{next_alias, dealias}
use Rattle.wit_model.proofs.ChainEnds.{dealias-ends}
use Rattle.wit_model.proofs.alias.dealias.Goals as goal

pub returns-clause-last : goal.returns-clause-last
returns-clause-last c =
    let types = c.args.resolve.now.types in
    let ends = dealias-ends types c.requires c.args.id in
    let same : c.behind_aliases.result ≡ dealias types c.args.id = cc in
    subst (λ (id : TypeId). next_alias types id ≡ None) (sym same) ends
