use Rattle.type_sites.proofs.WorldTypes.{lent-params-are-printed, params-are-printed, results-are-printed, types-are-printed}
use Rattle.type_sites.proofs.laws.printed_law.Goals as goal

pub returns-clause-types : goal.returns-clause-types
returns-clause-types c = types-are-printed

pub returns-clause-params : goal.returns-clause-params
returns-clause-params c = params-are-printed

pub returns-clause-results : goal.returns-clause-results
returns-clause-results c = results-are-printed

pub returns-clause-lent : goal.returns-clause-lent
returns-clause-lent c = lent-params-are-printed
