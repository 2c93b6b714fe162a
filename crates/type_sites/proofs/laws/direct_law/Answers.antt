use Rattle.type_sites.proofs.WorldTypes.{params-are-direct, results-are-direct, types-are-direct}
use Rattle.type_sites.proofs.laws.direct_law.Goals as goal

pub returns-clause-types : goal.returns-clause-types
returns-clause-types c = types-are-direct

pub returns-clause-params : goal.returns-clause-params
returns-clause-params c = params-are-direct

pub returns-clause-results : goal.returns-clause-results
returns-clause-results c = results-are-direct
