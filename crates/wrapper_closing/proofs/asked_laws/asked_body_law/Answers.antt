use Rattle.wrapper_closing.proofs.AskedBodies.{export_body_asks, import_body_asks, post_return_body_asks}
use Rattle.wrapper_closing.proofs.asked_laws.asked_body_law.Goals as goal

pub returns-clause-imports : goal.returns-clause-imports
returns-clause-imports c = import_body_asks

pub returns-clause-exports : goal.returns-clause-exports
returns-clause-exports c = export_body_asks

pub returns-clause-post_returns : goal.returns-clause-post_returns
returns-clause-post_returns c = post_return_body_asks
