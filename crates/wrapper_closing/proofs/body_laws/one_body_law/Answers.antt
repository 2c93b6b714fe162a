use Rattle.wrapper_closing.proofs.OneBody.{export_has_one, import_has_one, post_return_has_one}
use Rattle.wrapper_closing.proofs.body_laws.one_body_law.Goals as goal

pub returns-clause-imports : goal.returns-clause-imports
returns-clause-imports c = import_has_one

pub returns-clause-exports : goal.returns-clause-exports
returns-clause-exports c = export_has_one

pub returns-clause-post_returns : goal.returns-clause-post_returns
returns-clause-post_returns c = post_return_has_one
