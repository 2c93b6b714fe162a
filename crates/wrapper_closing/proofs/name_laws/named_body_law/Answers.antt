use Rattle.wrapper_closing.proofs.NamedBodies.{export_body_named, import_body_named, post_return_body_named}
use Rattle.wrapper_closing.proofs.name_laws.named_body_law.Goals as goal

pub returns-clause-imports : goal.returns-clause-imports
returns-clause-imports c = import_body_named

pub returns-clause-exports : goal.returns-clause-exports
returns-clause-exports c = export_body_named

pub returns-clause-post_returns : goal.returns-clause-post_returns
returns-clause-post_returns c = post_return_body_named
