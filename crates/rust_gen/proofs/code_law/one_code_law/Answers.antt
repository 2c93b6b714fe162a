use Rattle.rust_gen.proofs.OneCode.{export_code, import_code, return_code}
use Rattle.rust_gen.proofs.code_law.one_code_law.Goals as goal

pub returns-clause-imports : goal.returns-clause-imports
returns-clause-imports c = import_code

pub returns-clause-exports : goal.returns-clause-exports
returns-clause-exports c = export_code

pub returns-clause-post_returns : goal.returns-clause-post_returns
returns-clause-post_returns c = return_code
