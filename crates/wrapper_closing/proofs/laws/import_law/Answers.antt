use Rattle.wrapper_closing.proofs.FaithfulImport.{closed_import_is_faithful}
use Rattle.wrapper_closing.proofs.laws.import_law.Goals as goal

pub returns : goal.returns
returns c = closed_import_is_faithful
