use Rattle.wrapper_closing.proofs.FaithfulExport.{closed_export_is_faithful}
use Rattle.wrapper_closing.proofs.laws.export_law.Goals as goal

pub returns : goal.returns
returns c = closed_export_is_faithful
