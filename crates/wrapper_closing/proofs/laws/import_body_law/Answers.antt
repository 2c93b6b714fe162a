use Rattle.wrapper_closing.proofs.ImportBodyCloses.{import_body_is_faithful}
use Rattle.wrapper_closing.proofs.laws.import_body_law.Goals as goal

pub returns : goal.returns
returns c = import_body_is_faithful
