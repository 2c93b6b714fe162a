use Rattle.wrapper_closing.proofs.BodyAreas.{export_body_area_is_for, needed_area_is_shared}
use Rattle.wrapper_closing.proofs.ExportBodyCloses.{export_body_is_faithful}
use Rattle.wrapper_closing.proofs.laws.export_body_law.Goals as goal

pub returns-clause-faithful : goal.returns-clause-faithful
returns-clause-faithful c = export_body_is_faithful

pub returns-clause-area : goal.returns-clause-area
returns-clause-area c = export_body_area_is_for

pub returns-clause-shared : goal.returns-clause-shared
returns-clause-shared c = needed_area_is_shared
