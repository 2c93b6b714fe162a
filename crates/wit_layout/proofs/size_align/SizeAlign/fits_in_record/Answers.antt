use Rattle.std.proofs.Common.{◌∙◌}
use Rattle.wit_layout.proofs.RecordSteps.{fits_filled}
use Rattle.wit_layout.proofs.size_align.SizeAlign.fits_in_record.Goals as goal

pub returns-clause-record : goal.returns-clause-record
returns-clause-record c = λ table filled.
    c.is_small_record.ensures ∙ fits_filled c.args.self.now c.args.types.now c.requires table filled
