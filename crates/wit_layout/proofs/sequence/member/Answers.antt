use Rattle.wit_layout.proofs.SequenceSteps.{one_member}
use Rattle.wit_layout.proofs.sequence.member.Goals as goal

pub returns-in-Alias : goal.returns-in-Alias
returns-in-Alias c = one_member c.args.kind.now c.in-Alias.ty c.args.nth c.in-Alias.is c.requires
