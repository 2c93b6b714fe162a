use Rattle.std.proofs.Common.{ap, ◌∙◌}
use Rattle.wrapper_run.specs.Inward.{is_inward_tail}
use Rattle.func_gen.proofs.InwardArms.{tail_inward}
use Rattle.func_gen.proofs.emit.matches.lowered_body.Goals as goal

pub inward_block-requires-clause-tail : goal.inward_block-requires-clause-tail
inward_block-requires-clause-tail c = ap is_inward_tail c.tail_of.ensures ∙ tail_inward c.in_ok-es.es c.in_ok-es.ensures.each
