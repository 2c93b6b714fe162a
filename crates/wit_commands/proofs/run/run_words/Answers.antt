use Rattle.wit_commands.proofs.Causes.{as_told}
use Rattle.wit_commands.proofs.run.run_words.Goals as goal

pub returns-in-Err : goal.returns-in-Err
returns-in-Err g c = record {
  answer = (c.report.ensures.0, c.report.ensures.2, as_told _ _ _ c.in-Err.refusal c.report.ensures.0 c.in-Err.ensures.err c.report.ensures.1, c.report.ensures.3);
}
