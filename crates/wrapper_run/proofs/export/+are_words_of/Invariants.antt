use Rattle.std.proofs.Common.{length}
use Rattle.wrapper_run.proofs.export.+are_words_of.Given as goal

abbrev pub decreases-are_words_of : goal.decreases-are_words_of
decreases-are_words_of l = length l.params.now
