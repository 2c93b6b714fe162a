use Rattle.std.proofs.Common.{length}
use Rattle.wrapper_values.proofs.flags.+joined_words.Given as goal

abbrev pub decreases-joined_words : goal.decreases-joined_words
decreases-joined_words l = length l.words.now
