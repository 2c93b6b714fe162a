use Rattle.wrapper_meaning.proofs.WordsDetermined.{words_determine}
use Rattle.wrapper_meaning.proofs.laws.words_law.Goals as goal

pub returns : goal.returns
returns c = words_determine
