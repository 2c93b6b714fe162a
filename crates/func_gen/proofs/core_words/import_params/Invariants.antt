use Rattle.std.proofs.Common.{◌≡◌, ◌++◌, drop}
use Rattle.func_gen.proofs.core_words.import_params.Given as goal

abbrev pub invariant-loop-word : goal.invariant-loop-word
invariant-loop-word l = l.params ++ drop l.word-index l.word-items ≡ l.word-items
