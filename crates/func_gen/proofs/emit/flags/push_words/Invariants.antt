use Rattle.std.proofs.Common.{◌≡◌, ◌*◌, ◌-◌, ◌≤◌, ◌++◌}
use Rattle.func_gen.specs.FlagsForms.{operands_of, words_of}
use Rattle.func_gen.proofs.emit.flags.push_words.Given as goal

abbrev pub invariant-loop-word : goal.invariant-loop-word
invariant-loop-word l = (l.word ≤ l.count) × (l.results ++ operands_of (words_of l.name (32 * l.word) (l.count - l.word)) ≡ l.initial.results ++ operands_of (words_of l.name 0 l.count))
