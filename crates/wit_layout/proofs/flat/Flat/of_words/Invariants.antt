use Rattle.std.proofs.Common.{◌≡◌, length, take}
use Rattle.wit_layout.proofs.flat.Flat.of_words.Given as goal

abbrev pub invariant-loop-at : goal.invariant-loop-at
invariant-loop-at l = record { same : take l.at l.words ≡ take l.at l.all.words; long : length l.words ≡ 16 }
