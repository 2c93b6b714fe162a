use Rattle.std.proofs.Common.{◌≡◌, ◌++◌, take, drop}
use Rattle.wit_layout.specs.Flat.{joined}
use Rattle.wit_layout.specs.inside.Words.{kept}
use Rattle.wit_layout.proofs.words.Words.joined_with.Given as goal

abbrev pub invariant-loop-at : goal.invariant-loop-at
invariant-loop-at l = record {
  words : take l.self.room (kept l.all ++ joined (drop l.at (kept l.self)) (drop l.at (kept l.other))) ≡ take l.self.room (joined (kept l.self) (kept l.other));
  room : l.all.room ≡ l.self.room;
}
