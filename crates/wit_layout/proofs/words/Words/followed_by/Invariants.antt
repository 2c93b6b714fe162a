use Rattle.std.proofs.Common.{◌≡◌, ◌++◌, take, drop}
use Rattle.wit_layout.specs.inside.Words.{kept}
use Rattle.wit_layout.proofs.words.Words.followed_by.Given as goal

abbrev pub invariant-loop-at : goal.invariant-loop-at
invariant-loop-at l = record {
  words : take l.fn.self.room (kept l.all ++ drop l.at (kept l.more)) ≡ take l.fn.self.room (kept l.fn.self ++ kept l.more);
  room : l.all.room ≡ l.fn.self.room;
}
