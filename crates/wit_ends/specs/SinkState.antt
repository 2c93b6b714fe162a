-- What does a sink in memory hold, and what does a call make of it?
use Rattle.std.specs.Prelude.{ℕ, ◌-◌, List, length, take, ◌++◌, min}
use Rattle.wit_ends.specs.Faults.{one_more, faults_after}

-- the bytes taken, the room for all of them, the numbers of the calls that fail, the most bytes that a call takes,
-- how many calls there were, and how many faults
pub record SinkState : Type 0 where
  pub taken : List ℕ
  pub room : ℕ
  pub fails : List ℕ
  pub most : ℕ
  pub calls : ℕ
  pub faults : ℕ

-- how many bytes a call takes of a piece of this length
abbrev pub count_taken : SinkState → ℕ → ℕ
count_taken sink len = min (min len sink.most) (sink.room - length sink.taken)

-- after a call that failed
abbrev pub after_failed : SinkState → SinkState
after_failed sink =
    record sink { calls = one_more sink.calls; faults = one_more sink.faults }

-- after a call that took n bytes of a piece
abbrev pub after_taken : SinkState → List ℕ → ℕ → SinkState
after_taken sink piece n =
    record sink { taken = sink.taken ++ take n piece; calls = one_more sink.calls; faults = faults_after sink.faults (length piece) n }
