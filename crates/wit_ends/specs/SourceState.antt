-- What does a source in memory hold, and what does a call make of it?
use Rattle.std.specs.Prelude.{ℕ, List, length, drop, min}
use Rattle.wit_ends.specs.Faults.{one_more}

-- the bytes left, the numbers of the calls that fail, the most bytes that a call gives, how many calls there were,
-- and how many faults
pub record SourceState : Type 0 where
  pub left : List ℕ
  pub fails : List ℕ
  pub most : ℕ
  pub calls : ℕ
  pub faults : ℕ

-- how many bytes a call gives to a buffer of this length
abbrev pub count_given : SourceState → ℕ → ℕ
count_given source room = min (min room source.most) (length source.left)

-- after a call that failed
abbrev pub after_failed : SourceState → SourceState
after_failed source =
    record source { calls = one_more source.calls; faults = one_more source.faults }

-- after a call that gave n bytes
abbrev pub after_given : SourceState → ℕ → SourceState
after_given source n = record source { left = drop n source.left; calls = one_more source.calls }
