-- How far are two texts the same, and in which line of a text does a place stand?
use Rattle.std.specs.Prelude.{◌≡◌, ◌≢◌, ℕ, ◌+◌, ◌<◌, ◌≤◌, ◌==◌, List, length, take, slice_index, count_by}

-- as many bytes at the front are the same, and no more
pub record Shares (a b : List ℕ) (n : ℕ) : Type 0 where
  pub within_a : n ≤ length a
  pub within_b : n ≤ length b
  pub same : take n a ≡ take n b
  pub no_more : n < length a → n < length b → slice_index a n ≢ slice_index b n

-- counted from 1
abbrev pub line_number : List ℕ → ℕ → ℕ
line_number text at = count_by (λ b. b == 10) (take at text) + 1
