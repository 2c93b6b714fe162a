-- When does a count of faults rise over a stretch of calls?
use Rattle.std.specs.Prelude.{ℕ, ◌+◌, ◌-◌, ◌^◌, ◌<◌, ◌==◌, nat_lt, ◌&&◌, if◌then◌else◌, min}

-- it is greater than at the start, or it stands at 2^64 - 1, where a count stays
abbrev pub Rose : ℕ → ℕ → Type 0
Rose old new = new < 2 ^ 64 - 1 → old < new

-- one more, where a count stays at 2^64 - 1
abbrev pub one_more : ℕ → ℕ
one_more count = min (count + 1) (2 ^ 64 - 1)

-- a sink's count after a write that took n bytes of a piece of this length: to take none of some is a fault
abbrev pub faults_after : ℕ → ℕ → ℕ → ℕ
faults_after count len n = if (n == 0) && nat_lt 0 len then one_more count else count
