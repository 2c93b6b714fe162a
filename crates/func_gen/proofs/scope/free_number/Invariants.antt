use Rattle.std.proofs.Common.{◌≡◌, ℕ, ◌<◌, ◌≤◌, false}
use Rattle.func_gen.specs.Scope.{is_free}
use Rattle.func_gen.proofs.scope.free_number.Given as goal

-- the numbers behind the counter and before this one are not free
abbrev pub invariant-loop-t : goal.invariant-loop-t
invariant-loop-t l = (l.next ≤ l.t) × ((k : ℕ) → l.next ≤ k → k < l.t → is_free l.used l.names k ≡ false)
