use Rattle.std.proofs.Common.{◌≡◌, ℕ, ◌<◌, true}
use Rattle.func_gen.specs.Scope.{is_used}
use Rattle.rust_gen.specs.FixedName.{fixed}
use Rattle.rust_gen.proofs.fixed_name.fixed_name.Given as goal

-- the names before this one are used
abbrev pub invariant-loop-n : goal.invariant-loop-n
invariant-loop-n l = (k : ℕ) → k < l.n → is_used l.params (fixed l.base k) ≡ true
