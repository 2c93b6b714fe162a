-- How far the next multiple of a number lies.
use Rattle.std.proofs.Common.{ℕ, ◌+◌, ◌-◌, ◌<◌, arith}
use Rattle.std.proofs.lemmas.Nat.{div-add-mod'}
use Rattle.wit_model.specs.Size.{rounded_up}

-- less than that number ahead
pub rounded_below : (m n : ℕ) → 0 < m → rounded_up m n < n + m
rounded_below m n some = omega (arith, div-add-mod' (n + (m - 1)) m, some)
