-- A count that is capped on the way is capped as the whole.
use Rattle.std.proofs.Common.{◌≡◌, ℕ, ◌+◌, ◌≤◌, arith}
use Prim.Native.Nat.{min}
use Rattle.std.proofs.lemmas.Grind.{common_steps}
use Rattle.type_defs.specs.Nodes.{capped}

pub capped-few : (a : ℕ) → capped a ≤ 65537
capped-few a = grind (arith, common_steps)

-- one more count, added without wrapping and capped
pub capped-next : (sum next rest top : ℕ) {added now : ℕ} → 65537 ≤ top → added ≡ min (sum + next) top → now ≡ capped added → capped (now + rest) ≡ capped (sum + (next + rest))
capped-next sum next rest top h a n = rw (n, a) (grind (arith, common_steps))

-- what is capped at the front
pub capped-front : (a rest : ℕ) → capped (capped a + rest) ≡ capped (a + rest)
capped-front a rest = grind (arith, common_steps)
