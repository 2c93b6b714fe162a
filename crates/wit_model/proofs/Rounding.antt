-- A number at the next multiple of another one.
use Rattle.std.proofs.Common.{◌≡◌, ℕ, ◌+◌, ◌-◌, ◌*◌, ◌/◌, ◌%◌, ◌<◌, ◌≤◌, sym, ap, ◌∙◌, arith}
use Rattle.std.proofs.Math.Nat.{lt-div-mul-add}
use Rattle.std.proofs.lemmas.Nat.{div-mul-add, div-add-mod', mod_below}
use Rattle.wit_model.specs.Size.{rounded_up}

-- the same number, written with its quotient and rest
pub rounded_from_rest : (m n q r : ℕ) → r < m → n + (m - 1) ≡ q * m + r → rounded_up m n ≡ q * m
rounded_from_rest m n q r below e = ap (λ k. k / m * m) e ∙ ap (λ k. k * m) (div-mul-add q m r below)

-- a multiple stays
pub rounded_multiple : (m n : ℕ) → 0 < m → n % m ≡ 0 → n ≡ rounded_up m n
rounded_multiple m n some none =
    let split = div-add-mod' n m in
    sym (rounded_from_rest m n (n / m) (m - 1) (omega arith) (omega (arith, split, none)) ∙ omega (arith, split, none))

-- and any other number goes to the next
pub rounded_other : (m n : ℕ) → 0 < m → 0 < n % m → n + (m - n % m) ≡ rounded_up m n
rounded_other m n some past =
    let split = div-add-mod' n m in
    let below = mod_below n m some in
    sym (rounded_from_rest m n (n / m + 1) (n % m - 1) (omega arith) (omega (arith, split, below)) ∙ omega (arith, split, below))

pub rounded_above : (m n : ℕ) → 0 < m → n ≤ rounded_up m n
rounded_above m n some = let l = lt-div-mul-add {a = n + (m - 1)} {b = m} some in omega (arith, l)
