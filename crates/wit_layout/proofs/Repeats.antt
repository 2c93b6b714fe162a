-- A size that is taken several times is a size.
use Rattle.std.proofs.Common.{◌≡◌, ℕ, ◌+◌, ◌-◌, ◌*◌, ◌%◌, ◌≤◌, sym, ap, ◌∙◌, subst, arith}
use Rattle.std.proofs.Math.Nat.{mul-mod_left}

whole : (n b p : ℕ) → (n * (b + p * 8) - n * (b + p * 4)) % 4 ≡ 0
whole n b p =
    let e : n * (b + p * 8) - n * (b + p * 4) ≡ (n * p) * 4 = omega arith in
    ap (λ k. k % 4) e ∙ mul-mod_left (n * p) 4

pub repeated_size : (n b p x y : ℕ) → x ≡ b + p * 4 → y ≡ b + p * 8 → (n * x ≤ n * y) × (n * y ≤ 2 * (n * x)) × ((n * y - n * x) % 4 ≡ 0)
repeated_size n b p x y e f =
    let P : ℕ → ℕ → Type 0 = λ i j. (n * i ≤ n * j) × (n * j ≤ 2 * (n * i)) × ((n * j - n * i) % 4 ≡ 0) in
    subst (λ i. P i y) (sym e) (subst (λ j. P (b + p * 4) j) (sym f) (omega arith, omega arith, whole n b p))
