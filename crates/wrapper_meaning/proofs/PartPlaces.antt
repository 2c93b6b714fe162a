-- Where the parts of a record stand: behind what comes before them, aligned, and before the end.
use Rattle.std.proofs.Common.{◌≡◌, ℕ, ◌+◌, ◌-◌, ◌*◌, ◌/◌, ◌%◌, ◌^◌, ◌<◌, ◌≤◌, List, [], ◌∷◌, sym, ap, ◌∙◌, arith, pow-add, pow_pos, mul_assoc, div-add-mod'}
use Rattle.std.proofs.Math.Nat.{lt-div-mul-add, mul-mod_left}
use Rattle.wit_layout.specs.Extent.{Extent, end, greatest, place, record_extent}

-- 1. Multiples of powers of 2

abbrev Aligned : ℕ → ℕ → Type 0
Aligned x grain = (q : ℕ) × (x ≡ q * 2 ^ grain)

from_mod : (x grain : ℕ) → x % 2 ^ grain ≡ 0 → Aligned x grain
from_mod x grain h = (x / 2 ^ grain, omega (arith, h, div-add-mod' x (2 ^ grain)))

to_mod : (x grain : ℕ) → Aligned x grain → x % 2 ^ grain ≡ 0
to_mod x grain a = ap (λ n. n % 2 ^ grain) a.1 ∙ mul-mod_left a.0 (2 ^ grain)

less_aligned : (x grain part : ℕ) → Aligned x grain → part ≤ grain → Aligned x part
less_aligned x grain part a low =
    let split : 2 ^ grain ≡ 2 ^ (grain - part) * 2 ^ part = ap (λ n. 2 ^ n) (omega arith) ∙ pow-add 2 (grain - part) part in
    (a.0 * 2 ^ (grain - part), a.1 ∙ ap (λ n. a.0 * n) split ∙ sym (mul_assoc a.0 (2 ^ (grain - part)) (2 ^ part)))

sum_aligned : (x y grain : ℕ) → Aligned x grain → Aligned y grain → Aligned (x + y) grain
sum_aligned x y grain a b = (a.0 + b.0, omega (arith, a.1, b.1))

pub less_grain : (x grain part : ℕ) → x % 2 ^ grain ≡ 0 → part ≤ grain → x % 2 ^ part ≡ 0
less_grain x grain part h low = to_mod x part (less_aligned x grain part (from_mod x grain h) low)

-- what stands aligned in something aligned
pub aligned_part : (address k grain part : ℕ) → address % 2 ^ grain ≡ 0 → part ≤ grain → k % 2 ^ part ≡ 0 → (address + k) % 2 ^ part ≡ 0
aligned_part address k grain part h low g =
    to_mod (address + k) part (sum_aligned address k part (less_aligned address grain part (from_mod address grain h) low) (from_mod k part g))

-- 2. One part

pub place_behind : (e : Extent) (k : ℕ) → k ≤ place e k
place_behind e k =
    let some : 0 < 2 ^ e.grain = pow_pos e.grain in
    let near = lt-div-mul-add {a = k + (2 ^ e.grain - 1)} {b = 2 ^ e.grain} some in
    omega arith

pub place_aligned : (e : Extent) (k : ℕ) → place e k % 2 ^ e.grain ≡ 0
place_aligned e k = mul-mod_left ((k + (2 ^ e.grain - 1)) / 2 ^ e.grain) (2 ^ e.grain)

-- 3. All of them

pub grain_of_first : (e : Extent) (es : List Extent) → e.grain ≤ (greatest (e ∷ es)).grain
grain_of_first e es = omega arith

pub grain_of_rest : (e : Extent) (es : List Extent) → (greatest es).grain ≤ (greatest (e ∷ es)).grain
grain_of_rest e es = omega arith

pub bytes_of_first : (e : Extent) (es : List Extent) → e.bytes ≤ (greatest (e ∷ es)).bytes
bytes_of_first e es = omega arith

pub bytes_of_rest : (e : Extent) (es : List Extent) → (greatest es).bytes ≤ (greatest (e ∷ es)).bytes
bytes_of_rest e es = omega arith
