-- The bytes of a number, the low byte first, and the number of some bytes.
use Rattle.std.proofs.Common.{◌≡◌, ℕ, zero, suc, ◌+◌, ◌*◌, ◌/◌, ◌%◌, ◌^◌, ◌<◌, List, [], ◌∷◌, length, refl, ap, ap₂, ◌∙◌, arith}
use Rattle.std.specs.List.{AllByRecursion}
use Rattle.std.proofs.Math.Arith.{mod-mul}
use Rattle.std.proofs.Math.Nat.{one-le-pow, pow-suc}
use Rattle.wrapper_meaning.specs.Cells.{little}
use Rattle.abi_bindgen.specs.Memory.{little_bytes}

-- each is a byte
abbrev pub AreBytes : List ℕ → Type 0
AreBytes bytes = AllByRecursion (λ b. b < 256) bytes

pub length-little_bytes : (n x : ℕ) → length (little_bytes n x) ≡ n
length-little_bytes zero x = refl
length-little_bytes (suc n) x = ap suc (length-little_bytes n (x / 256))

pub little_bytes_small : (n x : ℕ) → AreBytes (little_bytes n x)
little_bytes_small zero x = tt
little_bytes_small (suc n) x = (omega arith, little_bytes_small n (x / 256))

pub some_numbers : (n : ℕ) → 0 < 256 ^ n
some_numbers n = one-le-pow n 256 (omega arith)

-- the low bytes are read as the rest by a power of 256
pub little-little_bytes : (n x : ℕ) → little (little_bytes n x) ≡ x % 256 ^ n
little-little_bytes zero x = omega arith
little-little_bytes (suc n) x =
    let later = little-little_bytes n (x / 256) in
    let split : x % (256 ^ n * 256) ≡ (x / 256 % 256 ^ n) * 256 + x % 256 = mod-mul x (some_numbers n) (omega arith) in
    let power : x % 256 ^ suc n ≡ x % (256 ^ n * 256) = ap (λ m. x % m) (pow-suc 256 n) in
    omega arith

pub little_below : (bytes : List ℕ) → AreBytes bytes → little bytes < 256 ^ length bytes
little_below [] h = omega arith
little_below (b ∷ bytes) h = let later = little_below bytes h.1 in let here = h.0 in omega (arith, pow-suc 256 (length bytes))

pub little_bytes-little : (bytes : List ℕ) → AreBytes bytes → little_bytes (length bytes) (little bytes) ≡ bytes
little_bytes-little [] h = refl
little_bytes-little (b ∷ bytes) h =
    let here = h.0 in
    let low : (b + 256 * little bytes) % 256 ≡ b = omega arith in
    let high : (b + 256 * little bytes) / 256 ≡ little bytes = omega arith in
    ap₂ (λ (x : ℕ) xs. x ∷ xs) low (ap (little_bytes (length bytes)) high ∙ little_bytes-little bytes h.1)
