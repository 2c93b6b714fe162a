-- Whole numbers of a kind and chars: which are in range, and the bits that they are.
use Rattle.std.specs.Prelude.{ℕ, ◌-◌, ◌*◌, ◌^◌, Bool, true, false, ◌&&◌, ◌||◌, ℤ, pos, negsuc, nat_lt, nat_le, int_lt, int_le, unsigned_abs, if◌then◌else◌}
use Rattle.std.specs.Int.{int_rem_euclid}
use Rattle.wit_layout.specs.Sizes.{scalar_grain}
use Rattle.wit_layout.specs.Tree.{Scalar}

-- from 0 to 2^n - 1
abbrev pub is_unsigned : ℕ → ℤ → Bool
is_unsigned n z = int_le (pos 0) z && int_lt z (pos (2 ^ n))

-- from -2^n to 2^n - 1
abbrev pub is_signed : ℕ → ℤ → Bool
is_signed n z = int_le (negsuc (2 ^ n - 1)) z && int_lt z (pos (2 ^ n))

-- a whole number is one of a kind
abbrev pub is_of_kind : Scalar → ℤ → Bool
is_of_kind Scalar.u8 z = is_unsigned 8 z
is_of_kind Scalar.u16 z = is_unsigned 16 z
is_of_kind Scalar.u32 z = is_unsigned 32 z
is_of_kind Scalar.u64 z = is_unsigned 64 z
is_of_kind Scalar.s8 z = is_signed 7 z
is_of_kind Scalar.s16 z = is_signed 15 z
is_of_kind Scalar.s32 z = is_signed 31 z
is_of_kind Scalar.s64 z = is_signed 63 z
is_of_kind _ z = false

-- how many bits a scalar has in memory
abbrev pub scalar_bits : Scalar → ℕ
scalar_bits s = 8 * 2 ^ scalar_grain s

-- a Unicode scalar value: a code below 0xD800, or from 0xE000 to 0x10FFFF
abbrev pub is_scalar_value : ℕ → Bool
is_scalar_value c = nat_lt c 0xD800 || (nat_le 0xE000 c && nat_lt c 0x110000)

abbrev pub same_number : ℤ → ℤ → Bool
same_number a b = int_le a b && int_le b a

-- its low n bits, as a number from 0
abbrev pub low_bits : ℕ → ℤ → ℕ
low_bits n z = unsigned_abs (int_rem_euclid z (pos (2 ^ n)))

abbrev pub bit : Bool → ℕ
bit true = 1
bit false = 0

-- how many bits the Rust type of so many flags has
abbrev pub flags_width : ℕ → ℕ
flags_width n = if nat_le n 8 then 8 else (if nat_le n 16 then 16 else (if nat_le n 32 then 32 else (if nat_le n 64 then 64 else 128)))
