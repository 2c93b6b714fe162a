-- Which whole number does a JSON value give? It is written with no point and no exponent.
use Rattle.std.specs.Prelude.{ℕ, ◌^◌, ℤ, pos, negsuc, nat_lt, if◌then◌else◌, Option, Some, None, option_and_then}
use Rattle.serde_json.specs.Data.{Data}
use Rattle.serde_json.specs.Find.{as_i64, as_integer, as_number, as_u64}

-- a number below a limit
abbrev pub below : ℕ → ℕ → Option ℕ
below limit n = if nat_lt n limit then Some n else None

-- a number of 32 bits with a sign
abbrev pub within_32 : ℤ → Option ℤ
within_32 (pos n) = if nat_lt n (2 ^ 31) then Some (pos n) else None
within_32 (negsuc n) = if nat_lt n (2 ^ 31) then Some (negsuc n) else None

abbrev pub unsigned_64 : Data → Option ℕ
unsigned_64 d = option_and_then as_u64 (as_number d)

unfoldable pub unsigned_32 : Data → Option ℕ
unsigned_32 d = option_and_then (below (2 ^ 32)) (unsigned_64 d)

unfoldable pub byte : Data → Option ℕ
byte d = option_and_then (below (2 ^ 8)) (unsigned_64 d)

-- the number of a bit of 128
unfoldable pub bit : Data → Option ℕ
bit d = option_and_then (below 128) (unsigned_64 d)

abbrev pub signed_64 : Data → Option ℤ
signed_64 d = option_and_then as_i64 (as_number d)

unfoldable pub signed_32 : Data → Option ℤ
signed_32 d = option_and_then within_32 (signed_64 d)

-- a number of 64 bits, with a sign or without
abbrev pub integer : Data → Option ℤ
integer d = option_and_then as_integer (as_number d)
