-- What a cast makes of the bits of a word. A pointer has 2 ^ w bytes.
use Rattle.std.specs.Prelude.{◌≡◌, ℕ, ◌+◌, ◌-◌, ◌*◌, ◌%◌, ◌^◌, ◌<◌, nat_lt, if◌then◌else◌}
use Rattle.wit_model.specs.declared.wasm_type.WasmType.{WasmType}
use Rattle.wit_model.specs.declared.wasm_type.WasmType.TheVariants.{I32, I64, F32, F64, Pointer, PointerOrI64, Length}
use Rattle.wit_layout.specs.declared.bitcast.Bitcast.{Bitcast}
use Rattle.wit_layout.specs.declared.bitcast.Bitcast.TheVariants as bitcast
use Rattle.wit_layout.specs.Cast.{cast}

-- a word of m bits, as a signed number, in n bits
abbrev pub extended : ℕ → ℕ → ℕ → ℕ
extended m n x = if nat_lt x (2 ^ (m - 1)) then x else x + (2 ^ n - 2 ^ m)

module _ (w : ℕ) where
  -- how many bits a word has
  abbrev pub bits : WasmType → ℕ
  bits I32 = 32
  bits I64 = 64
  bits F32 = 32
  bits F64 = 64
  bits Pointer = 8 * 2 ^ w
  bits PointerOrI64 = 64
  bits Length = 8 * 2 ^ w

  -- a wider word has the source's sign, which is no sign for float bits, pointers and lengths; a narrower one keeps the low bits
  abbrev pub after_step : Bitcast → ℕ → ℕ
  after_step bitcast.I32ToI64 x = extended 32 64 x
  after_step bitcast.I32ToP x = extended 32 (8 * 2 ^ w) x
  after_step bitcast.I32ToL x = extended 32 (8 * 2 ^ w) x
  after_step bitcast.I64ToI32 x = x % 2 ^ 32
  after_step bitcast.I64ToF32 x = x % 2 ^ 32
  after_step bitcast.PToI32 x = x % 2 ^ 32
  after_step bitcast.LToI32 x = x % 2 ^ 32
  after_step bitcast.I64ToL x = x % 2 ^ (8 * 2 ^ w)
  after_step bitcast.P64ToP x = x % 2 ^ (8 * 2 ^ w)
  after_step _ x = x

  abbrev pub after_cast : Bitcast → ℕ → ℕ
  after_cast (bitcast.Sequence from through to) x = after_step (cast through to) (after_step (cast from through) x)
  after_cast c x = after_step c x

  -- each word of the one type, widened to the other, reads back by its low bits, as the cast back reads it
  abbrev pub ReadsBack : WasmType → WasmType → Type 0
  ReadsBack from to =
      (x : ℕ) → x < 2 ^ bits from → (after_cast (cast from to) x < 2 ^ bits to) × (after_cast (cast from to) x % 2 ^ bits from ≡ x) × (after_cast (cast to from) (after_cast (cast from to) x) ≡ x)
