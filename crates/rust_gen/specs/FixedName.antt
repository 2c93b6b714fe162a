-- A name of a body that is the same in all bodies, unless a parameter has it.
use Rattle.std.specs.Prelude.{◌≡◌, ◌⊎◌, ℕ, ◌<◌, true, false, List, ◌++◌, decimal}
use Rattle.wit_model.specs.Bytes.{Bytes}
use Rattle.func_gen.specs.Scope.{is_used}

-- with the least number behind it that frees it where a parameter has it
abbrev pub fixed : Bytes → ℕ → Bytes
fixed base n = base ++ decimal n

pub record IsNumbered (params : List Bytes) (base name : Bytes) : Type 0 where
  pub hidden : is_used params base ≡ true
  pub number : ℕ
  pub is : name ≡ fixed base number
  pub free : is_used params name ≡ false
  pub least : (k : ℕ) → k < number → is_used params (fixed base k) ≡ true

abbrev pub IsFixedName : List Bytes → Bytes → Bytes → Type 0
IsFixedName params base name = ((is_used params base ≡ false) × (name ≡ base)) ⊎ IsNumbered params base name
