-- Fixed names.
use Rattle.std.proofs.Common.{◌≡◌, ℕ, ◌<◌, true, false, List, inl, inr}
use Rattle.func_gen.specs.Scope.{is_used}
use Rattle.rust_gen.specs.FixedName.{IsFixedName, fixed}
use Rattle.wit_model.specs.Bytes.{Bytes}

pub unhidden : (params : List Bytes) (base name : Bytes) → is_used params name ≡ false → name ≡ base → IsFixedName params base name
unhidden params base name free is = let here : is_used params base ≡ false = cc in inl (here, is)

pub numbered_name : (params : List Bytes) (base name : Bytes) (n : ℕ) → is_used params base ≡ true → name ≡ fixed base n → is_used params name ≡ false → ((k : ℕ) → k < n → is_used params (fixed base k) ≡ true) → IsFixedName params base name
numbered_name params base name n hidden is free least = inr (record { hidden = hidden; number = n; is = is; free = free; least = least })
