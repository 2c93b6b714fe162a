-- A text of the Rust side, taken apart.
use Rattle.std.proofs.Common.{◌≡◌, ℕ, Bool, rules}
use Rattle.wrapper_data.specs.declared.value.RustValue.{RustValue-F, out-RustValue, the_lemmas}
use Rattle.wrapper_data.specs.declared.value.RustValue.TheVariants as value

pub out-buffer : (address length : ℕ) (owned : Bool) → out-RustValue (value.Buffer address length owned) ≡ RustValue-F.Buffer address length owned
out-buffer address length owned = search (rules, the_lemmas)
