-- Turns at the last address of a pointer of four bytes, and behind it.
use Rattle.std.proofs.Common.{◌≡◌, ◌-◌, ◌*◌, ◌^◌, ℕ, Bool, nat_lt, if◌then◌else◌, [], ◌∷◌, ap}
use Rattle.wrapper_data.specs.declared.form.Form.{Form}
use Rattle.wrapper_data.specs.declared.form.Form.TheVariants as form
use Rattle.wrapper_data.specs.declared.run.Stop.TheVariants as stop
use Rattle.wrapper_data.specs.declared.run.TrapKind.TheVariants as trap
use Rattle.abi_bindgen.specs.Account.{Account, Got, Outcome, Stopped, Stuck, failing, stay, then_do}
use Rattle.abi_bindgen.specs.Meaning.{Meaning, at_place}
use Rattle.abi_bindgen.specs.Turns.{Run, reaching, turns}

module _ {Self Operand : Type 0} (m : Meaning Self Operand) (four : m.width ≡ 2) where
  pub last_place : (f : Form) (acc : Account m.Item) → reaching m f (2 ^ 32 - 1) acc ≡ stay acc
  last_place f acc = ap (λ w. let o : Outcome m.Item (Got m.Item (Unit {0})) = if nat_lt (2 ^ 32 - 1) (2 ^ (8 * 2 ^ w)) then stay acc else failing f trap.Pointer acc in o) four

  -- no block is run behind it: in the debug form that is a trap, and in the release form it has no meaning
  behind_it : (f : Form) (acc : Account m.Item) → reaching m f (2 ^ 32) acc ≡ failing f trap.Pointer acc
  behind_it f acc = ap (λ w. let o : Outcome m.Item (Got m.Item (Unit {0})) = if nat_lt (2 ^ 32) (2 ^ (8 * 2 ^ w)) then stay acc else failing f trap.Pointer acc in o) four

  pub trapped : (run : Run m) (s : m.State) → turns m form.Debug run (at_place (2 ^ 32) ∷ []) s ≡ Stopped (stop.Trap trap.Pointer) (m.account s)
  trapped run s = ap (λ o. then_do o (λ u. then_do (run (at_place (2 ^ 32)) s) (λ e. turns m form.Debug run [] e.state))) (behind_it form.Debug (m.account s))

  pub unmeant : (run : Run m) (s : m.State) → turns m form.Release run (at_place (2 ^ 32) ∷ []) s ≡ Stuck (m.account s)
  unmeant run s = ap (λ o. then_do o (λ u. then_do (run (at_place (2 ^ 32)) s) (λ e. turns m form.Release run [] e.state))) (behind_it form.Release (m.account s))
