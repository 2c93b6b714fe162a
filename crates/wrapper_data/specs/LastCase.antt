-- Which trap a word is where the number of a last case is expected, in each form of the code.
use Rattle.std.specs.Prelude.{ℕ, nat_eq, ℤ, pos, negsuc, Option, None, Some, if◌then◌else◌}
use Rattle.wrapper_data.specs.declared.form.Form.{Form}
use Rattle.wrapper_data.specs.declared.form.Form.TheVariants as form
use Rattle.wrapper_data.specs.declared.run.TrapKind.{TrapKind}
use Rattle.wrapper_data.specs.declared.run.TrapKind.TheVariants as trap

abbrev pub trap_at : Form → ℕ → ℤ → Option TrapKind
trap_at form.Release expected word = None
trap_at form.Debug expected (pos number) = if nat_eq number expected then None else Some trap.Discriminant
trap_at form.Debug expected (negsuc number) = Some trap.Discriminant
