-- Whether each of some functions names types of the table alone.
use Rattle.std.specs.Prelude.{◌≡◌, ℕ, true, List, Some, slice_get}
use Rattle.wit_model.specs.IndexRange.{function_in_range}
use Rattle.wit_model.specs.declared.function.Function.{Function}
use Rattle.wit_model.specs.declared.resolve.Resolve.{Resolve}

abbrev pub AreInRange : Resolve → List Function → Type 0
AreInRange r functions = (nth : ℕ) (f : Function) → slice_get functions nth ≡ Some f → function_in_range r f ≡ true
