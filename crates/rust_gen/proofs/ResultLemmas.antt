-- A core result is the first word of those that are answered, if one is.
use Rattle.std.proofs.Common.{◌≡◌, List, Option, None, Some, refl, ap, ◌∙◌}
use Rattle.std.specs.Prelude.{option_to_list, slice_get}

alone : {A : Type 0} (o : Option A) → o ≡ slice_get (option_to_list o) 0
alone None = refl
alone (Some x) = refl

pub first_result : {A : Type 0} (o : Option A) (xs : List A) → option_to_list o ≡ xs → o ≡ slice_get xs 0
first_result o xs e = alone o ∙ ap (λ ys. slice_get ys 0) e
