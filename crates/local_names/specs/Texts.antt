-- The bytes of the names that sets have, in their order.
use Rattle.std.specs.Prelude.{ℕ, List, map}
use Rattle.std.specs.List.{flat_map}
use Rattle.std.specs.Rc.{rc_str_bytes}
use Rattle.std.specs.declared.rc.Rc.{Rc}
use Rattle.std.specs.declared.rc.RcStr.{RcStr}
use Rattle.indexmap.specs.IndexSet.{IndexSet}

abbrev pub texts_in : {Y S : Type 0} → IndexSet (RcStr Y) S → List (List ℕ)
texts_in s = map rc_str_bytes s.keys

-- those of the first set first
abbrev pub texts_of : {Y S Z : Type 0} → List (Rc (IndexSet (RcStr Y) S) Z) → List (List ℕ)
texts_of sets = flat_map (λ s. texts_in s.value) sets
