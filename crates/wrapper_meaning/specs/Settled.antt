-- What is handed on of a map that lists a key more than once: of two entries with equal keys the later value counts. A value is settled
-- where each of its maps has distinct keys.
use Rattle.std.specs.Prelude.{◌≡◌, Bool, false, not, nat_eq, List, [], ◌∷◌, map, fold, if◌then◌else◌, Option, None, Some}
use Rattle.std.specs.Str.{bytes_eq}
use mathlib.Core.Logic.{inl, inr}
use Rattle.wit_layout.specs.Tree.{Scalar}
use Rattle.wrapper_meaning.specs.InRange.{AreListed, IsListed}
use Rattle.wrapper_meaning.specs.Numbers.{same_number}
use Rattle.wrapper_meaning.specs.Shape.{Shape, Shapes}
use Rattle.wrapper_meaning.specs.Shape.Shape.{scalar, text, list, pairs, fixed, fields, tuple, cases}
use Rattle.wrapper_meaning.specs.Shape.Shapes.{none, more}
use Rattle.wrapper_meaning.specs.Value.{Case, Parts, Result, ScalarValue, Value}

abbrev pub same_scalar : (s : Scalar) → ScalarValue s → ScalarValue s → Bool
same_scalar Scalar.bool a b = if a then b else not b
same_scalar Scalar.f32 a b = nat_eq a b
same_scalar Scalar.f64 a b = nat_eq a b
same_scalar Scalar.char a b = nat_eq a b
same_scalar Scalar.handle a b = elim a [ ]
same_scalar s a b = same_number a b

-- whether two keys are equal; a key is a scalar or a text
abbrev pub same_key : (t : Shape) → Value t → Value t → Bool
same_key (scalar s) a b = same_scalar s a b
same_key text a b = bytes_eq a b
same_key _ a b = false

-- an entry behind the others; or its value in the place of that of the entry with an equal key, whose key stays
abbrev pub pushed : {A B : Type 0} → (A → A → Bool) → List (A × B) → A × B → List (A × B)
pushed same [] e = e ∷ []
pushed same (first ∷ entries) e = if same first.0 e.0 then (first.0, e.1) ∷ entries else first ∷ pushed same entries e

-- each key once, with its last value
abbrev pub last_of_each : {A B : Type 0} → (A → A → Bool) → List (A × B) → List (A × B)
last_of_each same entries = fold (pushed same) [] entries

-- the value that is handed on
abbrev mutual
  pub settled : (t : Shape) → Value t → Value t
  settled (list t) vs = map (settled t) vs
  settled (pairs k x) entries = last_of_each (same_key k) (map (λ e. (e.0, settled x e.1)) entries)
  settled (fixed t n) vs = map (settled t) vs
  settled (fields ts) v = all_settled ts v
  settled (tuple ts) v = all_settled ts v
  settled (cases ts) v = settled_case ts v
  settled _ v = v

  pub all_settled : (ts : Shapes) → Parts ts → Parts ts
  all_settled none v = v
  all_settled (more t ts) v = (settled t v.0, all_settled ts v.1)

  pub settled_case : (ts : Shapes) → Case ts → Case ts
  settled_case none c = c
  settled_case (more t ts) (inl v) = inl (settled t v)
  settled_case (more t ts) (inr c) = inr (settled_case ts c)

abbrev pub settled_result : (r : Option Shape) → Result r → Result r
settled_result None v = v
settled_result (Some t) v = settled t v

-- a value: each part in its range, and each map with distinct keys
abbrev pub IsValue : (t : Shape) → Value t → Type 0
IsValue t v = IsListed t v × (settled t v ≡ v)

abbrev pub AreValues : (ts : Shapes) → Parts ts → Type 0
AreValues ts v = AreListed ts v × (all_settled ts v ≡ v)

abbrev pub IsResult : (r : Option Shape) → Result r → Type 0
IsResult None v = Unit {0}
IsResult (Some t) v = IsValue t v
