-- Which values are in the range of their type: numbers of a kind, chars, texts, lengths, flags, handles. A map may list a key more than
-- once; which of its entries then counts, `Settled` says.
use Rattle.std.specs.Prelude.{◌≡◌, ◌<◌, ◌^◌, ◌-◌, true, length, Option, None, Some}
use Rattle.std.specs.List.{AllByRecursion}
use Rattle.std.specs.Str.{is_utf8}
use mathlib.Core.Logic.{inl, inr}
use Rattle.wit_layout.specs.Tree.{Scalar}
use Rattle.wrapper_meaning.specs.Numbers.{is_of_kind, is_scalar_value}
use Rattle.wrapper_meaning.specs.Shape.{Shape, Shapes}
use Rattle.wrapper_meaning.specs.Shape.Shape.{scalar, text, list, pairs, fixed, fields, tuple, cases, flags, handle, resource, other}
use Rattle.wrapper_meaning.specs.Shape.Shapes.{none, more}
use Rattle.wrapper_meaning.specs.Value.{Case, Parts, Result, ScalarValue, Value}

-- a whole number is in the range of its kind, a float has its bits, and a char is a Unicode scalar value
abbrev pub IsScalar : (s : Scalar) → ScalarValue s → Type 0
IsScalar Scalar.bool v = Unit {0}
IsScalar Scalar.f32 v = v < 2 ^ 32
IsScalar Scalar.f64 v = v < 2 ^ 64
IsScalar Scalar.char v = is_scalar_value v ≡ true
IsScalar Scalar.handle v = ⊥
IsScalar s v = is_of_kind s v ≡ true

-- each part is in its range, a text is UTF-8, and a handle's number is none of the two that no handle has
abbrev mutual
  pub IsListed : (t : Shape) → Value t → Type 0
  IsListed (scalar s) v = IsScalar s v
  IsListed text v = is_utf8 v ≡ true
  IsListed (list t) vs = AllByRecursion (IsListed t) vs
  IsListed (pairs k x) entries = AllByRecursion (λ e. IsListed k e.0 × IsListed x e.1) entries
  IsListed (fixed t n) vs = (length vs ≡ n) × AllByRecursion (IsListed t) vs
  IsListed (fields ts) v = AreListed ts v
  IsListed (tuple ts) v = AreListed ts v
  IsListed (cases ts) v = IsListedCase ts v
  IsListed (flags n) v = v < 2 ^ n
  IsListed (handle owns number) v = (0 < v) × (v < 2 ^ 32 - 1)
  IsListed (resource number) v = ⊥
  IsListed other v = ⊥

  pub AreListed : (ts : Shapes) → Parts ts → Type 0
  AreListed none v = Unit {0}
  AreListed (more t ts) v = IsListed t v.0 × AreListed ts v.1

  pub IsListedCase : (ts : Shapes) → Case ts → Type 0
  IsListedCase none c = elim c [ ]
  IsListedCase (more t ts) (inl v) = IsListed t v
  IsListedCase (more t ts) (inr c) = IsListedCase ts c

abbrev pub IsListedResult : (r : Option Shape) → Result r → Type 0
IsListedResult None v = Unit {0}
IsListedResult (Some t) v = IsListed t v
