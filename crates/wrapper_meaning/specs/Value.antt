-- What a WIT value is. It is a value of a shape, so that no value is of a wrong type.
use Rattle.std.specs.Prelude.{◌⊎◌, ℕ, suc, Bool, ℤ, List, Option, None, Some}
use mathlib.Core.Logic.{inl, inr}
use Rattle.wit_layout.specs.Tree.{Scalar}
use Rattle.wrapper_meaning.specs.Shape.{Shape, Shapes}
use Rattle.wrapper_meaning.specs.Shape.Shape.{scalar, text, list, pairs, fixed, fields, tuple, cases, flags, handle, resource, other}
use Rattle.wrapper_meaning.specs.Shape.Shapes.{none, more}

-- a bool; a float, as its bits; a char, as its code; a whole number. A handle's number is no scalar value
abbrev pub ScalarValue : Scalar → Type 0
ScalarValue Scalar.bool = Bool
ScalarValue Scalar.f32 = ℕ
ScalarValue Scalar.f64 = ℕ
ScalarValue Scalar.char = ℕ
ScalarValue Scalar.handle = ⊥
ScalarValue _ = ℤ

abbrev mutual
  pub Value : Shape → Type 0
  Value (scalar s) = ScalarValue s
  -- its bytes
  Value text = List ℕ
  Value (list t) = List (Value t)
  -- its entries, each a key and a value
  Value (pairs k x) = List (Value k × Value x)
  Value (fixed t n) = List (Value t)
  Value (fields ts) = Parts ts
  Value (tuple ts) = Parts ts
  Value (cases ts) = Case ts
  -- flag i is bit i
  Value (flags n) = ℕ
  -- its number
  Value (handle owns number) = ℕ
  Value (resource number) = ⊥
  Value other = ⊥

  -- one value for each part
  pub Parts : Shapes → Type 0
  Parts none = Unit {0}
  Parts (more t ts) = Value t × Parts ts

  -- the payload of one case
  pub Case : Shapes → Type 0
  Case none = ⊥
  Case (more t ts) = Value t ⊎ Case ts

-- which case it is, counted from 0: none and ok are 0, some and err are 1
abbrev pub case_number : (ts : Shapes) → Case ts → ℕ
case_number none c = elim c [ ]
case_number (more t ts) (inl v) = 0
case_number (more t ts) (inr c) = suc (case_number ts c)

-- a result: a value where there is a result type, and nothing elsewhere
abbrev pub Result : Option Shape → Type 0
Result None = Unit {0}
Result (Some t) = Value t
