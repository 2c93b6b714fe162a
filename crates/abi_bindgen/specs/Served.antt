-- Which types the driver makes code for so far.
use Rattle.std.specs.Prelude.{◌≡◌, ◌≤◌, ◌^◌, List, Option, None, Some}
use Rattle.wit_model.specs.declared.function.Function.{Function}
use Rattle.wit_model.specs.declared.function.FunctionKind.TheVariants.{Freestanding}
use Rattle.wit_model.specs.declared.types.TypeDef.{TypeDef}
use Rattle.wrapper_meaning.specs.Shape.{Shape, Shapes, param_shapes, result_shape}
use Rattle.wrapper_meaning.specs.Shape.Shape.{scalar, text, fields, tuple, cases, flags}
use Rattle.wrapper_meaning.specs.Shape.Shapes.{none, more}
use Rattle.abi_bindgen.specs.Parts.{count}

-- scalars, texts and flags; records and tuples of such; variants, enums, options and results of such, each of whose cases has a number that a
-- word of 32 bits keeps without its sign
abbrev mutual
  pub Serves : Shape → Type 0
  Serves (scalar s) = Unit {0}
  Serves text = Unit {0}
  Serves (fields ts) = ServesAll ts
  Serves (tuple ts) = ServesAll ts
  Serves (cases ts) = (count ts ≤ 2 ^ 31) × ServesAll ts
  Serves (flags n) = Unit {0}
  Serves _ = ⊥

  pub ServesAll : Shapes → Type 0
  ServesAll none = Unit {0}
  ServesAll (more t ts) = Serves t × ServesAll ts

-- a result, where there is one
abbrev pub ServesResult : Option Shape → Type 0
ServesResult None = Unit {0}
ServesResult (Some t) = Serves t

-- the types of a function, which is of no resource, and answers at once
pub record ServesFunction (types : List TypeDef) (f : Function) : Type 0 where
  pub plain : f.kind ≡ Freestanding
  pub params : ServesAll (param_shapes types f)
  pub result : ServesResult (result_shape types f)
