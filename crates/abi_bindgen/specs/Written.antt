-- Which types of a table a `Bindgen` has to be able to write, so that values of them may be passed: those that a type reaches.
use Rattle.std.specs.Prelude.{ℕ, List, Option, None, Some, map}
use Rattle.std.specs.List.{AllByRecursion}
use Rattle.wit_model.specs.Reaches.{Reaches}
use Rattle.wit_model.specs.declared.function.Function.{Function}
use Rattle.wit_model.specs.declared.name.TypeId.{TypeId}
use Rattle.wit_model.specs.declared.types.TypeDef.{TypeDef}
use Rattle.wit_model.specs.declared.types.WitType.{WitType}
use Rattle.wit_model.specs.declared.types.WitType.TheVariants.{Id}
use Rattle.abi_bindgen.specs.Meaning.{Meaning}

-- by what can be written of the entries of a table
module _ (types : List TypeDef) (writes : ℕ → Type 0) where
  -- each entry of the table that a type reaches
  abbrev pub WritesReached : WitType → Type 0
  WritesReached ty = (id : TypeId) → Reaches types ty (Id id) → writes id.0

  abbrev pub WritesReachedEach : List WitType → Type 0
  WritesReachedEach tys = AllByRecursion WritesReached tys

  abbrev pub WritesReachedPart : Option WitType → Type 0
  WritesReachedPart None = Unit {0}
  WritesReachedPart (Some ty) = WritesReached ty

  -- those of a function
  pub record WritesReachedOf (f : Function) : Type 0 where
    pub params : WritesReachedEach (map (λ p. p.ty) f.params)
    pub result : WritesReachedPart f.result

-- by what a bindgen can write
module _ {Self Operand : Type 0} (m : Meaning Self Operand) (types : List TypeDef) where
  abbrev pub Writes : WitType → Self → Type 0
  Writes ty b = WritesReached types (m.writes b types) ty

  abbrev pub WritesEach : List WitType → Self → Type 0
  WritesEach tys b = WritesReachedEach types (m.writes b types) tys

  abbrev pub WritesPart : Option WitType → Self → Type 0
  WritesPart p b = WritesReachedPart types (m.writes b types) p

  abbrev pub WritesFunction : Function → Self → Type 0
  WritesFunction f b = WritesReachedOf types (m.writes b types) f
