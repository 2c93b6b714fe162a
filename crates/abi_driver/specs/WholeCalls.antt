-- What the whole code of a function is, on either side.
use Rattle.std.specs.Prelude.{◌≡◌, true, List, length}
use Rattle.wit_model.specs.declared.function.Function.{Function}
use Rattle.wit_model.specs.declared.types.TypeDef.{TypeDef}
use Rattle.wit_layout.specs.declared.signature.AbiVariant.{AbiVariant}
use Rattle.wit_layout.specs.declared.signature.AbiVariant.TheVariants.{GuestExport, GuestImport}
use Rattle.wrapper_meaning.specs.Shape.{param_shapes, result_shape}
use Rattle.abi_driver.specs.declared.calls.LiftLower.{LiftLower}
use Rattle.abi_driver.specs.declared.calls.LiftLower.TheVariants.{LiftArgsLowerResults, LowerArgsLiftResults}
use Rattle.abi_driver.specs.Exports.{CallsExport, export_params}
use Rattle.abi_driver.specs.Imports.{CallsImport}
use Rattle.abi_bindgen.specs.Laws.{IsCount}
use Rattle.abi_bindgen.specs.Meaning.{Meaning}

-- an import lowers its arguments, and an export lifts them
abbrev pub IsWay : AbiVariant → LiftLower → Type 0
IsWay GuestImport LowerArgsLiftResults = Unit {0}
IsWay GuestExport LiftArgsLowerResults = Unit {0}
IsWay _ _ = ⊥

module _ {Self Operand : Type 0} (m : Meaning Self Operand) where
  -- code is made of this side
  abbrev pub IsServed : AbiVariant → Self → Type 0
  IsServed GuestImport b = m.imports b ≡ true
  IsServed GuestExport b = m.exports b ≡ true

  -- where the arguments are counted, there is one for each parameter of an import, and for each core parameter of an export
  abbrev pub HasArguments : List TypeDef → AbiVariant → Function → Self → Type 0
  HasArguments types GuestImport f b = IsCount m (m.arguments b) (length f.params)
  HasArguments types GuestExport f b = IsCount m (m.arguments b) (length (export_params types f))

  -- the code of the function was added
  abbrev pub CallsFunction : List TypeDef → AbiVariant → Function → (old new : Self) → Type 0
  CallsFunction types GuestImport f old new = CallsImport m f (param_shapes types f) (result_shape types f) old new
  CallsFunction types GuestExport f old new = CallsExport m f (param_shapes types f) (result_shape types f) old new
