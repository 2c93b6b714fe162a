-- Whether a function passes its parameters or its result through an area of memory, and whether what it answers is freed afterwards.
use Rattle.std.specs.Prelude.{Bool, ◌||◌, List}
use Rattle.wit_model.specs.declared.function.Function.{Function}
use Rattle.wit_model.specs.declared.types.TypeDef.{TypeDef}
use Rattle.wit_layout.specs.declared.signature.AbiVariant.{AbiVariant}
use Rattle.wit_layout.specs.declared.signature.AbiVariant.TheVariants.{GuestImport, GuestExport}
use Rattle.wit_layout.specs.Signature.{are_many, needs_pointer, param_words, result_words}
use Rattle.wrapper_meaning.specs.Kinds.{result_has_list}
use Rattle.wrapper_meaning.specs.Shape.{result_shape}

-- a result of more than one core word
abbrev pub needs_area : List TypeDef → Function → Bool
needs_area types f = needs_pointer (result_words types f.result)

-- an import: where its result does, or its parameters are more than sixteen core words
abbrev pub import_needs_area : List TypeDef → Function → Bool
import_needs_area types f = needs_area types f || are_many (param_words types f.params)

-- from the side on which it stands
abbrev pub needs_area_on : AbiVariant → List TypeDef → Function → Bool
needs_area_on GuestImport types f = import_needs_area types f
needs_area_on GuestExport types f = needs_area types f

-- an export whose result may have a text or a list
abbrev pub needs_return : List TypeDef → Function → Bool
needs_return types f = result_has_list (result_shape types f)
