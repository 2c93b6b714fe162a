-- How many core words a value of a type of the table is, and how many values of several types are together.
use Rattle.std.specs.Prelude.{ℕ, List, length}
use Rattle.wit_model.specs.declared.types.TypeDef.{TypeDef}
use Rattle.wit_model.specs.declared.types.WitType.{WitType}
use Rattle.wit_layout.specs.Flat.{flatten_record, flatten_type}
use Rattle.wrapper_meaning.specs.Layout.{layout, layouts}
use Rattle.wrapper_meaning.specs.Shape.{shape_of}
use Rattle.abi_bindgen.specs.Instructions.{shapes_of}

abbrev pub word_count : List TypeDef → WitType → ℕ
word_count types ty = length (flatten_type (layout (shape_of types ty)))

abbrev pub word_counts : List TypeDef → List WitType → ℕ
word_counts types tys = length (flatten_record (layouts (shapes_of types tys)))
