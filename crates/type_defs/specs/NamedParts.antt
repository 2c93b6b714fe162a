-- When the named types that a type reaches have names that a type may have.
use Rattle.std.specs.Prelude.{◌≡◌, true, List, Some, slice_get}
use Rattle.wit_model.specs.declared.name.Name.{Name}
use Rattle.wit_model.specs.declared.name.TypeId.{TypeId}
use Rattle.wit_model.specs.declared.types.TypeDef.{TypeDef}
use Rattle.wit_model.specs.declared.types.WitType.{WitType}
use Rattle.wit_model.specs.declared.types.WitType.TheVariants.{Id}
use Rattle.wit_model.specs.Reaches.{Reaches}
use Rattle.rust_tree.specs.Ident.{is_type_name, type_ident}

abbrev pub HasNamedParts : List TypeDef → WitType → Type 0
HasNamedParts types ty =
    (part : TypeId) (entry : TypeDef) (name : Name) → Reaches types ty (Id part) → slice_get types part.0 ≡ Some entry → entry.name ≡ Some name → is_type_name (type_ident name) ≡ true
