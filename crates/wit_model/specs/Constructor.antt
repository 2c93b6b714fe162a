-- Whether a constructor gives its resource itself, or a result that may be an error.
use Rattle.std.specs.Prelude.{List, Option, None, Some, slice_get}
use Rattle.wit_model.specs.declared.types.WitType.{WitType}
use Rattle.wit_model.specs.declared.types.WitType.TheVariants.{Id}
use Rattle.wit_model.specs.declared.types.TypeDefKind.{TypeDefKind}
use Rattle.wit_model.specs.declared.types.TypeDefKind.TheVariants as kind
use Rattle.wit_model.specs.declared.types.TypeDef.{TypeDef}
use Rattle.wit_model.specs.declared.constructor.ConstructorReturn.{ConstructorReturn}
use Rattle.wit_model.specs.declared.constructor.ConstructorReturn.TheVariants.{Itself, Fallible}
use Rattle.wit_model.specs.Dealias.{dealias}

abbrev pub return_of_kind : TypeDefKind → ConstructorReturn
return_of_kind (kind.Result _ err) = Fallible err
return_of_kind _ = Itself

abbrev pub return_of_entry : Option TypeDef → ConstructorReturn
return_of_entry None = Itself
return_of_entry (Some t) = return_of_kind t.kind

-- by the kind of the function's result, after aliases
abbrev pub constructor_return : List TypeDef → Option WitType → ConstructorReturn
constructor_return types (Some (Id id)) = return_of_entry (slice_get types (dealias types id).0)
constructor_return types _ = Itself
