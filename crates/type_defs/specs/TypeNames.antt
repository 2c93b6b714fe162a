-- Whether each type that must have a name has one.
use Rattle.std.specs.Prelude.{Bool, true, false, not, ◌||◌, List, is_some}
use Rattle.std.specs.List.{list_all}
use Rattle.wit_model.specs.declared.types.TypeDefKind.{TypeDefKind}
use Rattle.wit_model.specs.declared.types.TypeDefKind.TheVariants as kind
use Rattle.wit_model.specs.declared.types.TypeDef.{TypeDef}

abbrev pub needs_name : TypeDefKind → Bool
needs_name (kind.Record _) = true
needs_name (kind.Variant _) = true
needs_name (kind.Enum _) = true
needs_name (kind.Flags _) = true
needs_name kind.Resource = true
needs_name _ = false

unfoldable pub are_type_names : List TypeDef → Bool
are_type_names types = list_all (λ t. not (needs_name t.kind) || is_some t.name) types
