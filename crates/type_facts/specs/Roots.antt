-- At which types of a world's functions the facts on use begin.
use Rattle.std.specs.Prelude.{List, [], ◌∷◌, ◌++◌, map, Option, None, Some, slice_get}
use Rattle.std.specs.Option.{option_to_list}
use Rattle.wit_model.specs.declared.name.WorldId.{WorldId}
use Rattle.wit_model.specs.declared.types.WitType.{WitType}
use Rattle.wit_model.specs.declared.types.WitType.TheVariants.{Id}
use Rattle.wit_model.specs.declared.types.TypeDefKind.{TypeDefKind}
use Rattle.wit_model.specs.declared.types.TypeDefKind.TheVariants as kind
use Rattle.wit_model.specs.declared.types.TypeDef.{TypeDef}
use Rattle.wit_model.specs.declared.function.Function.{Function}
use Rattle.wit_model.specs.declared.world.Interface.{Interface}
use Rattle.wit_model.specs.declared.world.World.{World}
use Rattle.wit_model.specs.declared.world.WorldKey.{WorldKey}
use Rattle.wit_model.specs.declared.world.WorldItem.{WorldItem}
use Rattle.wit_model.specs.declared.world.WorldItem.TheVariants as item
use Rattle.wit_model.specs.declared.resolve.Resolve.{Resolve}
use Rattle.wit_model.specs.Dealias.{dealias}
use Rattle.type_facts.specs.declared.side.Side.{Side}
use Rattle.type_facts.specs.declared.side.Side.TheVariants.{Import, Export}

-- the types from which borrowed and owned types are reached, and the error types
pub record Roots : Type 0 where
  pub borrowed : List WitType
  pub owned : List WitType
  pub error : List WitType

abbrev pub no_roots : Roots
no_roots = record { borrowed = []; owned = []; error = [] }

abbrev pub both : Roots → Roots → Roots
both a b = record { borrowed = a.borrowed ++ b.borrowed; owned = a.owned ++ b.owned; error = a.error ++ b.error }

abbrev pub param_types : Function → List WitType
param_types f = map (λ p. p.ty) f.params

abbrev pub result_types : Function → List WitType
result_types f = option_to_list f.result

-- behind its aliases, a type that the table has
abbrev pub in_table : List TypeDef → WitType → List WitType
in_table types (Id id) = Id (dealias types id) ∷ []
in_table types _ = []

abbrev pub error_of_payload : List TypeDef → Option WitType → List WitType
error_of_payload types None = []
error_of_payload types (Some ty) = in_table types ty

-- the error payload of a result
abbrev pub error_of_kind : List TypeDef → TypeDefKind → List WitType
error_of_kind types (kind.Result _ err) = error_of_payload types err
error_of_kind types _ = []

abbrev pub error_of_entry : List TypeDef → Option TypeDef → List WitType
error_of_entry types None = []
error_of_entry types (Some entry) = error_of_kind types entry.kind

abbrev pub error_of_type : List TypeDef → WitType → List WitType
error_of_type types (Id id) = error_of_entry types (slice_get types id.0)
error_of_type types _ = []

-- the error type of a function whose result is itself a result, and no alias of one
abbrev pub error_types : List TypeDef → Option WitType → List WitType
error_types types None = []
error_types types (Some ty) = error_of_type types ty

-- the two sides, as other crates name them
abbrev pub import_side : Side
import_side = Import

abbrev pub export_side : Side
export_side = Export

-- an imported function borrows its parameters and owns its result; an exported one owns both
abbrev pub function_roots : List TypeDef → Side → Function → Roots
function_roots types Import f = record { borrowed = param_types f; owned = result_types f; error = error_types types f.result }
function_roots types Export f = record { borrowed = []; owned = param_types f ++ result_types f; error = error_types types f.result }

abbrev pub functions_roots : List TypeDef → Side → List Function → Roots
functions_roots types side [] = no_roots
functions_roots types side (f ∷ fs) = both (function_roots types side f) (functions_roots types side fs)

abbrev pub interface_roots : List TypeDef → Side → Option Interface → Roots
interface_roots types side None = no_roots
interface_roots types side (Some interface) = functions_roots types side interface.functions

abbrev pub item_roots : Resolve → Side → WorldItem → Roots
item_roots r side (item.Function f) = function_roots r.types side f
item_roots r side (item.Interface id) = interface_roots r.types side (slice_get r.interfaces id.0)
item_roots r side (item.Named _) = no_roots

abbrev pub listed_roots : Resolve → Side → List (WorldKey × WorldItem) → Roots
listed_roots r side [] = no_roots
listed_roots r side (entry ∷ entries) = both (item_roots r side entry.1) (listed_roots r side entries)

abbrev pub roots_of_world : Resolve → Option World → Roots
roots_of_world r None = no_roots
roots_of_world r (Some world) = both (listed_roots r Import world.imports) (listed_roots r Export world.exports)

unfoldable pub world_roots : Resolve → WorldId → Roots
world_roots r id = roots_of_world r (slice_get r.worlds id.0)
