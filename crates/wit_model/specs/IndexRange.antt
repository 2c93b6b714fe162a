-- Whether each id that an entry of the tables holds is a place of its table, and which entry first holds one that is not.
use Rattle.std.specs.Prelude.{Bool, true, ◌&&◌, nat_lt, List, length, Option, None, Some}
use Rattle.std.specs.List.{list_all}
use Rattle.std.specs.Option.{option_or}
use Rattle.wit_model.specs.declared.name.PackageId.{PackageId}
use Rattle.wit_model.specs.declared.name.InterfaceId.{InterfaceId}
use Rattle.wit_model.specs.declared.name.TypeId.{TypeId}
use Rattle.wit_model.specs.declared.name.WorldId.{WorldId}
use Rattle.wit_model.specs.declared.types.WitType.{WitType}
use Rattle.wit_model.specs.declared.types.TypeDefKind.{TypeDefKind}
use Rattle.wit_model.specs.declared.types.TypeOwner.{TypeOwner}
use Rattle.wit_model.specs.declared.types.TypeOwner.TheVariants as owner
use Rattle.wit_model.specs.declared.types.TypeDef.{TypeDef}
use Rattle.wit_model.specs.declared.function.FunctionKind.{FunctionKind}
use Rattle.wit_model.specs.declared.function.FunctionKind.TheVariants.{Freestanding, Method, Static, Constructor, AsyncFreestanding, AsyncMethod, AsyncStatic}
use Rattle.wit_model.specs.declared.function.Function.{Function}
use Rattle.wit_model.specs.declared.world.WorldKey.{WorldKey}
use Rattle.wit_model.specs.declared.world.WorldKey.TheVariants as key
use Rattle.wit_model.specs.declared.world.WorldItem.{WorldItem}
use Rattle.wit_model.specs.declared.world.WorldItem.TheVariants as item
use Rattle.wit_model.specs.declared.world.World.{World}
use Rattle.wit_model.specs.declared.world.Interface.{Interface}
use Rattle.wit_model.specs.declared.resolve.Resolve.{Resolve}
use Rattle.wit_model.specs.declared.resolve.Table.TheVariants as table
use Rattle.wit_model.specs.Place.{Place, first_failing}
use Rattle.wit_model.specs.TypeOrder.{type_below, payload_below, parts_below}

abbrev pub package_id_in_range : Resolve → PackageId → Bool
package_id_in_range r id = nat_lt id.0 (length r.packages)

abbrev pub interface_id_in_range : Resolve → InterfaceId → Bool
interface_id_in_range r id = nat_lt id.0 (length r.interfaces)

abbrev pub type_id_in_range : Resolve → TypeId → Bool
type_id_in_range r id = nat_lt id.0 (length r.types)

abbrev pub world_id_in_range : Resolve → WorldId → Bool
world_id_in_range r id = nat_lt id.0 (length r.worlds)

-- a type as a parameter or a part names it
abbrev pub type_in_range : Resolve → WitType → Bool
type_in_range r ty = type_below (length r.types) ty

-- a payload or a result, where there is one
abbrev pub payload_in_range : Resolve → Option WitType → Bool
payload_in_range r payload = payload_below (length r.types) payload

-- each type that a kind names
abbrev pub kind_in_range : Resolve → TypeDefKind → Bool
kind_in_range r kind = parts_below (length r.types) kind

unfoldable pub owner_in_range : Resolve → TypeOwner → Bool
owner_in_range r (owner.World id) = world_id_in_range r id
owner_in_range r (owner.Interface id) = interface_id_in_range r id
owner_in_range r owner.None = true

-- an entry of the table of types
unfoldable pub type_def_in_range : Resolve → TypeDef → Bool
type_def_in_range r entry = owner_in_range r entry.owner && kind_in_range r entry.kind

-- the resource to which a function belongs
unfoldable pub function_kind_in_range : Resolve → FunctionKind → Bool
function_kind_in_range r Freestanding = true
function_kind_in_range r (Method id) = type_id_in_range r id
function_kind_in_range r (Static id) = type_id_in_range r id
function_kind_in_range r (Constructor id) = type_id_in_range r id
function_kind_in_range r AsyncFreestanding = true
function_kind_in_range r (AsyncMethod id) = type_id_in_range r id
function_kind_in_range r (AsyncStatic id) = type_id_in_range r id

unfoldable pub function_in_range : Resolve → Function → Bool
function_in_range r f =
    function_kind_in_range r f.kind && list_all (λ p. type_in_range r p.ty) f.params && payload_in_range r f.result

-- the package of an interface, where it has one
unfoldable pub owning_package_in_range : Resolve → Option PackageId → Bool
owning_package_in_range r None = true
owning_package_in_range r (Some id) = package_id_in_range r id

-- an entry of the table of interfaces
unfoldable pub interface_in_range : Resolve → Interface → Bool
interface_in_range r entry =
    owning_package_in_range r entry.package && list_all (λ id. type_id_in_range r id) entry.types && list_all (λ f. function_in_range r f) entry.functions

unfoldable pub key_in_range : Resolve → WorldKey → Bool
key_in_range r (key.Name _) = true
key_in_range r (key.Interface id) = interface_id_in_range r id

unfoldable pub item_in_range : Resolve → WorldItem → Bool
item_in_range r (item.Interface id) = interface_id_in_range r id
item_in_range r (item.Function f) = function_in_range r f
item_in_range r (item.Named id) = type_id_in_range r id

-- the imports, or the exports, of a world
unfoldable pub listed_in_range : Resolve → List (WorldKey × WorldItem) → Bool
listed_in_range r listed = list_all (λ l. key_in_range r l.0 && item_in_range r l.1) listed

-- an entry of the table of worlds
unfoldable pub world_in_range : Resolve → World → Bool
world_in_range r entry =
    package_id_in_range r entry.package && listed_in_range r entry.imports && listed_in_range r entry.exports

-- the first entry with an id that is out of range: of the interfaces, then of the types, then of the worlds; a package
-- holds no id
unfoldable pub first_out_of_range : Resolve → Option Place
first_out_of_range r =
    option_or (first_failing table.Interface (interface_in_range r) r.interfaces) (option_or (first_failing table.Type_ (type_def_in_range r) r.types) (first_failing table.World (world_in_range r) r.worlds))
