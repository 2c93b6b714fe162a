-- What does each import and export of a document's worlds stand under?
use Rattle.std.specs.Prelude.{[], List, map, option_and_then, slice_get, unwrap_or}
use Rattle.wit_model.specs.declared.name.Name.{Name}
use Rattle.wit_model.specs.declared.name.TypeId.{TypeId}
use Rattle.wit_model.specs.declared.types.TypeDef.{TypeDef}
use Rattle.wit_model.specs.declared.world.World.{World}
use Rattle.wit_model.specs.declared.world.WorldKey.{WorldKey}
use Rattle.wit_model.specs.declared.world.WorldKey.TheVariants as key
use Rattle.wit_model.specs.declared.world.WorldItem.{WorldItem}
use Rattle.wit_model.specs.declared.world.WorldItem.TheVariants as item
use Rattle.wit_document.specs.declared.world.ListedWorld.{ListedWorld}

abbrev pub no_name : Name
no_name = record { wit = []; snake = []; camel = []; upper = [] }

-- the name of a type of the table; the rules of the tables refuse an id that is not there and a type without a name, so no name
-- counts there
abbrev pub type_name : List TypeDef → TypeId → Name
type_name types id = unwrap_or (option_and_then (λ t. t.name) (slice_get types id.0)) no_name

-- an interface stands under itself, and a function and a type under their names
abbrev pub own_key : List TypeDef → WorldItem → WorldKey
own_key types (item.Interface id) = key.Interface id
own_key types (item.Function f) = key.Name f.name
own_key types (item.Named id) = key.Name (type_name types id)

abbrev pub keyed_item : List TypeDef → WorldItem → WorldKey × WorldItem
keyed_item types i = (own_key types i, i)

-- a world, each item under its own key
abbrev pub keyed : List TypeDef → ListedWorld → World
keyed types world = record { name = world.name; «package» = world.package; imports = map (keyed_item types) world.imports; exports = map (keyed_item types) world.exports }
