-- Which types a world lists itself.
use Rattle.std.specs.Prelude.{List, [], ◌∷◌, ◌++◌}
use Rattle.wit_model.specs.declared.name.TypeId.{TypeId}
use Rattle.wit_model.specs.declared.world.WorldKey.{WorldKey}
use Rattle.wit_model.specs.declared.world.WorldItem.{WorldItem}
use Rattle.wit_model.specs.declared.world.WorldItem.TheVariants as item
use Rattle.wit_model.specs.declared.world.World.{World}

-- the imports, or the exports, of a world
abbrev pub Entries : Type 0
Entries = List (WorldKey × WorldItem)

-- the type that an entry is, if it is one
abbrev pub type_at : WorldItem → List TypeId
type_at (item.Interface _) = []
type_at (item.Function _) = []
type_at (item.Named id) = id ∷ []

-- the types among the entries, in their order
abbrev pub types_in : Entries → List TypeId
types_in [] = []
types_in (entry ∷ entries) = type_at entry.1 ++ types_in entries

-- the types of a world itself
abbrev pub listed_types : World → List TypeId
listed_types world = types_in world.imports
