-- Laws: the definitions of a world define each type that its functions use as it is written, whatever other items stand behind them; and
-- each such type can be written, by names that may stand in a tree.
use Rattle.std.specs.Prelude.{◌≡◌, Bool, true, not, List}
use Rattle.std.specs.List.{list_all}
use Rattle.wit_model.specs.declared.function.Function.{Function}
use Rattle.wit_model.specs.declared.name.WorldId.{WorldId}
use Rattle.wit_model.specs.declared.resolve.Resolve.{Resolve}
use Rattle.wit_model.specs.declared.types.TypeDef.{TypeDef}
use Rattle.wit_model.specs.declared.world.World.{World}
use Rattle.rust_tree.specs.declared.item.Item.{Item}
use Rattle.rust_tree.specs.declared.type_item.TypeItem.{TypeItem}
use Rattle.type_defs.specs.declared.type_opts.TypeOpts.{TypeOpts}
use Rattle.type_defs.specs.Defined.{AreDefinitions}
use Rattle.type_defs.specs.DefinedNames.{AreDefinable}
use Rattle.type_defs.specs.PrintedTypes.{type_name}
use Rattle.type_defs.specs.TypeNames.{are_type_names}
use Rattle.type_defs.specs.Used.{UsesTypes, defined_types}
use Rattle.func_gen.specs.CalledCases.{is_other_module}
use Rattle.func_gen.specs.TypeSites.{AreDefined, CanBeDefined}
use Rattle.wrapper_closing.specs.Named.{AreNamedSites}
use Rattle.wrapper_closing.specs.Parts.{CanWriteFunction}
use Rattle.type_sites.specs.PrintedLaws.{file_of}
use Rattle.type_sites.specs.Sites.{type_sites}

abbrev pub SitesAreDefined : Type 0
SitesAreDefined = (opts : TypeOpts) (r : Resolve) (id : WorldId) (world : World) (defs : List TypeItem) (rest : List Item) → AreDefinable opts r id world → AreDefinitions opts r id world defs → AreDefined (file_of defs rest) (type_sites r world)

-- so definitions can
abbrev pub SitesCanBeDefined : Type 0
SitesCanBeDefined = (opts : TypeOpts) (r : Resolve) (id : WorldId) (world : World) (defs : List TypeItem) → AreDefinable opts r id world → AreDefinitions opts r id world defs → CanBeDefined (type_sites r world)

-- and the names of sites are identifiers
abbrev pub SitesAreNamed : Type 0
SitesAreNamed = (opts : TypeOpts) (r : Resolve) (id : WorldId) (world : World) (defs : List TypeItem) → AreDefinable opts r id world → AreDefinitions opts r id world defs → AreNamedSites (type_sites r world)

-- no type has the name of `_rt`, or of a number type with functions
abbrev pub have_own_names : List TypeDef → Bool
have_own_names types = list_all (λ t. not (is_other_module (type_name t))) types

-- and what a function of the world reaches can be written
abbrev pub SitesCanBeWritten : Type 0
SitesCanBeWritten = (opts : TypeOpts) (r : Resolve) (id : WorldId) (world : World) → AreDefinable opts r id world → are_type_names r.types ≡ true → have_own_names (defined_types opts r world) ≡ true
    → (f : Function) → UsesTypes r world f → CanWriteFunction r.types (type_sites r world) f
