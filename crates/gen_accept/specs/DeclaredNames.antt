-- Which names the file of a world declares, in which order, and whether they are identifiers of which no two clash.
use Rattle.std.specs.Prelude.{Bool, true, false, ◌&&◌, ◌||◌, List, [], ◌∷◌, ◌++◌, codes, if◌then◌else◌, is_none, map}
use Rattle.std.specs.List.{flat_map, list_any}
use Rattle.wit_model.specs.declared.function.Function.{Function}
use Rattle.wit_model.specs.declared.resolve.Resolve.{Resolve}
use Rattle.wit_model.specs.declared.types.TypeDef.{TypeDef}
use Rattle.wit_model.specs.declared.world.World.{World}
use Rattle.wit_model.specs.Bytes.{Bytes}
use Rattle.wit_model.specs.Distinct.{is_distinct}
use Rattle.rust_tree.specs.Ident.{rust_ident}
use Rattle.gen_accept.specs.Area.{import_needs_area, needs_area, needs_return}
use Rattle.gen_accept.specs.declared.declared.Declared.{Declared}
use Rattle.gen_accept.specs.declared.declared.NameScope.{NameScope}
use Rattle.gen_accept.specs.declared.declared.Sort.{Sort}
use Rattle.gen_accept.specs.declared.declared.Sort.TheVariants.{Type_, WorldType, Value, Macro}
use Rattle.gen_accept.specs.declared.opts.Opts.{Opts}
use Rattle.gen_accept.specs.Clash.{first_clash}
use Rattle.gen_accept.specs.Emitted.{exported_functions, imported_functions}
use Rattle.gen_accept.specs.TypeOpts.{type_opts}
use Rattle.type_defs.specs.FlagsDef.{is_flags_kind}
use Rattle.type_defs.specs.Paths.{runtime_crate}
use Rattle.type_defs.specs.PrintedTypes.{field_names, member_names, type_name}
use Rattle.type_defs.specs.Used.{defined_types}

abbrev pub declared : Sort → Bytes → Declared
declared sort name = record { sort = sort; name = name }

abbrev pub all_declared : Sort → List Bytes → List Declared
all_declared sort names = map (declared sort) names

abbrev pub is_empty : List Function → Bool
is_empty [] = true
is_empty (_ ∷ _) = false

-- names that are there where a function is exported
abbrev pub where_exported : List Function → List Bytes → List Bytes
where_exported exports names = if is_empty exports then [] else names

-- the types of the root

-- the module of runtime items, whose name is kept also where there is none
unfoldable pub runtime_ident : Bytes
runtime_ident = codes "_rt"

-- the trait of the exported functions
unfoldable pub guest_name : Bytes
guest_name = codes "Guest"

-- the type parameter of an export's wrapper
unfoldable pub implementation_ident : Bytes
implementation_ident = codes "T_"

abbrev pub trait_idents : List Function → List Bytes
trait_idents exports = where_exported exports (guest_name ∷ implementation_ident ∷ [])

unfoldable pub area_type_ident : Bytes
area_type_ident = codes "_RetArea"

-- the type of an area, where the root or a body in it has one
abbrev pub area_type_idents : List TypeDef → List Function → List Function → List Bytes
area_type_idents types imports exports = if list_any (import_needs_area types) imports || list_any (needs_area types) exports then area_type_ident ∷ [] else []

abbrev pub is_flags : TypeDef → Bool
is_flags t = is_flags_kind t.kind

-- the first name of the path of flags types, where there is one
abbrev pub outside_idents : List TypeDef → List Bytes
outside_idents defined = if list_any is_flags defined then runtime_crate ∷ [] else []

-- the functions of the root, and its static

unfoldable pub export_prefix : Bytes
export_prefix = codes "_export_"

unfoldable pub cabi_suffix : Bytes
cabi_suffix = codes "_cabi"

abbrev pub export_ident : Function → Bytes
export_ident f = export_prefix ++ f.name.snake ++ cabi_suffix

unfoldable pub return_prefix : Bytes
return_prefix = codes "__post_return_"

-- a function that is compared with the types too
abbrev pub among_types : Bytes → List Declared
among_types name = declared Value name ∷ declared Type_ name ∷ []

-- a post-return function, where the result may have a text or a list
abbrev pub return_names : List TypeDef → Function → List Declared
return_names types f = if needs_return types f then among_types (return_prefix ++ f.name.snake) else []

unfoldable pub area_ident : Bytes
area_ident = codes "_RET_AREA"

-- the static area
abbrev pub area_idents : List TypeDef → List Function → List Bytes
area_idents types exports = if list_any (needs_area types) exports then area_ident ∷ [] else []

-- the macros
unfoldable pub macro_idents : World → List Bytes
macro_idents world =
    (codes "__export_world_" ++ world.name.snake ++ codes "_cabi") ∷ (codes "__export_" ++ world.name.snake ++ codes "_impl") ∷ codes "export" ∷ []

-- the names of the root itself: its types, those of the world among them, its functions and its static, and its macros
abbrev pub module_scope : List TypeDef → World → (defined : List TypeDef) → (imports exports : List Function) → NameScope
module_scope types world defined imports exports = record {
  name = [];
  names =
      all_declared Type_ (runtime_ident ∷ []) ++ (all_declared WorldType (map type_name defined) ++ (all_declared Type_ (trait_idents exports)
      ++ (all_declared Type_ (area_type_idents types imports exports) ++ (all_declared Type_ (outside_idents defined)
      ++ (map (λ f. declared Value (rust_ident f.name)) imports ++ (flat_map (λ f. among_types (export_ident f)) exports
      ++ (flat_map (return_names types) exports ++ (all_declared Value (area_idents types exports)
      ++ all_declared Macro (where_exported exports (macro_idents world))))))))));
}

-- the fields of a record
abbrev pub field_scope : TypeDef → NameScope
field_scope t = record { name = type_name t; names = all_declared Value (field_names t.kind) }

-- the cases of a variant or an enum, or the members of a flags type
abbrev pub member_scope : TypeDef → NameScope
member_scope t = record { name = type_name t; names = all_declared Value (member_names t.kind) }

-- the functions of the trait
abbrev pub trait_scope : List Function → NameScope
trait_scope exports = record { name = guest_name; names = map (λ f. declared Value (rust_ident f.name)) exports }

abbrev pub param_idents : Function → List Bytes
param_idents f = map (λ p. rust_ident p.name) f.params

-- the parameters of a function
abbrev pub param_scope : Function → NameScope
param_scope f = record { name = rust_ident f.name; names = map (λ p. declared Value (rust_ident p.name)) f.params }

-- the names that the file of a world declares, scope by scope, in the order of the text
abbrev pub scopes_of : List TypeDef → World → (defined : List TypeDef) → List NameScope
scopes_of types world defined =
    module_scope types world defined (imported_functions world) (exported_functions world)
    ∷ map field_scope defined ++ (map member_scope defined ++ (trait_scope (exported_functions world)
    ∷ map param_scope (imported_functions world) ++ map param_scope (exported_functions world)))

abbrev pub declared_names : Opts → Resolve → World → List NameScope
declared_names opts r world = scopes_of r.types world (defined_types (type_opts opts) r world)

-- they are identifiers, and none clashes with an earlier one
unfoldable pub declares_well : Opts → Resolve → World → Bool
declares_well opts r world = is_none (first_clash (declared_names opts r world))

-- no two functions of one side have the same WIT name
abbrev pub are_distinct_functions : List Function → Bool
are_distinct_functions functions = is_distinct (map (λ f. f.name.wit) functions)

abbrev pub has_distinct_names : World → Bool
has_distinct_names world = are_distinct_functions (imported_functions world) && are_distinct_functions (exported_functions world)
