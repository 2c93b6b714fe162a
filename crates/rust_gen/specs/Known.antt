-- What is known of a world of which a tree is made.
use Rattle.std.specs.Prelude.{◌≡◌, ℕ, true, List, Option, None, Some, map, slice_get}
use Rattle.wit_model.specs.Distinct.{is_distinct}
use Rattle.wit_model.specs.WellFormed.{IsWellFormed}
use Rattle.wit_model.specs.declared.function.Function.{Function}
use Rattle.wit_model.specs.declared.name.WorldId.{WorldId}
use Rattle.wit_model.specs.declared.resolve.Resolve.{Resolve}
use Rattle.wit_model.specs.declared.types.TypeDef.{TypeDef}
use Rattle.wit_model.specs.declared.world.World.{World}
use Rattle.wit_layout.specs.Filled.{IsFilledFor, first_too_large}
use Rattle.abi_bindgen.specs.Served.{ServesFunction}
use Rattle.abi_driver.specs.Low.{IsSmallRecord}
use Rattle.func_gen.specs.TypeSites.{CanBeDefined}
use Rattle.func_gen.specs.declared.type_site.TypeSite.{TypeSite}
use Rattle.func_gen.specs.declared.type_tables.TypeTables.{TypeTables}
use Rattle.type_defs.specs.DefinedNames.{AreDefinable}
use Rattle.type_defs.specs.declared.type_opts.TypeOpts.{TypeOpts}
use Rattle.type_defs.specs.TypeNames.{are_type_names}
use Rattle.type_sites.specs.Sites.{type_sites}
use Rattle.type_defs.specs.Used.{UsesTypes}
use Rattle.wrapper_closing.specs.Parts.{CanWriteFunction}
use Rattle.gen_accept.specs.declared.opts.Opts.{Opts}
use Rattle.gen_accept.specs.DeclaredNames.{declares_well, param_idents}
use Rattle.gen_accept.specs.InRange.{AreInRange}
use Rattle.gen_accept.specs.Emitted.{exported_functions, imported_functions}
use Rattle.gen_accept.specs.NameText.{is_written_world}
use Rattle.gen_accept.specs.TypeOpts.{type_opts}

-- no two parameters of a function have the same identifier
abbrev pub HaveDistinctParams : List Function → Type 0
HaveDistinctParams fs = (nth : ℕ) (f : Function) → slice_get fs nth ≡ Some f → is_distinct (param_idents f) ≡ true

-- the driver has code for a function: it serves the types of the function, and a record of the parameters has few bytes
pub record HasCode (types : List TypeDef) (f : Function) : Type 0 where
  pub serves : ServesFunction types f
  pub small : IsSmallRecord types (map (λ p. p.ty) f.params)

-- for each of these
abbrev pub HaveCode : List TypeDef → List Function → Type 0
HaveCode types fs = (nth : ℕ) (f : Function) → slice_get fs nth ≡ Some f → HasCode types f

-- the tables of types: the layouts are those of the types, and items can define the types that have a site
abbrev pub AreAtHand : List TypeDef → TypeTables → Type 0
AreAtHand types tables = IsFilledFor tables.sizes types × CanBeDefined tables.sites

-- by these sites, what each of these functions reaches can be written
abbrev pub CanWriteFunctions : List TypeDef → List (Option TypeSite) → List Function → Type 0
CanWriteFunctions types sites fs = (nth : ℕ) (f : Function) → slice_get fs nth ≡ Some f → CanWriteFunction types sites f

-- no type is too large. The types of some world of this place can be defined, and items can define as they are written those that its
-- functions use
pub record CanWriteTypes (r : Resolve) (id : WorldId) : Type 0 where
  pub sized : first_too_large r.types ≡ None
  pub opts : TypeOpts
  pub world : World
  pub definable : AreDefinable opts r id world
  pub defined : CanBeDefined (type_sites r world)

-- each uses types of the table alone that can be defined
abbrev pub UseTypes : Resolve → World → List Function → Type 0
UseTypes r world fs = (nth : ℕ) (f : Function) → slice_get fs nth ≡ Some f → UsesTypes r world f

pub record IsKnown (opts : Opts) (r : Resolve) (id : WorldId) (world : World) : Type 0 where
  pub well : IsWellFormed r
  pub types : AreDefinable (type_opts opts) r id world
  pub written : is_written_world world ≡ true
  pub declared : declares_well opts r world ≡ true
  pub imports : AreInRange r (imported_functions world)
  pub exports : AreInRange r (exported_functions world)
  pub imports_code : HaveCode r.types (imported_functions world)
  pub exports_code : HaveCode r.types (exported_functions world)
  pub distinct : HaveDistinctParams (imported_functions world)
  pub names : are_type_names r.types ≡ true
  pub sized : first_too_large r.types ≡ None
  pub imports_use : UseTypes r world (imported_functions world)
  pub exports_use : UseTypes r world (exported_functions world)
