-- Which types of the table the functions of a world use, and so which the file of the world defines.
use Rattle.std.specs.Prelude.{◌≡◌, ℕ, ◌==◌, Bool, true, false, ◌||◌, List, ◌++◌, Option, None, Some, filter, is_some, length, slice_get}
use Rattle.std.specs.List.{Contains, flat_map, list_any}
use Rattle.wit_model.specs.declared.function.Function.{Function}
use Rattle.wit_model.specs.declared.name.TypeId.{TypeId}
use Rattle.wit_model.specs.declared.resolve.Resolve.{Resolve}
use Rattle.wit_model.specs.declared.types.TypeDef.{TypeDef}
use Rattle.wit_model.specs.declared.types.WitType.{WitType}
use Rattle.wit_model.specs.declared.types.WitType.TheVariants.{Id}
use Rattle.wit_model.specs.declared.world.World.{World}
use Rattle.wit_model.specs.Reaches.{Reaches}
use Rattle.wit_model.specs.TypeOrder.{type_below}
use Rattle.type_facts.specs.Roots.{Roots, param_types, result_types, roots_of_world}
use Rattle.type_defs.specs.declared.type_opts.TypeOpts.{TypeOpts}
use Rattle.type_defs.specs.Defined.{is_defined_type}
use Rattle.type_defs.specs.Finds.{finds}
use Rattle.type_defs.specs.ListedTypes.{listed_types}
use Rattle.type_defs.specs.Listing.{lists}
use Rattle.type_defs.specs.Modes.{is_always_defined}
use Rattle.type_defs.specs.PrintedTypes.{entry_at}

-- the types of the parameters and results of a world's functions
abbrev pub types_of_roots : Roots → List WitType
types_of_roots roots = roots.borrowed ++ roots.owned

abbrev pub function_types : Resolve → World → List WitType
function_types r world = types_of_roots (roots_of_world r (Some world))

-- the entry at a place of the table
abbrev pub is_at : ℕ → WitType → Bool
is_at place (Id id) = id.0 == place
is_at place _ = false

-- a function uses the entry at a place
abbrev pub uses : Resolve → World → ℕ → Bool
uses r world place = list_any (finds r.types (is_at place)) (function_types r world)

-- the entry at a place is of a kind that is defined whether a function uses it or not
abbrev pub is_always_entry : Option TypeDef → Bool
is_always_entry None = false
is_always_entry (Some entry) = is_always_defined entry.kind

-- the entry at a place is defined where the world lists it
abbrev pub is_wanted_at : TypeOpts → Resolve → World → ℕ → Bool
is_wanted_at opts r world place = is_always_entry (slice_get r.types place) || (uses r world place || opts.generate_unused_types)

-- the types that a world lists and its file defines: enums and flags types, those that a function uses, and all where unused ones are
-- asked for
abbrev pub defined_ids : TypeOpts → Resolve → World → List TypeId
defined_ids opts r world = filter (λ id. is_wanted_at opts r world id.0) (listed_types world)

abbrev pub defined_types : TypeOpts → Resolve → World → List TypeDef
defined_types opts r world = flat_map (entry_at r.types) (defined_ids opts r world)

-- the world lists each named type that a type reaches
abbrev pub Covers : Resolve → World → WitType → Type 0
Covers r world ty = (part : TypeId) (entry : TypeDef) → Reaches r.types ty (Id part) → slice_get r.types part.0 ≡ Some entry → is_some entry.name ≡ true → lists (listed_types world) part.0 ≡ true

-- a type of a world's functions that can be defined: it is one of those, in the table, and no error context
pub record IsUsed (r : Resolve) (world : World) (ty : WitType) : Type 0 where
  pub used : Contains (function_types r world) ty
  pub below : type_below (length r.types) ty ≡ true
  pub defined : is_defined_type ty ≡ true

-- a function has such types alone
abbrev pub UsesTypes : Resolve → World → Function → Type 0
UsesTypes r world f = (ty : WitType) → Contains (param_types f ++ result_types f) ty → IsUsed r world ty
