-- Why `generate` makes no file: the first cause, if there is one.
use Rattle.std.specs.Prelude.{◌≡◌, Bool, true, false, ◌&&◌, Option, None, Some, Result, Ok, Err, is_none, slice_get, if◌then◌else◌, ⊤}
use Rattle.std.specs.List.{list_all}
use Rattle.std.specs.Option.{option_map, option_or}
use Rattle.wit_model.specs.declared.name.WorldId.{WorldId}
use Rattle.wit_model.specs.declared.resolve.Resolve.{Resolve}
use Rattle.wit_model.specs.declared.resolve.Rule.{Rule}
use Rattle.wit_model.specs.declared.resolve.Rule.TheVariants.{IndexRange}
use Rattle.wit_model.specs.declared.resolve.Table.TheVariants as table
use Rattle.wit_model.specs.declared.world.World.{World}
use Rattle.wit_model.specs.Place.{Place}
use Rattle.wit_model.specs.WellFormed.{first_fault}
use Rattle.gen_accept.specs.declared.error.GenError.{GenError}
use Rattle.gen_accept.specs.declared.error.GenError.TheVariants.{InvalidWorld, NameClash, OutOfMemory, TooLarge, Unsupported}
use Rattle.gen_accept.specs.declared.error.Lack.TheVariants.{Unbuilt}
use Rattle.gen_accept.specs.declared.opts.Opts.{Opts}
use Rattle.gen_accept.specs.Built.{are_built_tables, are_built_options}
use Rattle.gen_accept.specs.Clash.{first_clash}
use Rattle.gen_accept.specs.DeclaredNames.{declared_names, declares_well, has_distinct_names}
use Rattle.type_defs.specs.Listing.{are_listed_well}
use Rattle.gen_accept.specs.NameText.{are_written_tables}
use Rattle.gen_accept.specs.TooLarge.{first_large}
use Rattle.type_defs.specs.TypeNames.{are_type_names}

abbrev pub invalid : Rule × Place → GenError
invalid f = InvalidWorld f.0 f.1.0 f.1.1

abbrev pub unbuilt : World → GenError
unbuilt world = Unsupported Unbuilt world.name.wit

abbrev pub is_index_range : Rule → Bool
is_index_range IndexRange = true
is_index_range _ = false

-- a fault of the tables that is an id out of range
abbrev pub is_out_of_range : Option (Rule × Place) → Bool
is_out_of_range None = false
is_out_of_range (Some fault) = is_index_range fault.0

unfoldable pub is_built : Opts → Resolve → Bool
is_built opts r = are_built_tables r && are_built_options opts

-- the tables keep the rules that have no answer of their own yet: types that need a name have one, worlds list what they may and all that
-- is reached, names are written as in WIT, and no two functions of one side of a world have the same
unfoldable pub keeps_rules : Resolve → Bool
keeps_rules r = are_type_names r.types && are_listed_well r && are_written_tables r && list_all has_distinct_names r.worlds

abbrev pub rule_cause : Resolve → World → Option GenError
rule_cause r world = if keeps_rules r then None else Some (unbuilt world)

-- why no file is made of a world of tables that keep the rules which are decided: another rule comes first, then the first type or function
-- that is too large, and then the first declared name that clashes
abbrev pub later_cause : Opts → Resolve → World → Option GenError
later_cause opts r world =
    option_or (rule_cause r world) (option_or (option_map TooLarge (first_large r.types world)) (option_map NameClash (first_clash (declared_names opts r world))))

-- no later cause
unfoldable pub is_accepted : Opts → Resolve → World → Bool
is_accepted opts r world = is_none (later_cause opts r world)

-- what the names of such a world are: written as in WIT, of no two functions of one side the same, and clear of one another in the file
unfoldable pub is_well_named : Opts → Resolve → World → Bool
is_well_named opts r world = are_written_tables r && list_all has_distinct_names r.worlds && declares_well opts r world

-- the cause that lies in what is built: a rule that the tables break, or a later cause
abbrev pub built_cause : Opts → Resolve → World → Option GenError
built_cause opts r world = option_or (option_map invalid (first_fault r)) (later_cause opts r world)

-- the cause that lies in the world, which is that of the id, if the id names one
abbrev pub world_cause : Opts → Resolve → WorldId → Option World → Option GenError
world_cause opts r id None = Some (InvalidWorld IndexRange table.World id.0)
world_cause opts r id (Some world) = if is_built opts r then built_cause opts r world else Some (unbuilt world)

-- an id out of range comes first, that of the world last among them, and then what is not built
unfoldable pub cause : Opts → Resolve → WorldId → Option GenError
cause opts r id = if is_out_of_range (first_fault r) then option_map invalid (first_fault r) else world_cause opts r id (slice_get r.worlds id.0)

-- an answer is given only where there is no cause, and a refusal only for its cause; want of memory is free
abbrev pub IsAnswer : {T : Type 0} → Result T GenError → Option GenError → Type 0
IsAnswer (Ok _) c = c ≡ None
IsAnswer (Err OutOfMemory) c = ⊤
IsAnswer (Err e) c = c ≡ Some e

-- the refusal of a world that is not built
abbrev pub IsUnbuilt : World → GenError → Type 0
IsUnbuilt world OutOfMemory = ⊤
IsUnbuilt world e = e ≡ unbuilt world
