-- Whether the types that worlds list are named and their own, and whether each named type that these or the worlds' functions reach is
-- listed too.
use Rattle.std.specs.Prelude.{◌≡◌, ℕ, zero, suc, Bool, true, false, ◌&&◌, ◌||◌, ◌==◌, List, length, Option, None, Some, is_none, is_some, slice_get}
use Rattle.std.specs.List.{enumerate_from, list_all, list_any, slice_index_or}
use Rattle.wit_model.specs.declared.name.TypeId.{TypeId}
use Rattle.wit_model.specs.declared.resolve.Resolve.{Resolve}
use Rattle.wit_model.specs.declared.types.TypeDef.{TypeDef}
use Rattle.wit_model.specs.declared.types.TypeOwner.{TypeOwner}
use Rattle.wit_model.specs.declared.types.TypeOwner.TheVariants as owner
use Rattle.wit_model.specs.declared.types.WitType.{WitType}
use Rattle.wit_model.specs.declared.types.WitType.TheVariants.{Id}
use Rattle.wit_model.specs.declared.world.World.{World}
use Rattle.wit_model.specs.Parts.{parts}
use Rattle.type_defs.specs.FunctionTypes.{functions_pass, passes_or_none}
use Rattle.type_defs.specs.ListedTypes.{listed_types}
use Rattle.type_defs.specs.Levels.{is_deeper}

abbrev pub owns : ℕ → TypeOwner → Bool
owns world (owner.World id) = id.0 == world
owns world _ = false

-- a type that a world may list has a name, and the world owns it
abbrev pub may_list : ℕ → Option TypeDef → Bool
may_list world None = false
may_list world (Some t) = is_some t.name && owns world t.owner

abbrev pub lists : List TypeId → ℕ → Bool
lists listed nth = list_any (λ id. id.0 == nth) listed

-- a place of the table whose entry is listed if it has a name, and whose parts pass a test
abbrev pub covers : (WitType → Bool) → List TypeId → ℕ → Option TypeDef → Bool
covers test listed nth None = false
covers test listed nth (Some t) = (is_none t.name || lists listed nth) && list_all (passes_or_none test) (parts t.kind)

-- each type with a name is listed, on ways down of so many entries
abbrev pub is_covered : List TypeDef → List TypeId → ℕ → WitType → Bool
is_covered types listed zero ty = true
is_covered types listed (suc n) (Id id) = covers (is_covered types listed n) listed id.0 (slice_get types id.0)
is_covered types listed (suc n) ty = true

-- no way down has as many entries, so these are all that a type reaches
abbrev pub depth : List TypeDef → ℕ
depth types = suc (length types)

abbrev pub is_covered_whole : List TypeDef → List TypeId → WitType → Bool
is_covered_whole types listed ty = is_covered types listed (depth types) ty

abbrev pub are_listed : List TypeDef → ℕ → List TypeId → Bool
are_listed types nth listed = list_all (λ id. may_list nth (slice_get types id.0) && is_covered_whole types listed (Id id)) listed

-- of the world at a place: what it lists itself, and what its functions name
unfoldable pub keeps_listing : List TypeDef → ℕ → World → Bool
keeps_listing types nth world = are_listed types nth (listed_types world) && functions_pass (is_covered_whole types (listed_types world)) world

unfoldable pub are_listed_well : Resolve → Bool
are_listed_well r = list_all (λ entry. keeps_listing r.types entry.0 entry.1) (enumerate_from 0 r.worlds)

-- what is kept for that: of each type so far, whether it is covered

abbrev pub covered_by : List Bool → Option WitType → Bool
covered_by known (Some (Id id)) = slice_index_or known id.0 false
covered_by known _ = true

abbrev pub AreCovered : List TypeDef → List TypeId → List Bool → Type 0
AreCovered types listed known =
    (id : TypeId) (covered : Bool) → slice_get known id.0 ≡ Some covered → (n : ℕ) → is_deeper types n (Id id) ≡ false → is_covered types listed n (Id id) ≡ covered
