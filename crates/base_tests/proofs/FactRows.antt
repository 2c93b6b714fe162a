-- Which facts hold of each type of a world, and which lists can be lent as the memory in which they lie, by rows.
use Rattle.std.proofs.Common.{◌≡◌, ℕ, ◌<◌, Bool, true, false, cond, eqb, List, [], ◌∷◌, map, length, take, None, Some, refl, Decides}
use Rattle.std.specs.List.{enumerate_from, list_any}
use Rattle.wit_model.specs.declared.function.Function.{Function}
use Rattle.wit_model.specs.declared.function.FunctionKind.TheVariants.{Freestanding}
use Rattle.wit_model.specs.declared.name.InterfaceId.{InterfaceId}
use Rattle.wit_model.specs.declared.name.WorldId.{WorldId}
use Rattle.wit_model.specs.declared.resolve.Resolve.{Resolve}
use Rattle.wit_model.specs.declared.types.TypeDef.{TypeDef}
use Rattle.wit_model.specs.declared.types.WitType.{WitType}
use Rattle.wit_model.specs.declared.types.WitType.TheVariants as wit
use Rattle.wit_model.specs.declared.world.Interface.{Interface}
use Rattle.wit_model.specs.declared.world.WorldItem.TheVariants as item
use Rattle.wit_model.specs.declared.world.WorldKey.TheVariants as key
use Rattle.wit_model.specs.Dealias.{dealias}
use Rattle.wit_model.specs.IndexRange.{first_out_of_range, function_in_range, function_kind_in_range, interface_in_range, item_in_range, key_in_range, listed_in_range, owner_in_range, owning_package_in_range, type_def_in_range, world_in_range}
use Rattle.wit_model.specs.MapKey.{first_bad_key, has_good_key, is_key}
use Rattle.wit_model.specs.Members.{first_without_members, has_members}
use Rattle.wit_model.specs.Numbered.{function_numbered, interface_numbered, is_numbered, is_short, item_numbered, kind_numbered, listed_numbered, tables_short, world_numbered}
use Rattle.wit_model.specs.Parts.{parts}
use Rattle.wit_model.specs.TypeOrder.{GoesDown, first_out_of_order, parts_below, payload_below, type_below}
use Rattle.wit_model.specs.WellFormed.{IsWellFormed, first_fault}
use Rattle.wit_model.proofs.WellFormedLemmas.{types_go_down}
use Rattle.type_facts.specs.declared.info.TypeInfo.{TypeInfo}
use Rattle.type_facts.specs.Facts.{IsCanonical, IsInfoOf}
use Rattle.type_facts.specs.Roots.{Roots, world_roots}
use Rattle.type_facts.proofs.Analysing.{primitive_canonical}
use Rattle.base_tests.proofs.FoundFacts.{canonical_row, error_row, has_row, use_row}
use Rattle.base_tests.proofs.Sample.{any_package, entry, no_docs, no_name, package_id, type_id, types}

-- 1. The tables

abbrev among : List ℕ → ℕ → Bool
among places n = list_any (eqb n) places

-- the first fourteen types of the table that has each kind; seven of them have a name
abbrev table : List TypeDef
table =
    map (λ at. record at.1 { name = cond (among (0 ∷ 1 ∷ 3 ∷ 7 ∷ 8 ∷ 9 ∷ 10 ∷ []) at.0) (Some no_name) None })
    (enumerate_from 0 (take 14 types))

-- a function that takes a type and gives one
abbrev function : WitType → WitType → Function
function ty answer = record {
  name = no_name;
  kind = Freestanding;
  params = record { name = no_name; ty = ty } ∷ [];
  result = Some answer;
  docs = no_docs;
}

abbrev interface : Function → Interface
interface f = record { name = None; «package» = None; types = []; functions = f ∷ []; docs = no_docs }

abbrev first_interface : InterfaceId
first_interface = record { 0 = 0 }

-- the world imports interface 0, and exports a function that takes type 8 and gives a number; no world lists interface 1
abbrev sample : Resolve
sample = record {
  worlds =
      record {
        name = no_name;
        «package» = package_id 0;
        imports = (key.Interface first_interface, item.Interface first_interface) ∷ [];
        exports = (key.Name no_name, item.Function (function (entry 8) wit.U32)) ∷ [];
      }
      ∷ [];
  packages = any_package ∷ [];
  interfaces = interface (function (entry 7) (entry 11)) ∷ interface (function (entry 1) (entry 1)) ∷ [];
  types = table;
}

abbrev first_world : WorldId
first_world = record { 0 = 0 }

-- the tables keep the rules, as an analysis requires
well_formed : IsWellFormed sample
unfolding first_fault first_out_of_range type_def_in_range owner_in_range interface_in_range owning_package_in_range function_in_range function_kind_in_range key_in_range item_in_range listed_in_range world_in_range first_out_of_order parts_below payload_below type_below parts first_without_members has_members first_bad_key has_good_key is_key dealias is_numbered tables_short is_short interface_numbered function_numbered kind_numbered world_numbered listed_numbered item_numbered
well_formed = record { unbroken = refl; numbered = refl }

fourteen : length table ≡ 14
fourteen = refl

down : GoesDown table
down = types_go_down sample well_formed.unbroken

-- 2. The facts of each type

-- of each fact, the types that have it
abbrev wanted : ℕ → TypeInfo
wanted n = record {
  borrowed = among (0 ∷ 3 ∷ 7 ∷ []) n;
  owned = among (0 ∷ 3 ∷ 7 ∷ 8 ∷ 9 ∷ 10 ∷ []) n;
  error = among (9 ∷ []) n;
  has_list = among (1 ∷ 2 ∷ 6 ∷ 7 ∷ 11 ∷ 12 ∷ []) n;
  has_resource = among (3 ∷ 4 ∷ 5 ∷ 7 ∷ 8 ∷ 11 ∷ []) n;
  has_tuple = among (6 ∷ []) n;
  has_borrow_handle = among (5 ∷ 8 ∷ []) n;
  has_own_handle = among (4 ∷ 7 ∷ 11 ∷ []) n;
}

abbrev roots : Roots
roots = world_roots sample first_world

-- these facts are an answer, and each is settled both ways, so there is no other answer
each_type : (n : ℕ) → n < 14 → IsInfoOf sample first_world (type_id n) (wanted n)
unfolding world_roots dealias parts type_below
each_type n within = record {
  borrowed = use_row table down 14 (λ m. (wanted m).borrowed) roots.borrowed refl refl n within;
  owned = use_row table down 14 (λ m. (wanted m).owned) roots.owned refl refl n within;
  error = error_row table down 14 (λ m. (wanted m).error) roots.error refl n within;
  has_list = has_row table down 14 (λ m. (wanted m).has_list) (λ r. r.list) refl n within;
  has_resource = has_row table down 14 (λ m. (wanted m).has_resource) (λ r. r.resource) refl n within;
  has_tuple = has_row table down 14 (λ m. (wanted m).has_tuple) (λ r. r.tuple) refl n within;
  has_borrow_handle = has_row table down 14 (λ m. (wanted m).has_borrow_handle) (λ r. r.borrow_handle) refl n within;
  has_own_handle = has_row table down 14 (λ m. (wanted m).has_own_handle) (λ r. r.own_handle) refl n within;
}

-- 3. Which lists are canonical: of a record of numbers, of a list of a fixed length of them, of a number, and of no bool

of_entries : (n : ℕ) → n < 14 → Decides (among (0 ∷ 13 ∷ []) n) (IsCanonical table (entry n))
unfolding parts
of_entries = canonical_row table down 14 (among (0 ∷ 13 ∷ [])) refl

of_numbers : IsCanonical table wit.U8
of_numbers = (primitive_canonical table wit.U8 (λ id e. cc)).0 refl

of_bools : ¬ IsCanonical table wit.Bool
of_bools is = let none : false ≡ true = (primitive_canonical table wit.Bool (λ id e. cc)).1 is in cc
