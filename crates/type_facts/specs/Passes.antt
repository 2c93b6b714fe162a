-- What the passes over the table compute from what they know of lower types, and from marks.
use Rattle.std.specs.Prelude.{◌≡◌, ℕ, ◌<◌, ◌↔◌, Bool, true, false, not, ◌&&◌, ◌||◌, is_some, replicate, Contains, List, [], ◌∷◌, length, Option, None, Some, slice_get, slice_index_or, slice_set, if◌then◌else◌}
use Rattle.std.specs.Option.{option_to_list}
use Rattle.wit_model.specs.declared.name.TypeId.{TypeId}
use Rattle.wit_model.specs.declared.types.WitType.{WitType}
use Rattle.wit_model.specs.declared.types.WitType.TheVariants.{Id}
use Rattle.wit_model.specs.declared.types.TypeDefKind.{TypeDefKind}
use Rattle.wit_model.specs.declared.types.TypeDef.{TypeDef}
use Rattle.wit_model.specs.Parts.{parts}
use Rattle.wit_model.specs.Reaches.{Reaches}
use Rattle.wit_model.specs.declared.name.WorldId.{WorldId}
use Rattle.wit_model.specs.declared.resolve.Resolve.{Resolve}
use Rattle.type_facts.specs.declared.reach.Reach.{Reach}
use Rattle.type_facts.specs.declared.types.Entry.{Entry}
use Rattle.type_facts.specs.declared.uses.Uses.{Uses}
use Rattle.type_facts.specs.Facts.{Has, IsReachedFrom}
use Rattle.type_facts.specs.Roots.{Roots, world_roots}
use Rattle.type_facts.specs.Own.{own_of_primitive, own_of_kind, nothing}

-- what either is
abbrev pub join : Reach → Reach → Reach
join a b = record {
  list = a.list || b.list;
  resource = a.resource || b.resource;
  tuple = a.tuple || b.tuple;
  borrow_handle = a.borrow_handle || b.borrow_handle;
  own_handle = a.own_handle || b.own_handle;
  other = a.other || b.other;
}

-- what a type reaches, by what the entries before it reach
abbrev pub reach_of : List Reach → WitType → Reach
reach_of known (Id id) = slice_index_or known id.0 nothing
reach_of known ty = own_of_primitive ty

abbrev pub reach_of_part : List Reach → Option WitType → Reach
reach_of_part known None = nothing
reach_of_part known (Some ty) = reach_of known ty

abbrev pub reach_of_parts : List Reach → List (Option WitType) → Reach
reach_of_parts known [] = nothing
reach_of_parts known (part ∷ rest) = join (reach_of_part known part) (reach_of_parts known rest)

unfoldable pub reach_of_kind : List Reach → TypeDefKind → Reach
reach_of_kind known kind = join (own_of_kind kind) (reach_of_parts known (parts kind))

-- exactly what a type reaches
pub record IsReach (types : List TypeDef) (ty : WitType) (reach : Reach) : Type 0 where
  pub list : (reach.list ≡ true) ↔ Has types (λ r. r.list) ty
  pub resource : (reach.resource ≡ true) ↔ Has types (λ r. r.resource) ty
  pub tuple : (reach.tuple ≡ true) ↔ Has types (λ r. r.tuple) ty
  pub borrow_handle : (reach.borrow_handle ≡ true) ↔ Has types (λ r. r.borrow_handle) ty
  pub own_handle : (reach.own_handle ≡ true) ↔ Has types (λ r. r.own_handle) ty
  pub other : (reach.other ≡ true) ↔ Has types (λ r. r.other) ty

-- the entries so far, each exactly what its type reaches
abbrev pub AreReaches : List TypeDef → List Reach → Type 0
AreReaches types known = (id : TypeId) (reach : Reach) → slice_get known id.0 ≡ Some reach → IsReach types (Id id) reach

-- the marks with that of a type set
abbrev pub mark : List Bool → WitType → List Bool
mark marks (Id id) = slice_set marks id.0 true
mark marks ty = marks

abbrev pub mark_all : List Bool → List WitType → List Bool
mark_all marks [] = marks
mark_all marks (ty ∷ tys) = mark_all (mark marks ty) tys

-- the same of a part or a result, where there is one
abbrev pub mark_part : List Bool → Option WitType → List Bool
mark_part marks part = mark_all marks (option_to_list part)

-- the parts that are there
abbrev pub given : List (Option WitType) → List WitType
given [] = []
given (None ∷ rest) = given rest
given (Some ty ∷ rest) = ty ∷ given rest

abbrev pub IsMarked : List Bool → ℕ → Type 0
IsMarked marks n = slice_index_or marks n false ≡ true

-- where an entry is marked, its parts are too
abbrev pub mark_from : List Bool → ℕ → TypeDefKind → List Bool
mark_from marks n kind = if slice_index_or marks n false then mark_all marks (given (parts kind)) else marks

-- exactly what is reached from marked types is marked
pub record Spreads (types : List TypeDef) (old new : List Bool) : Type 0 where
  pub count : length new ≡ length old
  pub reached : (id : TypeId) → IsMarked new id.0 → (from : TypeId) × IsMarked old from.0 × Reaches types (Id from) (Id id)
  pub marked : (from id : TypeId) → IsMarked old from.0 → Reaches types (Id from) (Id id) → IsMarked new id.0

-- the uses with the roots of a part of the world marked
abbrev pub with_marked : Uses → Roots → Uses
with_marked uses roots = record {
  borrowed = mark_all uses.borrowed roots.borrowed;
  owned = mark_all uses.owned roots.owned;
  error = mark_all uses.error roots.error;
}

abbrev pub no_uses : ℕ → Uses
no_uses count = record { borrowed = replicate count false; owned = replicate count false; error = replicate count false }

-- exactly the types that are used so are marked
pub record AreUses (r : Resolve) (world : WorldId) (uses : Uses) : Type 0 where
  pub borrowed : (id : TypeId) → id.0 < length r.types → IsMarked uses.borrowed id.0 ↔ IsReachedFrom r.types (world_roots r world).borrowed (Id id)
  pub owned : (id : TypeId) → id.0 < length r.types → IsMarked uses.owned id.0 ↔ IsReachedFrom r.types (world_roots r world).owned (Id id)
  pub error : (id : TypeId) → id.0 < length r.types → IsMarked uses.error id.0 ↔ Contains (world_roots r world).error (Id id)

-- the entry of a type, by whether it has a name, what it reaches and how it is used
abbrev pub entry_of : Bool → Reach → Uses → ℕ → Entry
entry_of is_named reach uses n = record {
  info = record {
    borrowed = is_named && slice_index_or uses.borrowed n false;
    owned = is_named && slice_index_or uses.owned n false;
    error = is_named && slice_index_or uses.error n false;
    has_list = reach.list;
    has_resource = reach.resource;
    has_tuple = reach.tuple;
    has_borrow_handle = reach.borrow_handle;
    has_own_handle = reach.own_handle;
  };
  is_canonical = not reach.other;
}

pub record IsEntry (types : List TypeDef) (reaches : List Reach) (uses : Uses) (n : ℕ) (entry : Entry) : Type 0 where
  pub type_def : TypeDef
  pub reach : Reach
  pub type_at : slice_get types n ≡ Some type_def
  pub reach_at : slice_get reaches n ≡ Some reach
  pub exact : entry ≡ entry_of (is_some type_def.name) reach uses n

abbrev pub AreEntries : List TypeDef → List Reach → Uses → List Entry → Type 0
AreEntries types reaches uses entries = (n : ℕ) (entry : Entry) → slice_get entries n ≡ Some entry → IsEntry types reaches uses n entry
