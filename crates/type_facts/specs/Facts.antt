-- Which facts hold of a type of the table, in a world.
use Rattle.std.specs.Prelude.{◌≡◌, ℕ, ◌↔◌, Bool, true, List, length, Some, slice_get, is_some, Contains}
use Rattle.wit_model.specs.declared.name.TypeId.{TypeId}
use Rattle.wit_model.specs.declared.name.WorldId.{WorldId}
use Rattle.wit_model.specs.declared.types.WitType.{WitType}
use Rattle.wit_model.specs.declared.types.WitType.TheVariants.{Id}
use Rattle.wit_model.specs.declared.types.TypeDef.{TypeDef}
use Rattle.wit_model.specs.declared.resolve.Resolve.{Resolve}
use Rattle.wit_model.specs.Reaches.{Reaches}
use Rattle.type_facts.specs.declared.info.TypeInfo.{TypeInfo}
use Rattle.type_facts.specs.declared.reach.Reach.{Reach}
use Rattle.type_facts.specs.declared.types.Entry.{Entry}
use Rattle.type_facts.specs.declared.types.Types.{Types}
use Rattle.type_facts.specs.Own.{own}
use Rattle.type_facts.specs.Roots.{world_roots}

-- it reaches a type that is so by itself
pub record Has (types : List TypeDef) (is_so : Reach → Bool) (ty : WitType) : Type 0 where
  pub part : WitType
  pub reached : Reaches types ty part
  pub so : is_so (own types part) ≡ true

-- it is reached from one of these types
pub record IsReachedFrom (types : List TypeDef) (roots : List WitType) (ty : WitType) : Type 0 where
  pub root : WitType
  pub is_root : Contains roots root
  pub reached : Reaches types root ty

pub record IsNamed (types : List TypeDef) (id : TypeId) : Type 0 where
  pub entry : TypeDef
  pub entry_at : slice_get types id.0 ≡ Some entry
  pub named : is_some entry.name ≡ true

-- a list of such values can be lent as the memory in which it lies: it reaches numbers, aliases, records and fixed-length
-- lists, and nothing else
abbrev pub IsCanonical : List TypeDef → WitType → Type 0
IsCanonical types ty = ¬ (Has types (λ r. r.other) ty)

-- each fact of a type, by what it reaches and from where it is reached
pub record IsInfoOf (r : Resolve) (world : WorldId) (id : TypeId) (info : TypeInfo) : Type 0 where
  pub borrowed : (info.borrowed ≡ true) ↔ (IsNamed r.types id × IsReachedFrom r.types (world_roots r world).borrowed (Id id))
  pub owned : (info.owned ≡ true) ↔ (IsNamed r.types id × IsReachedFrom r.types (world_roots r world).owned (Id id))
  pub error : (info.error ≡ true) ↔ (IsNamed r.types id × Contains (world_roots r world).error (Id id))
  pub has_list : (info.has_list ≡ true) ↔ Has r.types (λ r. r.list) (Id id)
  pub has_resource : (info.has_resource ≡ true) ↔ Has r.types (λ r. r.resource) (Id id)
  pub has_tuple : (info.has_tuple ≡ true) ↔ Has r.types (λ r. r.tuple) (Id id)
  pub has_borrow_handle : (info.has_borrow_handle ≡ true) ↔ Has r.types (λ r. r.borrow_handle) (Id id)
  pub has_own_handle : (info.has_own_handle ≡ true) ↔ Has r.types (λ r. r.own_handle) (Id id)

abbrev pub type_count : Types → ℕ
type_count types = length types.entries

-- the answer of the analysis of a world: each entry tells the facts of its type
pub record IsAnalysis (r : Resolve) (world : WorldId) (types : Types) : Type 0 where
  pub count : type_count types ≡ length r.types
  pub info_at : (id : TypeId) (entry : Entry) → slice_get types.entries id.0 ≡ Some entry → IsInfoOf r world id entry.info
  pub canonical_at : (id : TypeId) (entry : Entry) → slice_get types.entries id.0 ≡ Some entry → (entry.is_canonical ≡ true) ↔ IsCanonical r.types (Id id)

-- the analysis of some world of these tables
abbrev pub IsAnalyzed : Resolve → Types → Type 0
IsAnalyzed r types = (world : WorldId) × IsAnalysis r world types
