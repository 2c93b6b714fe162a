-- The entries of an analysis tell the facts of their types.
use Rattle.std.proofs.Common.{◌≡◌, ◌<◌, ◌∙◌, ◌↔◌, ◌&&◌, Bool, true, false, not, List, length, get_or, Some, refl, sym, ap, subst, arith}
use Rattle.std.specs.List.{slice_get}
use Rattle.std.specs.Option.{is_some}
use Rattle.std.proofs.Math.Bool.{not-not}
use Rattle.std.proofs.lemmas.Option.{slice_get_within, slice_get-get_or}
use Rattle.wit_model.specs.declared.name.TypeId.{TypeId}
use Rattle.wit_model.specs.declared.name.WorldId.{WorldId}
use Rattle.wit_model.specs.declared.types.WitType.{WitType}
use Rattle.wit_model.specs.declared.types.WitType.TheVariants.{Id}
use Rattle.wit_model.specs.declared.types.TypeDef.{TypeDef}
use Rattle.wit_model.specs.declared.resolve.Resolve.{Resolve}
use Rattle.wit_model.specs.IndexRange.{type_in_range}
use Rattle.wit_model.proofs.BelowLemmas.{id_below}
use Rattle.type_facts.specs.declared.reach.Reach.{Reach}
use Rattle.type_facts.specs.declared.types.Entry.{Entry}
use Rattle.type_facts.specs.declared.types.Types.{Types}
use Rattle.type_facts.specs.declared.uses.Uses.{Uses}
use Rattle.type_facts.specs.Facts.{Has, IsNamed, IsCanonical, IsInfoOf, IsAnalysis, IsAnalyzed}
use Rattle.type_facts.specs.Own.{own, is_number}
use Rattle.type_facts.specs.Passes.{AreReaches, AreUses, AreEntries, IsReach, IsEntry}
use Rattle.type_facts.proofs.Reaching.{primitive_exact}

both_of : (P Q : Type 0) (a b : Bool) → (a ≡ true) ↔ P → (b ≡ true) ↔ Q → ((a && b) ≡ true) ↔ (P × Q)
both_of P Q true b p q = (λ h. (p.0 refl, q.0 h), λ h. q.1 h.1)
both_of P Q false b p q = (λ h. cc, λ h. let none : false ≡ true = p.1 h.0 in cc)

none_of : (P : Type 0) (b : Bool) → (b ≡ true) ↔ P → (not b ≡ true) ↔ (P → ⊥)
none_of P true p = (λ h. cc, λ none. absurd (none (p.0 refl)))
none_of P false p = (λ h has. let no : false ≡ true = p.1 has in cc, λ none. refl)

named : (types : List TypeDef) (id : TypeId) (entry : TypeDef) → slice_get types id.0 ≡ Some entry → (is_some entry.name ≡ true) ↔ IsNamed types id
named types id entry at = (
  λ h. record { entry = entry; entry_at = at; named = h },
  λ is. let same : is.entry ≡ entry = cc in subst (λ (t : TypeDef). is_some t.name ≡ true) same is.named,
)

-- a primitive is canonical where it is a number
other_of : (types : List TypeDef) (ty : WitType) → ((id : TypeId) → ty ≡ Id id → ⊥) → (own types ty).other ≡ not (is_number ty)
other_of types (Id id) none = absurd (none id refl)
other_of types _ none = refl

pub primitive_canonical : (types : List TypeDef) (ty : WitType) → ((id : TypeId) → ty ≡ Id id → ⊥) → (is_number ty ≡ true) ↔ IsCanonical types ty
primitive_canonical types ty none =
    let exact = primitive_exact types (λ (r : Reach). r.other) ty none in
    let canonical = none_of (Has types (λ (r : Reach). r.other) ty) (own types ty).other exact in
    let same : not (own types ty).other ≡ is_number ty = ap not (other_of types ty none) ∙ not-not (is_number ty) in
    subst (λ b. (b ≡ true) ↔ IsCanonical types ty) same canonical

module _ (r : Resolve) (world : WorldId) (reaches : List Reach) (uses : Uses) (are_reaches : AreReaches r.types reaches) (are_uses : AreUses r world uses) where
  info_of : (id : TypeId) (entry : Entry) → IsEntry r.types reaches uses id.0 entry → IsInfoOf r world id entry.info
  info_of id entry is =
      let reach : IsReach r.types (Id id) is.reach = are_reaches id is.reach is.reach_at in
      let within : id.0 < length r.types = slice_get_within r.types id.0 is.type_def is.type_at in
      let name = named r.types id is.type_def is.type_at in
      subst (λ (e : Entry). IsInfoOf r world id e.info) (sym is.exact) (record {
        borrowed = both_of _ _ _ _ name (are_uses.borrowed id within);
        owned = both_of _ _ _ _ name (are_uses.owned id within);
        error = both_of _ _ _ _ name (are_uses.error id within);
        has_list = reach.list;
        has_resource = reach.resource;
        has_tuple = reach.tuple;
        has_borrow_handle = reach.borrow_handle;
        has_own_handle = reach.own_handle;
      })

  canonical_of : (id : TypeId) (entry : Entry) → IsEntry r.types reaches uses id.0 entry → (entry.is_canonical ≡ true) ↔ IsCanonical r.types (Id id)
  canonical_of id entry is =
      let reach : IsReach r.types (Id id) is.reach = are_reaches id is.reach is.reach_at in
      subst (λ (e : Entry). (e.is_canonical ≡ true) ↔ IsCanonical r.types (Id id)) (sym is.exact) (none_of _ is.reach.other reach.other)

  pub analysis_of : (types : Types) → length types.entries ≡ length r.types → AreEntries r.types reaches uses types.entries → IsAnalysis r world types
  analysis_of types count are = record {
    count = count;
    info_at = λ id entry at. info_of id entry (are id.0 entry at);
    canonical_at = λ id entry at. canonical_of id entry (are id.0 entry at);
  }

-- an id of the tables has an entry
pub entry_in : (r : Resolve) (types : Types) (entries : List Entry) (ty : WitType) (id : TypeId) → IsAnalyzed r types → type_in_range r ty ≡ true → ty ≡ Id id
    → entries ≡ types.entries → id.0 < length entries
entry_in r types entries ty id analyzed within is same =
    let inside : id.0 < length r.types = id_below (length r.types) id (subst (λ t. type_in_range r t ≡ true) is within) in
    let count : length types.entries ≡ length r.types = analyzed.1.count in
    let many : length entries ≡ length types.entries = ap length same in
    omega arith

pub canonical_entry : (r : Resolve) (types : Types) (entries : List Entry) (ty : WitType) (id : TypeId) (other : Entry) → IsAnalyzed r types → type_in_range r ty ≡ true → ty ≡ Id id
    → entries ≡ types.entries → ((get_or entries id.0 other).is_canonical ≡ true) ↔ IsCanonical r.types ty
canonical_entry r types entries ty id other analyzed within is same =
    let inside : id.0 < length entries = entry_in r types entries ty id analyzed within is same in
    let at : slice_get types.entries id.0 ≡ Some (get_or entries id.0 other) = ap (λ es. slice_get es id.0) (sym same) ∙ slice_get-get_or entries id.0 other inside in
    subst (λ t. ((get_or entries id.0 other).is_canonical ≡ true) ↔ IsCanonical r.types t) (sym is) (analyzed.1.canonical_at id (get_or entries id.0 other) at)
