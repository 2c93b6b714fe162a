-- What a type reaches is what it is by itself, or what its parts reach.
use Rattle.std.proofs.Common.{◌≡◌, ℕ, zero, suc, ◌+◌, ◌∙◌, ◌↔◌, Bool, true, false, ◌||◌, inl, inr, List, [], ◌∷◌, ◌++◌, length, drop, get_or, Option, Some, None, refl, sym, ap, subst}
use Rattle.std.specs.List.{slice_get}
use Rattle.std.proofs.Math.Bool.{or_assoc, or-false}
use Rattle.std.proofs.lemmas.Bool.{or_left, or_right}
use Rattle.std.proofs.lemmas.Option.{slice_get-get_or}
use Rattle.wit_model.specs.declared.name.TypeId.{TypeId}
use Rattle.wit_model.specs.declared.types.WitType.{WitType}
use Rattle.wit_model.specs.declared.types.WitType.TheVariants.{Id}
use Rattle.wit_model.specs.declared.types.TypeDefKind.{TypeDefKind}
use Rattle.wit_model.specs.declared.types.TypeDef.{TypeDef}
use Rattle.wit_model.specs.Parts.{parts}
use Rattle.wit_model.specs.Reaches.{Names, Reaches, reaches_itself, reaches_by}
use Rattle.wit_model.specs.TypeOrder.{type_below, payload_below, parts_below, GoesDown}
use Rattle.wit_model.proofs.AllLemmas.{all_at}
use Rattle.wit_model.proofs.BelowLemmas.{id_below}
use Rattle.wit_model.proofs.ReachLemmas.{reaches_cases}
use Rattle.type_facts.specs.declared.reach.Reach.{Reach}
use Rattle.type_facts.specs.Facts.{Has}
use Rattle.type_facts.specs.Own.{own, own_of_kind, own_of_entry, nothing}
use Rattle.type_facts.specs.Passes.{join, reach_of, reach_of_part, reach_of_parts, reach_of_kind, IsReach, AreReaches}
use Rattle.wit_model.proofs.ListLemmas.{at_end, drop_at}

join-assoc : (a b c : Reach) → join a (join b c) ≡ join (join a b) c
join-assoc a b c =
    cc (or_assoc a.list b.list c.list, or_assoc a.resource b.resource c.resource, or_assoc a.tuple b.tuple c.tuple, or_assoc a.borrow_handle b.borrow_handle c.borrow_handle, or_assoc a.own_handle b.own_handle c.own_handle, or_assoc a.other b.other c.other)

spelled : (a : Reach) → join a nothing ≡ record { list = a.list; resource = a.resource; tuple = a.tuple; borrow_handle = a.borrow_handle; own_handle = a.own_handle; other = a.other }
spelled a =
    cc (or-false a.list, or-false a.resource, or-false a.tuple, or-false a.borrow_handle, or-false a.own_handle, or-false a.other)

pub join-nothing : (a : Reach) → join a nothing ≡ a
join-nothing a = spelled a

-- one part of the rest is taken into the sum
pub join_next : (known : List Reach) (sum : Reach) (ps : List (Option WitType)) (nth : ℕ) (part : Option WitType) → slice_get ps nth ≡ Some part
    → join (join sum (reach_of_part known part)) (reach_of_parts known (drop (nth + 1) ps)) ≡ join sum (reach_of_parts known (drop nth ps))
join_next known sum ps nth part e =
    sym (ap (λ rest. join sum (reach_of_parts known rest)) (drop_at ps nth part e) ∙ join-assoc sum (reach_of_part known part) (reach_of_parts known (drop (nth + 1) ps)))

pub part_below : (k : ℕ) (kind : TypeDefKind) (nth : ℕ) (ty : WitType) → parts_below k kind ≡ true → slice_get (parts kind) nth ≡ Some (Some ty) → type_below k ty ≡ true
unfolding parts_below payload_below
part_below k kind nth ty h e = all_at (λ part. payload_below k part) (parts kind) nth (Some ty) h e

-- either of two tests passes
from_or : (P : Type 0) (a b : Bool) → (a || b) ≡ true → (a ≡ true → P) → (b ≡ true → P) → P
from_or P true b h left right = left refl
from_or P false b h left right = right h

-- a primitive reaches itself alone
pub primitive_exact : (types : List TypeDef) (is_so : Reach → Bool) (ty : WitType) → ((id : TypeId) → ty ≡ Id id → ⊥) → (is_so (own types ty) ≡ true) ↔ Has types is_so ty
primitive_exact types is_so ty none = (
  λ h. record { part = ty; reached = reaches_itself; so = h },
  λ has. reaches_cases (is_so (own types ty) ≡ true) has.reached (λ e. subst (λ t. is_so (own types t) ≡ true) (sym e) has.so) (λ part names rest. absurd (none names.id names.is_entry)),
)

module _ (types : List TypeDef) (down : GoesDown types) (is_so : Reach → Bool)
    (is_so_joined : (a b : Reach) → is_so (join a b) ≡ (is_so a || is_so b)) (is_so_nothing : is_so nothing ≡ false) where
  abbrev Exact : WitType → Reach → Type 0
  Exact ty reach = (is_so reach ≡ true) ↔ Has types is_so ty

  abbrev AreExact : List Reach → Type 0
  AreExact known = (id : TypeId) (reach : Reach) → slice_get known id.0 ≡ Some reach → Exact (Id id) reach

  module _ (known : List Reach) (exact : AreExact known) where
    known_exact : (ty : WitType) → type_below (length known) ty ≡ true → Exact ty (reach_of known ty)
    known_exact (Id id) below = exact id (get_or known id.0 nothing) (slice_get-get_or known id.0 nothing (id_below (length known) id below))
    known_exact ty below = primitive_exact types is_so ty (λ id e. cc)

    -- a part with the fact, out of those that are known to have it
    any_part : (ps : List (Option WitType)) → is_so (reach_of_parts known ps) ≡ true
        → (nth : ℕ) × (ty : WitType) × (slice_get ps nth ≡ Some (Some ty)) × (is_so (reach_of known ty) ≡ true)
    any_part [] h = let not_so : false ≡ true = sym is_so_nothing ∙ h in cc
    any_part (None ∷ ps) h =
        let rest = any_part ps (from_or _ (is_so nothing) (is_so (reach_of_parts known ps)) (sym (is_so_joined nothing (reach_of_parts known ps)) ∙ h) (λ so. absurd (let not_so : false ≡ true = sym is_so_nothing ∙ so in cc)) (λ so. so)) in
        (suc rest.0, rest.1, rest.2, rest.3)
    any_part (Some ty ∷ ps) h =
        from_or _ (is_so (reach_of known ty)) (is_so (reach_of_parts known ps)) (sym (is_so_joined (reach_of known ty) (reach_of_parts known ps)) ∙ h)
        (λ so. (0, ty, refl, so))
        (λ so. let rest = any_part ps so in (suc rest.0, rest.1, rest.2, rest.3))

    some_part : (ps : List (Option WitType)) (nth : ℕ) (ty : WitType) → slice_get ps nth ≡ Some (Some ty) → is_so (reach_of known ty) ≡ true
        → is_so (reach_of_parts known ps) ≡ true
    some_part [] nth ty e so = cc
    some_part (p ∷ ps) zero ty e so =
        let same : p ≡ Some ty = cc in
        is_so_joined (reach_of_part known p) (reach_of_parts known ps) ∙ or_left _ _ (ap (λ q. is_so (reach_of_part known q)) same ∙ so)
    some_part (p ∷ ps) (suc nth) ty e so =
        is_so_joined (reach_of_part known p) (reach_of_parts known ps) ∙ or_right _ _ (some_part ps nth ty e so)

    module _ (id : TypeId) (entry : TypeDef) (at : slice_get types id.0 ≡ Some entry) (count : length known ≡ id.0) where
      below : (nth : ℕ) (ty : WitType) → slice_get (parts entry.kind) nth ≡ Some (Some ty) → type_below (length known) ty ≡ true
      below nth ty e = subst (λ n. type_below n ty ≡ true) (sym count) (part_below id.0 entry.kind nth ty (down id.0 entry at) e)

      by_itself : is_so (own_of_kind entry.kind) ≡ true → Has types is_so (Id id)
      by_itself so = record { part = Id id; reached = reaches_itself; so = ap (λ o. is_so (own_of_entry o)) at ∙ so }

      by_part : (nth : ℕ) (ty : WitType) → slice_get (parts entry.kind) nth ≡ Some (Some ty) → is_so (reach_of known ty) ≡ true → Has types is_so (Id id)
      by_part nth ty e so =
          let has : Has types is_so ty = (known_exact ty (below nth ty e)).0 so in
          record {
            part = has.part;
            reached = reaches_by (record { id = id; entry = entry; nth = nth; is_entry = refl; entry_at = at; part_at = e }) has.reached;
            so = has.so;
          }

      from_itself : (part : WitType) → Id id ≡ part → is_so (own types part) ≡ true → is_so (own_of_kind entry.kind) ≡ true
      from_itself part e so = sym (ap (λ o. is_so (own_of_entry o)) at) ∙ subst (λ t. is_so (own types t) ≡ true) (sym e) so

      from_part : (part target : WitType) → Names types (Id id) part → Reaches types part target → is_so (own types target) ≡ true
          → is_so (reach_of_parts known (parts entry.kind)) ≡ true
      from_part part target names rest so =
          let same : id ≡ names.id = cc in
          let named : entry ≡ names.entry = let there : slice_get types id.0 ≡ Some names.entry = ap (λ (i : TypeId). slice_get types i.0) same ∙ names.entry_at in cc in
          let e : slice_get (parts entry.kind) names.nth ≡ Some (Some part) = ap (λ (t : TypeDef). slice_get (parts t.kind) names.nth) named ∙ names.part_at in
          some_part (parts entry.kind) names.nth part e ((known_exact part (below names.nth part e)).1 (record { part = target; reached = rest; so = so }))

      pub next_exact : Exact (Id id) (reach_of_kind known entry.kind)
      unfolding reach_of_kind
      next_exact = (
        λ h. from_or (Has types is_so (Id id)) (is_so (own_of_kind entry.kind)) (is_so (reach_of_parts known (parts entry.kind))) (sym (is_so_joined (own_of_kind entry.kind) (reach_of_parts known (parts entry.kind))) ∙ h)
            by_itself
            (λ so. let found = any_part (parts entry.kind) so in by_part found.0 found.1 found.2 found.3),
        λ has. is_so_joined (own_of_kind entry.kind) (reach_of_parts known (parts entry.kind))
            ∙ reaches_cases ((is_so (own_of_kind entry.kind) || is_so (reach_of_parts known (parts entry.kind))) ≡ true) has.reached
            (λ e. or_left _ _ (from_itself has.part e has.so))
            (λ part names rest. or_right _ _ (from_part part has.part names rest has.so)),
      )

-- the next entry, by those before it
pub next_reach : (types : List TypeDef) → GoesDown types → (known : List Reach) → AreReaches types known → (id : TypeId) (entry : TypeDef)
    → slice_get types id.0 ≡ Some entry → length known ≡ id.0 → IsReach types (Id id) (reach_of_kind known entry.kind)
next_reach types down known are id entry at count = record {
  list = next_exact types down (λ r. r.list) (λ a b. refl) refl known (λ i r e. (are i r e).list) id entry at count;
  resource = next_exact types down (λ r. r.resource) (λ a b. refl) refl known (λ i r e. (are i r e).resource) id entry at count;
  tuple = next_exact types down (λ r. r.tuple) (λ a b. refl) refl known (λ i r e. (are i r e).tuple) id entry at count;
  borrow_handle = next_exact types down (λ r. r.borrow_handle) (λ a b. refl) refl known (λ i r e. (are i r e).borrow_handle) id entry at count;
  own_handle = next_exact types down (λ r. r.own_handle) (λ a b. refl) refl known (λ i r e. (are i r e).own_handle) id entry at count;
  other = next_exact types down (λ r. r.other) (λ a b. refl) refl known (λ i r e. (are i r e).other) id entry at count;
}

pub reaches_more : (types : List TypeDef) → GoesDown types → (known : List Reach) → AreReaches types known → (n : ℕ) (entry : TypeDef)
    → slice_get types n ≡ Some entry → length known ≡ n → AreReaches types (known ++ reach_of_kind known entry.kind ∷ [])
reaches_more types down known are n entry at count id reach e =
    elim (at_end known (reach_of_kind known entry.kind) id.0 reach e) [
      | inl before ↦ are id reach before
      | inr last ↦ subst (λ r. IsReach types (Id id) r) last.1 (next_reach types down known are id entry (ap (slice_get types) (last.0 ∙ count) ∙ at) (sym last.0))
    ]
