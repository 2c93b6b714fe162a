-- Marks of roots, one part of a world after the other.
use Rattle.std.proofs.Common.{◌≡◌, ℕ, ◌+◌, ◌<◌, ◌∙◌, ◌↔◌, inl, inr, Bool, true, false, List, length, drop, replicate, Some, sym, ap, subst, arith}
use Rattle.std.specs.List.{Contains, slice_get}
use Rattle.std.proofs.lemmas.Bool.{cases_lt}
use Rattle.std.proofs.lemmas.List.{get_or-replicate, get_or_past, length-replicate}
use Rattle.std.proofs.lemmas.Option.{slice_get_within}
use Rattle.wit_model.specs.declared.name.TypeId.{TypeId}
use Rattle.wit_model.specs.declared.name.WorldId.{WorldId}
use Rattle.wit_model.specs.declared.types.WitType.{WitType}
use Rattle.wit_model.specs.declared.types.WitType.TheVariants.{Id}
use Rattle.wit_model.specs.Reaches.{Reaches}
use Rattle.wit_model.proofs.ReachLemmas.{reaches_cases}
use Rattle.wit_model.specs.declared.function.Function.{Function}
use Rattle.wit_model.specs.declared.types.TypeDef.{TypeDef}
use Rattle.wit_model.specs.declared.world.WorldKey.{WorldKey}
use Rattle.wit_model.specs.declared.world.WorldItem.{WorldItem}
use Rattle.wit_model.specs.declared.resolve.Resolve.{Resolve}
use Rattle.type_facts.specs.declared.side.Side.{Side}
use Rattle.type_facts.specs.declared.uses.Uses.{Uses}
use Rattle.type_facts.specs.Facts.{IsReachedFrom}
use Rattle.type_facts.specs.Passes.{mark_all, with_marked, no_uses, IsMarked, Spreads, AreUses}
use Rattle.type_facts.specs.Roots.{Roots, both, function_roots, functions_roots, item_roots, listed_roots, world_roots}
use Rattle.type_facts.proofs.Marking.{all_marked, all_there, length-mark_all, mark_all-append}
use Rattle.type_facts.proofs.Spreading.{same_id}
use Rattle.wit_model.proofs.ListLemmas.{drop_at}

pub with_marked-both : (uses : Uses) (a b : Roots) → with_marked uses (both a b) ≡ with_marked (with_marked uses a) b
with_marked-both uses a b =
    cc (mark_all-append uses.borrowed a.borrowed b.borrowed, mark_all-append uses.owned a.owned b.owned, mark_all-append uses.error a.error b.error)

-- one function, one entry of those that are left
pub function_next : (types : List TypeDef) (side : Side) (uses : Uses) (fs : List Function) (n : ℕ) (f : Function) → slice_get fs n ≡ Some f
    → with_marked (with_marked uses (function_roots types side f)) (functions_roots types side (drop (n + 1) fs)) ≡ with_marked uses (functions_roots types side (drop n fs))
function_next types side uses fs n f e =
    sym (ap (λ rest. with_marked uses (functions_roots types side rest)) (drop_at fs n f e) ∙ with_marked-both uses (function_roots types side f) (functions_roots types side (drop (n + 1) fs)))

pub entry_next : (r : Resolve) (side : Side) (uses : Uses) (listed : List (WorldKey × WorldItem)) (n : ℕ) (entry : WorldKey × WorldItem) → slice_get listed n ≡ Some entry
    → with_marked (with_marked uses (item_roots r side entry.1)) (listed_roots r side (drop (n + 1) listed)) ≡ with_marked uses (listed_roots r side (drop n listed))
entry_next r side uses listed n entry e =
    sym (ap (λ rest. with_marked uses (listed_roots r side rest)) (drop_at listed n entry e) ∙ with_marked-both uses (item_roots r side entry.1) (listed_roots r side (drop (n + 1) listed)))

-- a count of marks, none of which is set
unmarked : (count n : ℕ) → IsMarked (replicate count false) n → ⊥
unmarked count n h =
    elim (cases_lt n count) [
      | inl within ↦ let none : true ≡ false = sym h ∙ get_or-replicate count n false false within in cc
      | inr past ↦ let none : true ≡ false = sym h ∙ get_or_past (replicate count false) n false (let len : length (replicate count false) ≡ count = length-replicate count false in omega arith) in cc
    ]

-- the marks of some types, and no others
module _ (count : ℕ) (tys : List WitType) where
  abbrev marks : List Bool
  marks = mark_all (replicate count false) tys

  pub length-marks : length marks ≡ count
  length-marks = length-mark_all (replicate count false) tys ∙ length-replicate count false

  pub marked_only : (id : TypeId) → IsMarked marks id.0 → Contains tys (Id id)
  marked_only id h =
      elim (all_marked (replicate count false) tys id.0 h) [
        | inl before ↦ absurd (unmarked count id.0 before)
        | inr here ↦ subst (λ (i : TypeId). Contains tys (Id i)) (same_id here.0 id here.2) here.1
      ]

  pub marked_each : (id : TypeId) → Contains tys (Id id) → id.0 < count → IsMarked marks id.0
  marked_each id among within = all_there (replicate count false) tys id among (subst (λ n. id.0 < n) (sym (length-replicate count false)) within)

module _ (types : List TypeDef) (roots : List WitType) (new : List Bool) (spread : Spreads types (mark_all (replicate (length types) false) roots) new) where
  from_root : (id : TypeId) → IsMarked new id.0 → IsReachedFrom types roots (Id id)
  from_root id h =
      let source = spread.reached id h in
      record { root = Id source.0; is_root = marked_only (length types) roots source.0 source.1; reached = source.2 }

  -- a root that reaches a type of the table is one itself
  root_in_table : (root : WitType) (id : TypeId) → Reaches types root (Id id) → id.0 < length types → (from : TypeId) × (root ≡ Id from) × (from.0 < length types)
  root_in_table root id reached within =
      reaches_cases ((from : TypeId) × (root ≡ Id from) × (from.0 < length types)) reached
      (λ e. (id, e, within))
      (λ part names rest. (names.id, names.is_entry, slice_get_within types names.id.0 names.entry names.entry_at))

  to_marked : (id : TypeId) → id.0 < length types → IsReachedFrom types roots (Id id) → IsMarked new id.0
  to_marked id within from =
      let source = root_in_table from.root id from.reached within in
      let is_root : Contains roots (Id source.0) = subst (Contains roots) source.1 from.is_root in
      let reached : Reaches types (Id source.0) (Id id) = subst (λ root. Reaches types root (Id id)) source.1 from.reached in
      spread.marked source.0 id (marked_each (length types) roots source.0 is_root source.2) reached

  pub spread_exact : (id : TypeId) → id.0 < length types → IsMarked new id.0 ↔ IsReachedFrom types roots (Id id)
  spread_exact id within = (from_root id, to_marked id within)

-- the uses of a world, once the marks of its roots have spread
pub uses_exact : (r : Resolve) (world : WorldId) (uses : Uses) (borrowed owned : List Bool) → uses ≡ with_marked (no_uses (length r.types)) (world_roots r world)
    → Spreads r.types uses.borrowed borrowed → Spreads r.types uses.owned owned → AreUses r world (record { borrowed = borrowed; owned = owned; error = uses.error })
uses_exact r world uses borrowed owned e b o = record {
  borrowed = spread_exact r.types (world_roots r world).borrowed borrowed (subst (λ (u : Uses). Spreads r.types u.borrowed borrowed) e b);
  owned = spread_exact r.types (world_roots r world).owned owned (subst (λ (u : Uses). Spreads r.types u.owned owned) e o);
  error = λ id within. (
    λ h. marked_only (length r.types) (world_roots r world).error id (subst (λ (u : Uses). IsMarked u.error id.0) e h),
    λ among. subst (λ (u : Uses). IsMarked u.error id.0) (sym e) (marked_each (length r.types) (world_roots r world).error id among within),
  );
}
