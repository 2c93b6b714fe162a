-- Marks that spread downwards: from the highest type on, each marked type marks its parts.
use Rattle.std.proofs.Common.{◌≡◌, ℕ, suc, ◌<◌, ◌≤◌, ◌∙◌, ◌⊎◌, inl, inr, Bool, true, false, List, length, get_or, Some, refl, sym, ap, subst, arith, cond}
use Rattle.std.specs.List.{Contains, slice_get}
use Rattle.std.proofs.lemmas.Bool.{cases_lt}
use Rattle.std.proofs.lemmas.Option.{slice_get_within}
use Rattle.wit_model.specs.declared.name.TypeId.{TypeId}
use Rattle.wit_model.specs.declared.types.WitType.{WitType}
use Rattle.wit_model.specs.declared.types.WitType.TheVariants.{Id}
use Rattle.wit_model.specs.declared.types.TypeDef.{TypeDef}
use Rattle.wit_model.specs.Parts.{parts}
use Rattle.wit_model.specs.Reaches.{Names, Reaches, reaches_itself, reaches_by}
use Rattle.wit_model.specs.TypeOrder.{GoesDown}
use Rattle.wit_model.proofs.ReachLemmas.{reaches_on}
use Rattle.wit_model.proofs.BelowLemmas.{id_below}
use Rattle.type_facts.specs.Passes.{mark_all, mark_from, given, IsMarked, Spreads}
use Rattle.type_facts.proofs.Marking.{all_kept, all_marked, all_there, given_at, at_given, length-mark_all}
use Rattle.type_facts.proofs.Reaching.{part_below}

-- what the marks are, once the types from a place on have marked their parts
pub record IsSpread (types : List TypeDef) (initial marks : List Bool) (left : ℕ) : Type 0 where
  pub count : length marks ≡ length types
  pub within : left ≤ length types
  pub reached : (id : TypeId) → IsMarked marks id.0 → (from : TypeId) × IsMarked initial from.0 × Reaches types (Id from) (Id id)
  pub kept : (n : ℕ) → IsMarked initial n → IsMarked marks n
  pub closed : (id part : TypeId) → Names types (Id id) (Id part) → left ≤ id.0 → IsMarked marks id.0 → IsMarked marks part.0

abbrev numbered : ℕ → TypeId
numbered n = record { 0 = n }

pub same_id : (a b : TypeId) → a.0 ≡ b.0 → a ≡ b
same_id a b e = ap numbered e

at_or_above : (k n : ℕ) → k ≤ n → (k ≡ n) ⊎ (suc k ≤ n)
at_or_above k n h = elim (cases_lt k n) [ inl lower ↦ inr (omega arith) | inr upper ↦ inl (omega arith) ]

-- the place in its kind at which an entry names a part
named_at : (types : List TypeDef) (id : TypeId) (part : WitType) (entry : TypeDef) (names : Names types (Id id) part) → slice_get types id.0 ≡ Some entry
    → slice_get (parts entry.kind) names.nth ≡ Some (Some part)
named_at types id part entry names at =
    let same : id ≡ names.id = cc in
    let there : slice_get types id.0 ≡ Some names.entry = ap (λ (i : TypeId). slice_get types i.0) same ∙ names.entry_at in
    let named : entry ≡ names.entry = cc in
    ap (λ (t : TypeDef). slice_get (parts t.kind) names.nth) named ∙ names.part_at

names_below : (types : List TypeDef) → GoesDown types → (id part : TypeId) → Names types (Id id) (Id part) → part.0 < id.0
names_below types down id part names =
    let same : id ≡ names.id = cc in
    let lower : part.0 < names.id.0 = id_below names.id.0 part (part_below names.id.0 names.entry.kind names.nth (Id part) (down names.id.0 names.entry names.entry_at) names.part_at) in
    subst (λ (i : TypeId). part.0 < i.0) (sym same) lower

module _ (types : List TypeDef) (down : GoesDown types) (initial marks : List Bool) (k : ℕ) (entry : TypeDef) (at : slice_get types k ≡ Some entry)
    (before : IsSpread types initial marks (suc k)) where
  abbrev this : TypeId
  this = record { 0 = k }

  abbrev named : List WitType
  named = given (parts entry.kind)

  inside : k < length types
  inside = slice_get_within types k entry at

  unmarked_step : get_or marks k false ≡ false → IsSpread types initial marks k
  unmarked_step unmarked = record {
    count = before.count;
    within = let low : k < length types = inside in omega arith;
    reached = before.reached;
    kept = before.kept;
    closed = λ id part names high marked. elim (at_or_above k id.0 high) [
      | inl here ↦ absurd (let both : false ≡ true = sym unmarked ∙ ap (λ n. get_or marks n false) here ∙ marked in cc)
      | inr above ↦ before.closed id part names above marked
    ];
  }

  named_by_this : (id : TypeId) → Contains named (Id id) → Names types (Id this) (Id id)
  named_by_this id among =
      let found = at_given (parts entry.kind) (Id id) among in
      record { id = this; entry = entry; nth = found.0; is_entry = refl; entry_at = at; part_at = found.1 }

  new_reached : IsMarked marks k → (id i : TypeId) → Contains named (Id i) → i.0 ≡ id.0 → (from : TypeId) × IsMarked initial from.0 × Reaches types (Id from) (Id id)
  new_reached marked id i among e =
      let source = before.reached this marked in
      let same : i ≡ id = same_id i id e in
      (source.0, source.1, reaches_on source.2 (subst (λ j. Names types (Id this) (Id j)) same (named_by_this i among)))

  closed_here : (id part : TypeId) → Names types (Id id) (Id part) → k ≡ id.0 → IsMarked (mark_all marks named) part.0
  closed_here id part names here =
      let at_id : slice_get types id.0 ≡ Some entry = ap (slice_get types) (sym here) ∙ at in
      let among : Contains named (Id part) = given_at (parts entry.kind) names.nth (Id part) (named_at types id (Id part) entry names at_id) in
      let lower : part.0 < id.0 = names_below types down id part names in
      let high : k < length types = inside in
      let many : length marks ≡ length types = before.count in
      all_there marks named part among (omega arith)

  closed_above : (id part : TypeId) → Names types (Id id) (Id part) → suc k ≤ id.0 → IsMarked (mark_all marks named) id.0 → IsMarked (mark_all marks named) part.0
  closed_above id part names above marked =
      elim (all_marked marks named id.0 marked) [
        | inl old ↦ all_kept marks named part.0 (before.closed id part names above old)
        | inr new ↦ absurd (let lower : new.0.0 < k = names_below types down this new.0 (named_by_this new.0 new.1) in let same : new.0.0 ≡ id.0 = new.2 in omega arith)
      ]

  marked_step : get_or marks k false ≡ true → IsSpread types initial (mark_all marks named) k
  marked_step marked = record {
    count = length-mark_all marks named ∙ before.count;
    within = let low : k < length types = inside in omega arith;
    reached = λ id h. elim (all_marked marks named id.0 h) [
      | inl old ↦ before.reached id old
      | inr new ↦ new_reached marked id new.0 new.1 new.2
    ];
    kept = λ n h. all_kept marks named n (before.kept n h);
    closed = λ id part names high h. elim (at_or_above k id.0 high) [
      | inl here ↦ closed_here id part names here
      | inr above ↦ closed_above id part names above h
    ];
  }

  by_mark : (b : Bool) → get_or marks k false ≡ b → IsSpread types initial (cond b (mark_all marks named) marks) k
  by_mark true e = marked_step e
  by_mark false e = unmarked_step e

  -- one type more has marked its parts
  pub spread_more : IsSpread types initial (mark_from marks k entry.kind) k
  spread_more = by_mark (get_or marks k false) refl

id_inside : (types : List TypeDef) (id part : TypeId) → Names types (Id id) (Id part) → id.0 < length types
id_inside types id part names =
    let same : id ≡ names.id = cc in
    subst (λ (i : TypeId). i.0 < length types) (sym same) (slice_get_within types names.id.0 names.entry names.entry_at)

pub spread_first : (types : List TypeDef) (initial : List Bool) → length initial ≡ length types → IsSpread types initial initial (length types)
spread_first types initial count = record {
  count = count;
  within = omega arith;
  reached = λ id h. (id, h, reaches_itself);
  kept = λ n h. h;
  closed = λ id part names high h. absurd (let inside : id.0 < length types = id_inside types id part names in omega arith);
}

abbrev MarksType : List Bool → WitType → Type 0
MarksType marks ty = (id : TypeId) → ty ≡ Id id → IsMarked marks id.0

-- marks that are closed hold of all that is reached from a marked type
closure : {types : List TypeDef} {from ty : WitType} (initial marks : List Bool) → IsSpread types initial marks 0 → Reaches types from ty → MarksType marks from → MarksType marks ty
closure initial marks spread reaches_itself m = m
closure initial marks spread (reaches_by {part = part} names rest) m =
    closure initial marks spread rest
    (λ p e. spread.closed names.id p
    (record { id = names.id; entry = names.entry; nth = names.nth; is_entry = refl; entry_at = names.entry_at; part_at = names.part_at ∙ ap (λ t. Some (Some t)) e })
    (omega arith) (m names.id names.is_entry))

pub spread_last : (types : List TypeDef) (initial marks : List Bool) → length initial ≡ length types → IsSpread types initial marks 0 → Spreads types initial marks
spread_last types initial marks count spread = record {
  count = spread.count ∙ sym count;
  reached = spread.reached;
  marked = λ from id h reach. closure initial marks spread reach (λ i e. let same : from ≡ i = cc in subst (λ (j : TypeId). IsMarked marks j.0) same (spread.kept from.0 h)) id refl;
}
