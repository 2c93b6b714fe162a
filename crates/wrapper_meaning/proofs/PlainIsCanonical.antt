-- A list lies in memory as it is exactly where the facts of types call it canonical.
use Rattle.std.proofs.Common.{◌≡◌, ℕ, zero, suc, ◌<◌, ◌≤◌, Bool, true, false, not, List, [], ◌∷◌, map, Option, Some, None, length, slice_get, is_none, refl, sym, ap, subst, arith, ◌∙◌, get_or}
use Rattle.std.specs.Prelude.{unwrap_or}
use mathlib.Core.Logic.{inl, inr}
use Rattle.std.proofs.lemmas.Bool.{and_parts, and_from, true≢false, ltb-true}
use Rattle.std.proofs.lemmas.Option.{slice_get_cases}
use Rattle.wit_model.specs.declared.name.TypeId.{TypeId}
use Rattle.wit_model.specs.declared.types.Handle.TheVariants.{Own, Borrow}
use Rattle.wit_model.specs.declared.types.TypeDef.{TypeDef}
use Rattle.wit_model.specs.declared.types.TypeDefKind.{TypeDefKind}
use Rattle.wit_model.specs.declared.types.TypeDefKind.TheVariants as kind
use Rattle.wit_model.specs.declared.types.WitType.{WitType}
use Rattle.wit_model.specs.declared.types.WitType.TheVariants as wit
use Rattle.wit_model.proofs.AllLemmas.{all_at}
use Rattle.wit_model.specs.Parts.{parts}
use Rattle.wit_model.specs.Reaches.{Names, Reaches, reaches_by, reaches_itself}
use Rattle.wit_model.specs.TypeOrder.{GoesDown, parts_below, payload_below, type_below}
use Rattle.type_facts.specs.Facts.{IsCanonical}
use Rattle.type_facts.specs.Own.{is_plain as is_plain_kind, own, own_of_entry}
use Rattle.wrapper_meaning.specs.Kinds.{are_plain, is_plain}
use Rattle.wrapper_meaning.specs.Laws.{PlainIsCanonical}
use Rattle.wrapper_meaning.specs.Shape.{Shape, handle_of, nothing, payloads_in, shape_by, shape_in, shape_of, shapes}
use Rattle.wrapper_meaning.proofs.Lists.{some_same}
use Rattle.wrapper_meaning.proofs.ShapeIsByKind.{shape_is_by_kind}

-- the kinds that are plain, by what they name; any other shape is not plain
abbrev ArePlainParts : List Shape → TypeDefKind → Type 0
ArePlainParts ss k = (nth : ℕ) (part : WitType) → slice_get (parts k) nth ≡ Some (Some part) → is_plain (shape_in ss part) ≡ true

handle_not_plain : (owns : Bool) (s : Shape) → is_plain (handle_of owns s) ≡ false
handle_not_plain owns (Shape.resource number) = refl
handle_not_plain owns _ = refl

-- a kind that is not plain has no plain shape
other_not_plain : (n : ℕ) (ss : List Shape) (k : TypeDefKind) → is_plain_kind k ≡ false → is_plain (shape_by n ss k) ≡ false
other_not_plain n ss (kind.Alias ty) h = absurd (true≢false h)
other_not_plain n ss (kind.Handle (Own id)) h = handle_not_plain true (get_or ss id.0 nothing)
other_not_plain n ss (kind.Handle (Borrow id)) h = handle_not_plain false (get_or ss id.0 nothing)
other_not_plain n ss (kind.FixedLengthList element m) h = absurd (true≢false h)
other_not_plain n ss (kind.Record members) h = absurd (true≢false h)
other_not_plain n ss _ h = refl

-- the parts of a record
all_plain : (ss : List Shape) (tys : List (Option WitType)) → are_plain (payloads_in ss tys) ≡ true → (nth : ℕ) (part : WitType) → slice_get tys nth ≡ Some (Some part) → is_plain (shape_in ss part) ≡ true
all_plain ss [] h nth part e = absurd (no_part e)
  where
    no_part : None ≡ Some (Some part) → ⊥
    no_part e = true≢false (ap is_none e)
all_plain ss (None ∷ tys) h zero part e = absurd (no_part e)
  where
    no_part : Some None ≡ Some (Some part) → ⊥
    no_part e = true≢false (ap (λ o. is_none (unwrap_or o None)) e)
all_plain ss (None ∷ tys) h (suc nth) part e = all_plain ss tys h nth part e
all_plain ss (Some ty ∷ tys) h zero part e = subst (λ t. is_plain (shape_in ss t) ≡ true) (some_same ty part (some_same (Some ty) (Some part) e)) (and_parts (is_plain (shape_in ss ty)) (are_plain (payloads_in ss tys)) h).0
all_plain ss (Some ty ∷ tys) h (suc nth) part e = all_plain ss tys (and_parts (is_plain (shape_in ss ty)) (are_plain (payloads_in ss tys)) h).1 nth part e

from_all : (ss : List Shape) (tys : List (Option WitType)) → ((nth : ℕ) (part : WitType) → slice_get tys nth ≡ Some (Some part) → is_plain (shape_in ss part) ≡ true) → are_plain (payloads_in ss tys) ≡ true
from_all ss [] h = refl
from_all ss (None ∷ tys) h = from_all ss tys (λ nth. h (suc nth))
from_all ss (Some ty ∷ tys) h = and_from (is_plain (shape_in ss ty)) (are_plain (payloads_in ss tys)) (h 0 ty refl) (from_all ss tys (λ nth. h (suc nth)))

one_part : (ss : List Shape) (ty : WitType) → is_plain (shape_in ss ty) ≡ true → (nth : ℕ) (part : WitType) → slice_get (Some ty ∷ []) nth ≡ Some (Some part) → is_plain (shape_in ss part) ≡ true
one_part ss ty h nth part e = all_plain ss (Some ty ∷ []) (and_from (is_plain (shape_in ss ty)) true h refl) nth part e

plain_parts : (n : ℕ) (ss : List Shape) (k : TypeDefKind) → is_plain_kind k ≡ true → is_plain (shape_by n ss k) ≡ true → ArePlainParts ss k
unfolding parts
plain_parts n ss (kind.Alias ty) h p nth part e = one_part ss ty p nth part e
plain_parts n ss (kind.FixedLengthList element m) h p nth part e = one_part ss element p nth part e
plain_parts n ss (kind.Record members) h p nth part e = all_plain ss (map (λ f. Some f.ty) members) p nth part e
plain_parts n ss _ h p nth part e = absurd (true≢false (sym h))

from_parts : (n : ℕ) (ss : List Shape) (k : TypeDefKind) → is_plain_kind k ≡ true → ArePlainParts ss k → is_plain (shape_by n ss k) ≡ true
unfolding parts
from_parts n ss (kind.Alias ty) h p = p 0 ty refl
from_parts n ss (kind.FixedLengthList element m) h p = p 0 element refl
from_parts n ss (kind.Record members) h p = from_all ss (map (λ f. Some f.ty) members) p
from_parts n ss _ h p = absurd (true≢false (sym h))

module _ (types : List TypeDef) (down : GoesDown types) where
  entry_plain : (id : TypeId) (entry : TypeDef) → slice_get types id.0 ≡ Some entry → is_plain (shape_of types (wit.Id id)) ≡ true → is_plain (shape_by id.0 (shapes types) entry.kind) ≡ true
  entry_plain id entry at p = ap is_plain (sym (shape_is_by_kind types id.0 entry down at)) ∙ p

  -- what is plain is of a plain kind
  plain_kind : (id : TypeId) (entry : TypeDef) → slice_get types id.0 ≡ Some entry → is_plain (shape_of types (wit.Id id)) ≡ true → is_plain_kind entry.kind ≡ true
  plain_kind id entry at p = by_test (is_plain_kind entry.kind) refl
    where
      by_test : (t : Bool) → is_plain_kind entry.kind ≡ t → is_plain_kind entry.kind ≡ true
      by_test true e = e
      by_test false e = absurd (true≢false (sym (entry_plain id entry at p) ∙ other_not_plain id.0 (shapes types) entry.kind e))

  itself : (ty : WitType) → is_plain (shape_of types ty) ≡ true → (own types ty).other ≡ true → ⊥
  itself wit.Bool p so = true≢false (sym p)
  itself wit.Char p so = true≢false (sym p)
  itself wit.String p so = true≢false (sym p)
  itself wit.ErrorContext p so = true≢false (sym p)
  itself (wit.Id id) p so = by_entry (slice_get types id.0) refl
    where
      by_entry : (o : Option TypeDef) → slice_get types id.0 ≡ o → ⊥
      by_entry None e = true≢false (sym so ∙ ap (λ o. (own_of_entry o).other) e)
      by_entry (Some entry) e = true≢false (sym so ∙ ap (λ o. (own_of_entry o).other) e ∙ ap not (plain_kind id entry e p))
  itself _ p so = true≢false (sym so)

  step : (whole part : WitType) → Names types whole part → is_plain (shape_of types whole) ≡ true → is_plain (shape_of types part) ≡ true
  step whole part names p =
      let q : is_plain (shape_of types (wit.Id names.id)) ≡ true = subst (λ t. is_plain (shape_of types t) ≡ true) names.is_entry p in
      plain_parts names.id.0 (shapes types) names.entry.kind (plain_kind names.id names.entry names.entry_at q) (entry_plain names.id names.entry names.entry_at q) names.nth part names.part_at

  no_other : {ty part : WitType} → Reaches types ty part → is_plain (shape_of types ty) ≡ true → (own types part).other ≡ true → ⊥
  no_other (reaches_itself {ty}) p so = itself ty p so
  no_other (reaches_by {whole} {part} names r) p so = no_other r (step whole part names p) so

  plain_is_canonical : (ty : WitType) → is_plain (shape_of types ty) ≡ true → IsCanonical types ty
  plain_is_canonical ty p has = no_other has.reached p has.so

  -- and the other way: by the bound of the ids

  by_itself : (ty : WitType) → IsCanonical types ty → (own types ty).other ≡ true → ⊥
  by_itself ty canonical so = canonical (record { part = ty; reached = reaches_itself; so = so })

  part_canonical : (whole part : WitType) → Names types whole part → IsCanonical types whole → IsCanonical types part
  part_canonical whole part names canonical has = canonical (record { part = has.part; reached = reaches_by names has.reached; so = has.so })

  none_past : {A : Type 0} (xs : List A) (k : ℕ) → slice_get xs k ≡ None → k < length xs → ⊥
  none_past xs k e below = elim (slice_get_cases xs k).1 [ inl there ↦ true≢false (ap is_none (sym e ∙ there.2)) | inr past ↦ omega (past.0, below, arith) ]

  -- a part of an entry is below it
  part_below : (id : TypeId) (entry : TypeDef) (nth : ℕ) (part : WitType) → slice_get types id.0 ≡ Some entry → slice_get (parts entry.kind) nth ≡ Some (Some part) → type_below id.0 part ≡ true
  unfolding parts_below payload_below
  part_below id entry nth part at e = all_at (λ p. payload_below id.0 p) (parts entry.kind) nth (Some part) (down id.0 entry at) e

  abbrev PlainBelow : ℕ → Type 0
  PlainBelow n = (m : ℕ) → m ≤ n → m ≤ length types → (ty : WitType) → type_below m ty ≡ true → IsCanonical types ty → is_plain (shape_of types ty) ≡ true

  plain_entry : (n : ℕ) → PlainBelow n → (id : TypeId) → id.0 ≤ n → id.0 < length types → IsCanonical types (wit.Id id) → is_plain (shape_of types (wit.Id id)) ≡ true
  plain_entry n earlier id below inside canonical = by_entry (slice_get types id.0) refl
    where
      by_entry : (o : Option TypeDef) → slice_get types id.0 ≡ o → is_plain (shape_of types (wit.Id id)) ≡ true
      by_entry None e = absurd (none_past types id.0 e inside)
      by_entry (Some entry) e = by_test (is_plain_kind entry.kind) refl
        where
          by_test : (t : Bool) → is_plain_kind entry.kind ≡ t → is_plain (shape_of types (wit.Id id)) ≡ true
          by_test true t = ap is_plain (shape_is_by_kind types id.0 entry down e) ∙ from_parts id.0 (shapes types) entry.kind t
              (λ nth part at. earlier id.0 below (omega (inside, arith)) part (part_below id entry nth part e at)
              (part_canonical (wit.Id id) part (record { id = id; entry = entry; nth = nth; is_entry = refl; entry_at = e; part_at = at }) canonical))
          by_test false t = absurd (by_itself (wit.Id id) canonical (ap (λ o. (own_of_entry o).other) e ∙ ap not t))

  plain_type : (n : ℕ) → PlainBelow n → (m : ℕ) → m ≤ suc n → m ≤ length types → (ty : WitType) → type_below m ty ≡ true → IsCanonical types ty → is_plain (shape_of types ty) ≡ true
  unfolding type_below
  plain_type n earlier m small inside wit.Bool below canonical = absurd (by_itself wit.Bool canonical refl)
  plain_type n earlier m small inside wit.Char below canonical = absurd (by_itself wit.Char canonical refl)
  plain_type n earlier m small inside wit.String below canonical = absurd (by_itself wit.String canonical refl)
  plain_type n earlier m small inside wit.ErrorContext below canonical = absurd (by_itself wit.ErrorContext canonical refl)
  plain_type n earlier m small inside (wit.Id id) below canonical =
      let low = ltb-true id.0 m below in
      plain_entry n earlier id (omega (low, small, arith)) (omega (low, inside, arith)) canonical
  plain_type n earlier m small inside _ below canonical = refl

  -- no entry is below 0
  none_below : PlainBelow 0
  unfolding type_below
  none_below m small inside wit.Bool below canonical = absurd (by_itself wit.Bool canonical refl)
  none_below m small inside wit.Char below canonical = absurd (by_itself wit.Char canonical refl)
  none_below m small inside wit.String below canonical = absurd (by_itself wit.String canonical refl)
  none_below m small inside wit.ErrorContext below canonical = absurd (by_itself wit.ErrorContext canonical refl)
  none_below m small inside (wit.Id id) below canonical = absurd (omega (ltb-true id.0 m below, small, arith))
  none_below m small inside _ below canonical = refl

  plain_below : (n : ℕ) → PlainBelow n
  plain_below zero = none_below
  plain_below (suc n) = plain_type n (plain_below n)

  canonical_is_plain : (ty : WitType) → type_below (length types) ty ≡ true → IsCanonical types ty → is_plain (shape_of types ty) ≡ true
  canonical_is_plain ty below canonical = plain_below (length types) (length types) (omega (arith)) (omega (arith)) ty below canonical

pub plain_is_canonical_law : PlainIsCanonical
plain_is_canonical_law types ty down below = (plain_is_canonical types down ty, canonical_is_plain types down ty below)
