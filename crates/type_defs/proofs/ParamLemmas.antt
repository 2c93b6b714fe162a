-- What is asked of a type when it is printed as a parameter.
use Rattle.std.proofs.Common.{◌≡◌, ℕ, zero, suc, ◌-◌, ◌∙◌, ◌<◌, ◌≤◌, length, Bool, true, false, ◌&&◌, Option, Some, List, [], ◌∷◌, refl, sym, ap, arith}
use Rattle.std.specs.Prelude.{slice_get}
use Rattle.std.specs.List.{list_all}
use Rattle.std.proofs.lemmas.Bool.{and_from, and_parts}
use Rattle.std.proofs.lemmas.List.Folds.{list_all-map}
use Rattle.std.proofs.lemmas.Option.{slice_get_within}
use Rattle.wit_model.specs.declared.name.TypeId.{TypeId}
use Rattle.wit_model.specs.declared.name.WorldId.{WorldId}
use Rattle.wit_model.specs.declared.resolve.Resolve.{Resolve}
use Rattle.wit_model.specs.declared.types.TypeDef.{TypeDef}
use Rattle.wit_model.specs.declared.types.TypeDefKind.TheVariants as kind
use Rattle.wit_model.specs.declared.types.WitType.{WitType}
use Rattle.wit_model.specs.declared.types.WitType.TheVariants as wit
use Rattle.wit_model.specs.Parts.{parts}
use Rattle.wit_model.specs.TypeOrder.{GoesDown, parts_below, payload_below, type_below}
use Rattle.wit_model.proofs.BelowLemmas.{payload_below_more}
use Rattle.rust_tree.specs.declared.type_expr.TypeExpr.TheVariants as type
use Rattle.type_facts.specs.declared.info.TypeInfo.{TypeInfo}
use Rattle.type_facts.specs.Facts.{IsInfoOf}
use Rattle.type_facts.specs.Own.{is_string, own}
use Rattle.type_defs.specs.Finds.{finds}
use Rattle.type_defs.specs.Levels.{are_shallow}
use Rattle.type_defs.specs.ParamType.{has_list, is_text, lent_by, lent_entry, lent_found, lent_within, text_or}
use Rattle.type_defs.specs.Printed.{printed_type}
use Rattle.type_defs.proofs.UsedLemmas.{finds_reached, reached_found, shallow_low, same-truth}

-- the facts of a type tell whether it reaches a text or a list
pub has_list-told : (r : Resolve) (world : WorldId) (id : TypeId) (info : TypeInfo) → are_shallow r.types ≡ true → IsInfoOf r world id info → info.has_list ≡ has_list r.types (wit.Id id)
has_list-told r world id info shallow facts = same-truth info.has_list (has_list r.types (wit.Id id)) found reached
  where
    is_so : WitType → Bool
    is_so = λ part. (own r.types part).list

    found : info.has_list ≡ true → has_list r.types (wit.Id id) ≡ true
    found h = let has = facts.has_list.0 h in reached_found r.types is_so (wit.Id id) has.part (shallow_low r.types (wit.Id id) shallow) has.reached has.so

    reached : has_list r.types (wit.Id id) ≡ true → info.has_list ≡ true
    reached h = let found = finds_reached r.types is_so (wit.Id id) (shallow_low r.types (wit.Id id) shallow) h in facts.has_list.1 (record { part = found.0; reached = found.1; so = found.2 })

-- a type that is no entry of the table reaches itself alone
pub has_list-itself : (types : List TypeDef) (ty : WitType) → ((id : TypeId) → ty ≡ wit.Id id → ⊥) → has_list types ty ≡ is_string ty
unfolding finds
has_list-itself types (wit.Id id) none = absurd (none id refl)
has_list-itself types _ none = refl

-- one level of a lent type

pub lent-text : (types : List TypeDef) (levels : ℕ) (ty : WitType) → is_text types ty ≡ true → lent_within types levels ty ≡ type.Ref type.Str
lent-text types zero ty h = ap (λ b. text_or b (printed_type ty)) h
lent-text types (suc levels) ty h = ap (λ b. text_or b (lent_by types (lent_within types levels) ty)) h

pub lent-level : (types : List TypeDef) (levels : ℕ) (id : TypeId) (entry : TypeDef) → (levels ≡ 0 → ⊥) → is_text types (wit.Id id) ≡ false → slice_get types id.0 ≡ Some entry
    → lent_within types levels (wit.Id id) ≡ lent_entry types (lent_within types (levels - 1)) entry.kind entry.name
lent-level types zero id entry some h e = absurd (some refl)
lent-level types (suc levels) id entry some h e =
    let before : suc levels - 1 ≡ levels = omega arith in
    ap (λ b. text_or b (lent_by types (lent_within types levels) (wit.Id id))) h ∙ ap (lent_found types (lent_within types levels)) e
    ∙ ap (λ n. lent_entry types (lent_within types n) entry.kind entry.name) (sym before)

-- what a type of the table names is in the table

all-below-more : (low high : ℕ) (ps : List (Option WitType)) → low ≤ high → list_all (λ p. payload_below low p) ps ≡ true → list_all (λ p. payload_below high p) ps ≡ true
all-below-more low high [] le h = refl
all-below-more low high (p ∷ ps) le h =
    let each = and_parts (payload_below low p) (list_all (λ p. payload_below low p) ps) h in
    and_from (payload_below high p) (list_all (λ p. payload_below high p) ps) (payload_below_more low high p le each.0) (all-below-more low high ps le each.1)

pub entry-below : (types : List TypeDef) (k : ℕ) (entry : TypeDef) → GoesDown types → slice_get types k ≡ Some entry → parts_below (length types) entry.kind ≡ true
unfolding parts_below
entry-below types k entry down e = let within : k < length types = slice_get_within types k entry e in all-below-more k (length types) (parts entry.kind) (omega arith) (down k entry e)

pub target-below : (bound : ℕ) (ty : WitType) → parts_below bound (kind.Alias ty) ≡ true → type_below bound ty ≡ true
unfolding parts_below payload_below parts
target-below bound ty h = (and_parts (type_below bound ty) true h).0

pub members-below : (bound : ℕ) (members : List WitType) → parts_below bound (kind.Tuple members) ≡ true → list_all (type_below bound) members ≡ true
unfolding parts_below payload_below parts
members-below bound members h = sym (list_all-map (λ p. payload_below bound p) (λ ty. Some ty) members) ∙ h

pub option-below : (bound : ℕ) (ty : WitType) → parts_below bound (kind.Option ty) ≡ true → type_below bound ty ≡ true
unfolding parts_below payload_below parts
option-below bound ty h = (and_parts (type_below bound ty) true h).0

pub result-below : (bound : ℕ) (ok err : Option WitType) → parts_below bound (kind.Result ok err) ≡ true → (payload_below bound ok ≡ true) × (payload_below bound err ≡ true)
unfolding parts_below parts
result-below bound ok err h =
    let both = and_parts (payload_below bound ok) (payload_below bound err && true) h in
    (both.0, (and_parts (payload_below bound err) true both.1).0)

pub some-below : (bound : ℕ) (ty : WitType) → payload_below bound (Some ty) ≡ true → type_below bound ty ≡ true
unfolding payload_below
some-below bound ty h = h
