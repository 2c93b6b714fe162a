-- The most entries on a way down from a type are one more than those of the types that it names.
use Rattle.std.proofs.Common.{◌≡◌, ℕ, zero, suc, ◌+◌, ◌∙◌, Bool, true, false, cond, ◌||◌, not, nat_lt, inl, inr, List, [], ◌∷◌, ◌++◌, length, drop, get_or, Option, Some, None, refl, sym, ap, subst, arith}
use Rattle.std.specs.List.{list_all, position_from, slice_get}
use Rattle.std.proofs.lemmas.Bool.{and_from, and_parts, le-ltb, lt-ltb, ltb_from_iff}
use Rattle.std.proofs.lemmas.Grind.{common_steps}
use Rattle.std.proofs.lemmas.Iterator.Adapters.{position_from-zero}
use Rattle.std.proofs.lemmas.Option.{slice_get-get_or}
use Rattle.wit_model.specs.declared.name.TypeId.{TypeId}
use Rattle.wit_model.specs.declared.types.WitType.{WitType}
use Rattle.wit_model.specs.declared.types.WitType.TheVariants.{Id}
use Rattle.wit_model.specs.declared.types.TypeDef.{TypeDef}
use Rattle.wit_model.specs.Parts.{parts}
use Rattle.wit_model.specs.TypeOrder.{type_below, payload_below, parts_below, GoesDown}
use Rattle.wit_model.proofs.BelowLemmas.{id_below}
use Rattle.wit_model.proofs.ListLemmas.{at_end, drop_at}
use Rattle.type_defs.specs.Levels.{AreLevels, are_shallow, first_deep, greater, greatest, greatest_below, is_any_deeper, is_deeper, is_shallow, level_of, parts_of}

greater-assoc : (a b c : ℕ) → greater (greater a b) c ≡ greater a (greater b c)
greater-assoc a b c = grind (arith, common_steps)

pub greater-nothing : (a : ℕ) → greater a 0 ≡ a
greater-nothing a = grind (arith, common_steps)

pub nothing-greater : (a : ℕ) → greater 0 a ≡ a
nothing-greater a = grind (arith, common_steps)

lt-greater : (n a b : ℕ) → nat_lt n (greater a b) ≡ (nat_lt n a || nat_lt n b)
lt-greater n a b = grind (arith, common_steps)

-- one part of the rest is taken into the greatest
pub greatest_next : (known : List ℕ) (sum : ℕ) (ps : List (Option WitType)) (nth : ℕ) (part : Option WitType) → slice_get ps nth ≡ Some part
    → greater (greater sum (level_of known part)) (greatest known (drop (nth + 1) ps)) ≡ greater sum (greatest known (drop nth ps))
greatest_next known sum ps nth part e =
    greater-assoc sum (level_of known part) (greatest known (drop (nth + 1) ps)) ∙ sym (ap (λ rest. greater sum (greatest known rest)) (drop_at ps nth part e))

module _ (types : List TypeDef) (down : GoesDown types) (known : List ℕ) (are : AreLevels types known) where
  none : (n : ℕ) → nat_lt n 0 ≡ false
  none n = le-ltb n 0 (omega arith)

  type_level : (n : ℕ) (ty : WitType) → type_below (length known) ty ≡ true → is_deeper types n ty ≡ nat_lt n (level_of known (Some ty))
  type_level n (Id id) below = are id (get_or known id.0 0) (slice_get-get_or known id.0 0 (id_below (length known) id below)) n
  type_level zero ty below = sym (none 0)
  type_level (suc n) ty below = sym (none (suc n))

  parts_level : (n : ℕ) (ps : List (Option WitType)) → list_all (λ part. payload_below (length known) part) ps ≡ true → is_any_deeper types n ps ≡ nat_lt n (greatest known ps)
  unfolding payload_below
  parts_level n [] h = sym (none n)
  parts_level n (None ∷ ps) h =
      parts_level n ps h ∙ sym (lt-greater n 0 (greatest known ps) ∙ ap (λ b. b || nat_lt n (greatest known ps)) (none n))
  parts_level n (Some ty ∷ ps) h =
      let below = and_parts (type_below (length known) ty) (list_all (λ part. payload_below (length known) part) ps) h in
      ap (λ b. b || is_any_deeper types n ps) (type_level n ty below.0) ∙ ap (λ b. nat_lt n (level_of known (Some ty)) || b) (parts_level n ps below.1)
      ∙ sym (lt-greater n (level_of known (Some ty)) (greatest known ps))

  module _ (id : ℕ) (entry : TypeDef) (at : slice_get types id ≡ Some entry) (count : length known ≡ id) where
    pub kind_level : (n : ℕ) → is_any_deeper types n (parts entry.kind) ≡ nat_lt n (greatest_below known entry.kind)
    unfolding parts_below greatest_below
    kind_level n = parts_level n (parts entry.kind) (subst (λ k. list_all (λ part. payload_below k part) (parts entry.kind) ≡ true) (sym count) (down id entry at))

    entry_level : (n : ℕ) (of : TypeId) → of.0 ≡ id → is_deeper types n (Id of) ≡ nat_lt n (greatest_below known entry.kind + 1)
    entry_level zero of is = sym (lt-ltb 0 (greatest_below known entry.kind + 1) (omega arith))
    entry_level (suc n) of is =
        let more : nat_lt n (greatest_below known entry.kind) ≡ nat_lt (suc n) (greatest_below known entry.kind + 1) = ltb_from_iff (grind (arith, common_steps)) in
        ap (λ o. is_any_deeper types n (parts_of o)) (ap (slice_get types) is ∙ at) ∙ kind_level n ∙ more

    pub levels_more : AreLevels types (known ++ (greatest_below known entry.kind + 1) ∷ [])
    levels_more of level e n =
        elim (at_end known (greatest_below known entry.kind + 1) of.0 level e) [
          | inl before ↦ are of level before n
          | inr last ↦ entry_level n of (last.0 ∙ count) ∙ ap (nat_lt n) last.1
        ]

    pub is_shallow-exact : is_shallow types entry ≡ not (nat_lt 99 (greatest_below known entry.kind))
    unfolding is_shallow
    is_shallow-exact = ap not (kind_level 99)

-- where no entry is the first deep one, none is deep
all-shallow : (types : List TypeDef) (nth : ℕ) (entries : List TypeDef) → position_from (λ entry. not (is_shallow types entry)) nth entries ≡ None → list_all (is_shallow types) entries ≡ true
all-shallow types nth [] h = refl
all-shallow types nth (entry ∷ entries) h =
    go (is_shallow types entry) refl (λ later. all-shallow types (nth + 1) entries later)
  where
    later : Option ℕ
    later = position_from (λ entry. not (is_shallow types entry)) (nth + 1) entries

    go : (b : Bool) → is_shallow types entry ≡ b → (later ≡ None → list_all (is_shallow types) entries ≡ true) → list_all (is_shallow types) (entry ∷ entries) ≡ true
    go true e rest = and_from (is_shallow types entry) (list_all (is_shallow types) entries) e (rest (sym (ap (λ b. cond (not b) (Some nth) later) e) ∙ h))
    go false e rest = let wrong : cond (not false) (Some nth) later ≡ None = sym (ap (λ b. cond (not b) (Some nth) later) e) ∙ h in cc

pub not-deep : (types : List TypeDef) → first_deep types ≡ None → are_shallow types ≡ true
unfolding are_shallow
not-deep types none = all-shallow types 0 types (sym (position_from-zero (λ entry. not (is_shallow types entry)) types) ∙ none)
