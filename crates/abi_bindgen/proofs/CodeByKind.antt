-- In a table whose types name only lower ids, what is made for an entry is its kind's, of what is made for the types that it names.
use Rattle.std.proofs.Common.{◌≡◌, ℕ, zero, suc, ◌+◌, ◌<◌, true, List, [], ◌∷◌, ◌++◌, length, map, get_or, ◌&&◌, Option, None, Some, refl, sym, ap, ap₂, ◌∙◌, subst, arith, length-append}
use Rattle.std.specs.List.{slice_get, list_all}
use Rattle.std.proofs.lemmas.Bool.{and_parts, ltb-true}
use Rattle.std.proofs.lemmas.List.{get_or_append_left, get_or_push}
use Rattle.wit_model.specs.declared.types.Case.{Case}
use Rattle.wit_model.specs.declared.types.Field.{Field}
use Rattle.wit_model.specs.declared.types.TypeDef.{TypeDef}
use Rattle.wit_model.specs.declared.types.TypeDefKind.{TypeDefKind}
use Rattle.wit_model.specs.declared.types.TypeDefKind.TheVariants as kind
use Rattle.wit_model.specs.declared.name.TypeId.{TypeId}
use Rattle.wit_model.specs.declared.types.WitType.{WitType}
use Rattle.wit_model.specs.declared.types.WitType.TheVariants as wit
use Rattle.wit_model.specs.Parts.{parts}
use Rattle.wit_model.specs.TypeOrder.{GoesDown, parts_below, payload_below, type_below}
use Rattle.abi_bindgen.specs.Code.{made, made_behind, made_for, made_in, members_of, payloads_there}
use Rattle.abi_bindgen.proofs.Records.{all_below, map-twice}

-- of bounded payloads those that there are
there_below : (bound : ℕ) (payloads : List (Option WitType)) → list_all (λ p. payload_below bound p) payloads ≡ true → list_all (λ ty. type_below bound ty) (payloads_there payloads) ≡ true
unfolding payload_below
there_below bound [] h = refl
there_below bound (None ∷ payloads) h = there_below bound payloads (and_parts true (list_all (λ p. payload_below bound p) payloads) h).1
there_below bound (Some ty ∷ payloads) h = let b = and_parts (type_below bound ty) (list_all (λ p. payload_below bound p) payloads) h in ap₂ (λ x y. x && y) b.0 (there_below bound payloads b.1)

-- the types that are named are below the bound
members_below : (bound : ℕ) (k : TypeDefKind) → parts_below bound k ≡ true → list_all (λ ty. type_below bound ty) (members_of k) ≡ true
unfolding parts_below parts
members_below bound (kind.Alias ty) h = all_below bound (ty ∷ []) h
members_below bound (kind.Record members) h = all_below bound (map (λ (f : Field). f.ty) members) (ap (list_all _) (map-twice members) ∙ h)
members_below bound (kind.Tuple members) h = all_below bound members h
members_below bound (kind.Variant members) h = there_below bound (map (λ (c : Case). c.ty) members) h
members_below bound (kind.Option ty) h = all_below bound (ty ∷ []) h
members_below bound (kind.Result ok err) h = there_below bound (ok ∷ err ∷ []) h
members_below bound _ h = refl

module _ {A : Type 0} (leaf : WitType → A) (by_kind : ℕ → TypeDefKind → List A → A) where
  -- two lists that agree below a bound
  module _ (ts us : List A) (bound : ℕ) (same : (i : ℕ) (d : A) → i < bound → get_or us i d ≡ get_or ts i d) where
    type_same : (ty : WitType) → type_below bound ty ≡ true → made_in leaf us ty ≡ made_in leaf ts ty
    unfolding type_below
    type_same (wit.Id id) h = same id.0 (leaf (wit.Id id)) (ltb-true id.0 bound h)
    type_same _ h = refl

    types_same : (tys : List WitType) → list_all (λ ty. type_below bound ty) tys ≡ true → map (λ ty. made_in leaf us ty) tys ≡ map (λ ty. made_in leaf ts ty) tys
    types_same [] h = refl
    types_same (ty ∷ tys) h = let b = and_parts _ _ h in ap₂ (λ x xs. x ∷ xs) (type_same ty b.0) (types_same tys b.1)

  made_by : ℕ → List A → TypeDefKind → A
  made_by n ts k = by_kind n k (map (λ ty. made_in leaf ts ty) (members_of k))

  -- what was made so far stays
  kept : (ts : List A) (types : List TypeDef) (i : ℕ) (d : A) → i < length ts → get_or (made_behind leaf by_kind ts types) i d ≡ get_or ts i d
  unfolding made_by
  kept ts [] i d l = refl
  kept ts (t ∷ types) i d l =
      kept (ts ++ made_by (length ts) ts t.kind ∷ []) types i d (omega (arith, l, length-append ts (made_by (length ts) ts t.kind ∷ []))) ∙ get_or_append_left ts (made_by (length ts) ts t.kind ∷ []) d i l

  -- types that come behind so many others, each naming lower ids
  abbrev GoesDownFrom : ℕ → List TypeDef → Type 0
  GoesDownFrom first types = (k : ℕ) (t : TypeDef) → slice_get types k ≡ Some t → parts_below (first + k) t.kind ≡ true

  behind : (ts : List A) (types : List TypeDef) (i : ℕ) (d : A) (t : TypeDef) → GoesDownFrom (length ts) types → slice_get types i ≡ Some t
      → get_or (made_behind leaf by_kind ts types) (length ts + i) d ≡ made_by (length ts + i) (made_behind leaf by_kind ts types) t.kind
  unfolding made_by
  behind ts [] i d t down e = cc
  behind ts (first ∷ types) zero d t down e =
      let us = ts ++ made_by (length ts) ts first.kind ∷ [] in
      let all = made_behind leaf by_kind us types in
      let len = length-append ts (made_by (length ts) ts first.kind ∷ []) in
      let is : first ≡ t = cc in
      let below : parts_below (length ts) t.kind ≡ true = subst (λ n. parts_below n t.kind ≡ true) (omega arith) (down 0 t e) in
      let place : length ts + 0 ≡ length ts = omega arith in
      let stays : get_or all (length ts) d ≡ made_by (length ts) ts first.kind = kept us types (length ts) d (omega (arith, len)) ∙ get_or_push ts (made_by (length ts) ts first.kind) d (length ts) refl in
      let agree : (i : ℕ) (d : A) → i < length ts → get_or all i d ≡ get_or ts i d = λ i d l. kept us types i d (omega (arith, l, len)) ∙ get_or_append_left ts (made_by (length ts) ts first.kind ∷ []) d i l in
      ap (λ n. get_or all n d) place ∙ stays ∙ ap (λ (u : TypeDef). made_by (length ts) ts u.kind) is
      ∙ sym (ap (by_kind (length ts) t.kind) (types_same ts all (length ts) agree (members_of t.kind) (members_below (length ts) t.kind below))) ∙ ap (λ n. made_by n all t.kind) (sym place)
  behind ts (first ∷ types) (suc i) d t down e =
      let us = ts ++ made_by (length ts) ts first.kind ∷ [] in
      let len : length us ≡ suc (length ts) = length-append ts (made_by (length ts) ts first.kind ∷ []) ∙ omega arith in
      let later : GoesDownFrom (length us) types = λ k u is. subst (λ n. parts_below n u.kind ≡ true) (omega (arith, len)) (down (suc k) u is) in
      ap (λ n. get_or (made_behind leaf by_kind us types) n d) (omega (arith, len)) ∙ behind us types i d t later e ∙ ap (λ n. made_by n (made_behind leaf by_kind us types) t.kind) (omega (arith, len))

  pub made_by_kind : (types : List TypeDef) (id : TypeId) (t : TypeDef) (k : TypeDefKind) → GoesDown types → slice_get types id.0 ≡ Some t → t.kind ≡ k
      → made_for leaf by_kind types (wit.Id id) ≡ by_kind id.0 k (map (λ ty. made_for leaf by_kind types ty) (members_of k))
  unfolding made made_by
  made_by_kind types id t k down e is =
      let all = made_behind leaf by_kind [] types in
      let d = leaf (wit.Id id) in
      let from : GoesDownFrom 0 types = λ k u is. subst (λ n. parts_below n u.kind ≡ true) (omega arith) (down k u is) in
      let place : id.0 ≡ 0 + id.0 = omega arith in
      ap (λ n. get_or all n d) place ∙ behind [] types id.0 d t from e ∙ ap (λ n. made_by n all t.kind) (sym place) ∙ ap (made_by id.0 all) is
