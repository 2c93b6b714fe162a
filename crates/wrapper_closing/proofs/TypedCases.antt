-- A case of a type whose cases have these payloads is typed by the payload of its place.
use Rattle.std.proofs.Common.{◌≡◌, ◌⊎◌, ◌<◌, ℕ, zero, suc, inl, inr, cond, List, [], ◌∷◌, length, map, Option, None, Some, refl, sym, ap, ◌∙◌, subst, arith, rules}
use Rattle.std.specs.Prelude.{slice_get}
use Rattle.std.specs.Option.{option_map}
use Rattle.std.proofs.lemmas.Bool.{lt-ltb}
use Rattle.std.proofs.lemmas.Option.{slice_get-map}
use Rattle.rust_tree.specs.declared.enum_item.EnumItem.{EnumItem}
use Rattle.rust_tree.specs.declared.item.Item.{Item}
use Rattle.rust_tree.specs.declared.type_expr.TypeExpr.{TypeExpr, TypeExpr-F, out-TypeExpr, the_lemmas as type_lemmas}
use Rattle.rust_tree.specs.declared.type_expr.TypeExpr.TheVariants as type
use Rattle.rust_tree.specs.declared.type_item.TypeItem.{TypeItem}
use Rattle.rust_tree.specs.declared.type_item.TypeItem.TheVariants.{Alias, Enum, Flags, Struct, Variant}
use Rattle.rust_tree.specs.declared.variant_item.VariantCase.{VariantCase}
use Rattle.rust_tree.specs.declared.variant_item.VariantItem.{VariantItem}
use Rattle.wrapper_data.specs.declared.value.RustValue.{RustValue, RustValue-F, fold-roll-RustValue, map-RustValue, roll-RustValue}
use Rattle.wrapper_data.specs.declared.value.RustValue.TheVariants as value
use Rattle.wrapper_data.specs.declared.value.RustValue.TheVariants.{rolls-Case, rolls-Unit}
use Rattle.wrapper_meaning.specs.Direction.{take}
use Rattle.wrapper_values.specs.declared.state.Val.{Val}
use Rattle.wrapper_values.specs.Effect.{answer_as}
use Rattle.wrapper_values.specs.Typed.{Typed, behind, behind_one, definition_in, target_in, typed, typed_absent, typed_bare, typed_by, typed_case, typed_defined, typed_level, typed_option, typed_payload, typed_result, typed_unit, typed_variant, unaliased}
use Rattle.func_gen.specs.NormalLemmas.{normal_unit, passing_case}
use Rattle.wrapper_closing.specs.PrintedAs.{HavePayloads, IsSide, item_payloads}
use Rattle.wrapper_closing.proofs.OwningValues.{owning}

-- 1. By the payload of its place

unit_opened : out-TypeExpr type.Unit ≡ TypeExpr-F.Unit
unit_opened = search (rules, type_lemmas)

-- a case without payload is a bare one, and any other is the case of what its payload is
abbrev IsTypedBy : (Option Typed → Option RustValue) → ℕ → Option TypeExpr → Type 0
IsTypedBy typed n None = (payload : Option Typed) → typed payload ≡ typed_bare n payload
IsTypedBy typed n (Some ty) = (payload : Typed) → typed (Some payload) ≡ option_map (λ r. value.Case n (Some r)) (payload ty)

-- as a case of a type of the file
abbrev Defined : Option TypeItem → ℕ → Option TypeExpr → Type 0
Defined d n place = IsTypedBy (λ payload. typed_defined n payload d) n place

variant_typed : (v : VariantItem) (n : ℕ) (place : Option TypeExpr) → slice_get (map (λ c. c.ty) v.cases) n ≡ Some place → Defined (Some (Variant v)) n place
variant_typed v n place at = go (slice_get v.cases n) refl
  where
    by : (c : VariantCase) (place : Option TypeExpr) → slice_get v.cases n ≡ Some c → c.ty ≡ place → Defined (Some (Variant v)) n place
    by c None there is = λ payload. ap (typed_variant n payload) there ∙ ap (typed_by n payload) is
    by c (Some ty) there is = λ payload. ap (typed_variant n (Some payload)) there ∙ ap (typed_by n (Some payload)) is

    go : (c : Option VariantCase) → slice_get v.cases n ≡ c → Defined (Some (Variant v)) n place
    go None there = absurd (let no : None ≡ Some place = sym (slice_get-map (λ (c : VariantCase). c.ty) v.cases n ∙ ap (option_map (λ (c : VariantCase). c.ty)) there) ∙ at in cc)
    go (Some c) there =
        let both : Some c.ty ≡ Some place = sym (slice_get-map (λ (c : VariantCase). c.ty) v.cases n ∙ ap (option_map (λ (c : VariantCase). c.ty)) there) ∙ at in
        let same : c.ty ≡ place = cc in
        by c place there same

enum_typed : (e : EnumItem) (n : ℕ) (place : Option TypeExpr) → slice_get (map (λ c. let o : Option TypeExpr = None in o) e.cases) n ≡ Some place → Defined (Some (Enum e)) n place
enum_typed e n (Some ty) at = absurd (none_there e.cases n ty at)
  where
    none_there : {A : Type 0} (members : List A) (n : ℕ) (ty : TypeExpr) → slice_get (map (λ c. let o : Option TypeExpr = None in o) members) n ≡ Some (Some ty) → ⊥
    none_there [] n ty at = absurd cc
    none_there (c ∷ members) zero ty at = absurd cc
    none_there (c ∷ members) (suc n) ty at = none_there members n ty at
enum_typed e n None at = λ payload. ap (λ b. cond b (typed_bare n payload) None) (lt-ltb n (length e.cases) (below e.cases n at))
  where
    below : {A : Type 0} (members : List A) (n : ℕ) → slice_get (map (λ c. let o : Option TypeExpr = None in o) members) n ≡ Some None → n < length members
    below [] n at = absurd cc
    below (c ∷ members) zero at = omega arith
    below (c ∷ members) (suc n) at = let later = below members n at in omega (arith, later)

defined_typed : (d : Option TypeItem) (payloads : List (Option TypeExpr)) (n : ℕ) (place : Option TypeExpr) → item_payloads d ≡ Some payloads → slice_get payloads n ≡ Some place → Defined d n place
defined_typed None payloads n place has at = absurd cc
defined_typed (Some (Struct s)) payloads n place has at = absurd cc
defined_typed (Some (Alias a)) payloads n place has at = absurd cc
defined_typed (Some (Flags f)) payloads n place has at = absurd cc
defined_typed (Some (Enum e)) payloads n place has at =
    let same : map (λ c. let o : Option TypeExpr = None in o) e.cases ≡ payloads = cc in enum_typed e n place (ap (λ (ps : List (Option TypeExpr)). slice_get ps n) same ∙ at)
defined_typed (Some (Variant v)) payloads n place has at =
    let same : map (λ c. c.ty) v.cases ≡ payloads = cc in variant_typed v n place (ap (λ (ps : List (Option TypeExpr)). slice_get ps n) same ∙ at)

-- as one of an option
optional_typed : (ty : TypeExpr) (n : ℕ) (place : Option TypeExpr) → slice_get (None ∷ Some ty ∷ []) n ≡ Some place → IsTypedBy (λ payload. typed_option n payload ty) n place
optional_typed ty zero None at = λ payload. refl
optional_typed ty zero (Some other) at = absurd cc
optional_typed ty (suc zero) None at = absurd cc
optional_typed ty (suc zero) (Some other) at = λ payload. let same : ty ≡ other = cc in ap (λ t. option_map (λ r. value.Case 1 (Some r)) (payload t)) same
optional_typed ty (suc (suc n)) place at = absurd cc

-- as a side of a result
side_typed : (n : ℕ) (side : TypeExpr) (place : Option TypeExpr) → IsSide side place → IsTypedBy (λ payload. typed_payload n payload side) n place
side_typed n side None is = λ payload. ap (typed_payload n payload) is ∙ unit_payload payload
  where
    unit_payload : (payload : Option Typed) → typed_payload n payload type.Unit ≡ typed_bare n payload
    unit_payload None = ap (typed_absent n) unit_opened
    unit_payload (Some payload) = refl
side_typed n side (Some ty) is = λ payload. ap (typed_payload n (Some payload)) is

result_typed : (ok err : TypeExpr) (x y : Option TypeExpr) (n : ℕ) (place : Option TypeExpr) → IsSide ok x → IsSide err y → slice_get (x ∷ y ∷ []) n ≡ Some place → IsTypedBy (λ payload. typed_result n payload ok err) n place
result_typed ok err x y zero place a b at = let same : x ≡ place = cc in side_typed 0 ok place (subst (IsSide ok) same a)
result_typed ok err x y (suc zero) place a b at = let same : y ≡ place = cc in side_typed 1 err place (subst (IsSide err) same b)
result_typed ok err x y (suc (suc n)) place a b at = absurd cc

module _ (items : List Item) where
  -- such a type is no plain one
  pub cases_unanswered : (l : TypeExpr-F TypeExpr) (payloads : List (Option TypeExpr)) → HavePayloads items l payloads → (v : Val) → answer_as l v ≡ None
  cases_unanswered (TypeExpr-F.Path p) payloads has = λ v. refl
  cases_unanswered (TypeExpr-F.Optional t) payloads has = λ v. refl
  cases_unanswered (TypeExpr-F.Result ok err) payloads has = λ v. refl
  cases_unanswered TypeExpr-F.Unit payloads has = absurd cc
  cases_unanswered (TypeExpr-F.Primitive p) payloads has = absurd cc
  cases_unanswered TypeExpr-F.Str payloads has = absurd cc
  cases_unanswered TypeExpr-F.String payloads has = absurd cc
  cases_unanswered (TypeExpr-F.Ref t) payloads has = absurd cc
  cases_unanswered (TypeExpr-F.Tuple ts) payloads has = absurd cc
  cases_unanswered (TypeExpr-F.Array t n) payloads has = absurd cc

  by_place : (l : TypeExpr-F TypeExpr) (payloads : List (Option TypeExpr)) (n : ℕ) (place : Option TypeExpr) → HavePayloads items l payloads → slice_get payloads n ≡ Some place → IsTypedBy (λ payload. typed_case items n payload l) n place
  by_place (TypeExpr-F.Path p) payloads n place has at = defined_typed (definition_in items (TypeExpr-F.Path p)) payloads n place has at
  by_place (TypeExpr-F.Optional t) payloads n place has at = optional_typed t n place (ap (λ (ps : List (Option TypeExpr)). slice_get ps n) (sym has) ∙ at)
  by_place (TypeExpr-F.Result ok err) payloads n place (x, y, is, a, b) at = result_typed ok err x y n place a b (ap (λ (ps : List (Option TypeExpr)). slice_get ps n) (sym is) ∙ at)
  by_place TypeExpr-F.Unit payloads n place has at = absurd cc
  by_place (TypeExpr-F.Primitive p) payloads n place has at = absurd cc
  by_place TypeExpr-F.Str payloads n place has at = absurd cc
  by_place TypeExpr-F.String payloads n place has at = absurd cc
  by_place (TypeExpr-F.Ref t) payloads n place has at = absurd cc
  by_place (TypeExpr-F.Tuple ts) payloads n place has at = absurd cc
  by_place (TypeExpr-F.Array t k) payloads n place has at = absurd cc

  -- 2. Values

  pub typed_roll : (l : RustValue-F RustValue) (ty : TypeExpr) → typed items (roll-RustValue l) ty ≡ typed_level items (map-RustValue RustValue Typed (typed items) l) (unaliased items ty)
  typed_roll l ty = ap (λ (t : Typed). t ty) (fold-roll-RustValue Typed (λ l ty. typed_level items l (unaliased items ty)) l)

  case_typed : (n : ℕ) (payload : Option RustValue) (ty : TypeExpr) → typed items (value.Case n payload) ty ≡ typed_case items n (option_map (typed items) payload) (out-TypeExpr (unaliased items ty))
  case_typed n None ty = ap (λ r. typed items r ty) (sym (rolls-Case n None)) ∙ typed_roll (RustValue-F.Case n None) ty
  case_typed n (Some r) ty = ap (λ r. typed items r ty) (sym (rolls-Case n (Some r))) ∙ typed_roll (RustValue-F.Case n (Some r)) ty

  -- `()` is itself as one of its type
  unit_typed : typed items value.Unit type.Unit ≡ Some value.Unit
  unit_typed = ap (λ r. typed items r type.Unit) (sym rolls-Unit) ∙ typed_roll RustValue-F.Unit type.Unit ∙ ap (λ t. typed_unit (out-TypeExpr t)) (unit_behind items) ∙ ap typed_unit unit_opened
    where
      unit_behind : (left : List Item) → behind left items type.Unit ≡ type.Unit
      unit_behind [] = refl
      unit_behind (_ ∷ left) = ap (λ l. behind_one (behind left items) type.Unit (target_in (definition_in items l))) unit_opened

  -- the payload of a case is left out or `()`, or it is of the type of its place
  abbrev pub IsLeftOut : ℕ → Option RustValue → List (Option TypeExpr) → Type 0
  IsLeftOut n payload payloads = (slice_get payloads n ≡ Some None) × ((payload ≡ None) ⊎ (payload ≡ Some value.Unit))

  abbrev pub IsInPlace : ℕ → Option RustValue → List (Option TypeExpr) → Type 0
  IsInPlace n payload payloads = (ty : TypeExpr) × (r : RustValue) × (slice_get payloads n ≡ Some (Some ty)) × (payload ≡ Some r) × (typed items r ty ≡ Some (owning r))

  abbrev pub FitsPlace : ℕ → Option RustValue → List (Option TypeExpr) → Type 0
  FitsPlace n payload payloads = IsLeftOut n payload payloads ⊎ IsInPlace n payload payloads

  -- a case without payload passes as it is
  bare_typed : (n : ℕ) (payload : Option RustValue) → (payload ≡ None) ⊎ (payload ≡ Some value.Unit) → typed_bare n (option_map (typed items) payload) ≡ Some (owning (value.Case n payload))
  bare_typed n payload (inl is) =
      ap (λ p. typed_bare n (option_map (typed items) p)) is ∙ ap (λ r. Some r) (sym (passing_case take n None)) ∙ ap (λ p. Some (owning (value.Case n p))) (sym is)
  bare_typed n payload (inr is) =
      ap (λ p. typed_bare n (option_map (typed items) p)) is ∙ ap (option_map (λ r. value.Case n (Some r))) unit_typed
      ∙ ap (λ r. Some r) (sym (passing_case take n (Some value.Unit) ∙ ap (λ r. value.Case n (Some r)) (normal_unit take))) ∙ ap (λ p. Some (owning (value.Case n p))) (sym is)

  placed_typed : (l : TypeExpr-F TypeExpr) (payloads : List (Option TypeExpr)) (n : ℕ) (payload : Option RustValue) → HavePayloads items l payloads → FitsPlace n payload payloads
      → typed_case items n (option_map (typed items) payload) l ≡ Some (owning (value.Case n payload))
  placed_typed l payloads n payload has (inl (at, bare)) = by_place l payloads n None has at (option_map (typed items) payload) ∙ bare_typed n payload bare
  placed_typed l payloads n payload has (inr (ty, r, at, is, h)) =
      ap (λ p. typed_case items n (option_map (typed items) p) l) is ∙ by_place l payloads n (Some ty) has at (typed items r) ∙ ap (option_map (λ r. value.Case n (Some r))) h
      ∙ ap (λ r. Some r) (sym (passing_case take n (Some r))) ∙ ap (λ p. Some (owning (value.Case n p))) (sym is)

  -- such a case is one of the type
  pub value_typed : (payloads : List (Option TypeExpr)) (n : ℕ) (payload : Option RustValue) (ty : TypeExpr) → HavePayloads items (out-TypeExpr (unaliased items ty)) payloads → FitsPlace n payload payloads
      → typed items (value.Case n payload) ty ≡ Some (owning (value.Case n payload))
  value_typed payloads n payload ty has of = case_typed n payload ty ∙ placed_typed (out-TypeExpr (unaliased items ty)) payloads n payload has of
