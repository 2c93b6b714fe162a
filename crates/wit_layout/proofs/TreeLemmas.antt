-- In a table whose types name only lower ids, each tree is its kind's, over the trees of the table.
use Rattle.std.proofs.Common.{◌≡◌, ℕ, zero, suc, ◌+◌, ◌<◌, true, List, [], ◌∷◌, ◌++◌, length, map, get_or, Option, None, Some, refl, sym, ap, ap₂, ◌∙◌, subst, arith, length-append}
use Rattle.std.specs.List.{slice_get, list_all}
use Rattle.std.proofs.lemmas.List.{get_or_append_left, get_or_push}
use Rattle.std.proofs.lemmas.Bool.{and_parts, ltb-true}
use Rattle.wit_model.specs.declared.types.WitType.{WitType}
use Rattle.wit_model.specs.declared.types.WitType.TheVariants as wit
use Rattle.wit_model.specs.declared.types.TypeDefKind.{TypeDefKind}
use Rattle.wit_model.specs.declared.types.TypeDefKind.TheVariants as kind
use Rattle.wit_model.specs.declared.types.TypeDef.{TypeDef}
use Rattle.wit_model.specs.Parts.{parts}
use Rattle.wit_model.specs.TypeOrder.{type_below, payload_below, parts_below, GoesDown}
use Rattle.wit_layout.specs.Tree.{Tree, nothing, tree_in, payload_in, payloads_in, tree_by, trees_behind, trees, tree_at}
use Rattle.wit_layout.specs.Tree.Tree.{list, pairs, fixed, fields, cases}
use Rattle.wit_layout.specs.Tree.Trees.{none, more}

-- what a kind of few parts names is below the bound
pub first_below : (bound : ℕ) (p : Option WitType) (ps : List (Option WitType)) → list_all (payload_below bound) (p ∷ ps) ≡ true → payload_below bound p ≡ true
first_below bound p ps h = (and_parts _ _ h).0

pub later_below : (bound : ℕ) (p : Option WitType) (ps : List (Option WitType)) → list_all (payload_below bound) (p ∷ ps) ≡ true → list_all (payload_below bound) ps ≡ true
later_below bound p ps h = (and_parts _ _ h).1

-- two lists of trees that agree below a bound
module _ (ts us : List Tree) (bound : ℕ) (same : (i : ℕ) → i < bound → get_or us i nothing ≡ get_or ts i nothing) where
  type_same : (ty : WitType) → type_below bound ty ≡ true → tree_in us ty ≡ tree_in ts ty
  unfolding type_below
  type_same wit.Bool h = refl
  type_same wit.U8 h = refl
  type_same wit.U16 h = refl
  type_same wit.U32 h = refl
  type_same wit.U64 h = refl
  type_same wit.S8 h = refl
  type_same wit.S16 h = refl
  type_same wit.S32 h = refl
  type_same wit.S64 h = refl
  type_same wit.F32 h = refl
  type_same wit.F64 h = refl
  type_same wit.Char h = refl
  type_same wit.String h = refl
  type_same wit.ErrorContext h = refl
  type_same (wit.Id id) h = same id.0 (ltb-true id.0 bound h)

  payload_same : (p : Option WitType) → payload_below bound p ≡ true → payload_in us p ≡ payload_in ts p
  unfolding payload_below
  payload_same None h = refl
  payload_same (Some ty) h = type_same ty h

  payloads_same : (ps : List (Option WitType)) → list_all (payload_below bound) ps ≡ true → payloads_in us ps ≡ payloads_in ts ps
  payloads_same [] h = refl
  payloads_same (p ∷ ps) h =
      let b = and_parts _ _ h in ap₂ more (payload_same p b.0) (payloads_same ps b.1)

  kind_same : (kind : TypeDefKind) → parts_below bound kind ≡ true → tree_by us kind ≡ tree_by ts kind
  unfolding parts_below parts
  kind_same (kind.Alias ty) h = payload_same (Some ty) (first_below bound (Some ty) [] h)
  kind_same (kind.Handle handle) h = refl
  kind_same (kind.List element) h = ap list (payload_same (Some element) (first_below bound (Some element) [] h))
  kind_same (kind.Map k v) h =
      ap₂ pairs (payload_same (Some k) (first_below bound (Some k) (Some v ∷ []) h)) (payload_same (Some v) (first_below bound (Some v) [] (later_below bound (Some k) (Some v ∷ []) h)))
  kind_same (kind.FixedLengthList element n) h = ap (λ t. fixed t n) (payload_same (Some element) (first_below bound (Some element) [] h))
  kind_same (kind.Tuple members) h = ap fields (payloads_same (map (λ ty. Some ty) members) h)
  kind_same (kind.Option payload) h =
      ap (λ t. cases (more nothing (more t none))) (payload_same (Some payload) (first_below bound (Some payload) [] h))
  kind_same (kind.Result ok err) h =
      ap₂ (λ t u. cases (more t (more u none))) (payload_same ok (first_below bound ok (err ∷ []) h)) (payload_same err (first_below bound err [] (later_below bound ok (err ∷ []) h)))
  kind_same (kind.Record members) h = ap fields (payloads_same (map (λ f. Some f.ty) members) h)
  kind_same (kind.Variant members) h = ap cases (payloads_same (map (λ c. c.ty) members) h)
  kind_same (kind.Enum members) h = refl
  kind_same (kind.Flags members) h = refl
  kind_same kind.Resource h = refl
  kind_same (kind.Future payload) h = refl
  kind_same (kind.Stream payload) h = refl
  kind_same kind.Unknown h = refl

-- the trees so far stay
kept : (ts : List Tree) (types : List TypeDef) (i : ℕ) → i < length ts → get_or (trees_behind ts types) i nothing ≡ get_or ts i nothing
kept ts [] i l = refl
kept ts (t ∷ types) i l =
    kept (ts ++ tree_by ts t.kind ∷ []) types i (omega (arith, length-append ts (tree_by ts t.kind ∷ []))) ∙ get_or_append_left ts (tree_by ts t.kind ∷ []) nothing i l

-- types that come behind so many others, each naming lower ids
abbrev GoesDownFrom : ℕ → List TypeDef → Type 0
GoesDownFrom first types = (k : ℕ) (t : TypeDef) → slice_get types k ≡ Some t → parts_below (first + k) t.kind ≡ true

tree_behind : (ts : List Tree) (types : List TypeDef) (i : ℕ) (t : TypeDef) → GoesDownFrom (length ts) types → slice_get types i ≡ Some t → get_or (trees_behind ts types) (length ts + i) nothing ≡ tree_by (trees_behind ts types) t.kind
tree_behind ts [] i t down e = cc
tree_behind ts (first ∷ types) zero t down e =
    let us = ts ++ tree_by ts first.kind ∷ [] in
    let all = trees_behind us types in
    let len = length-append ts (tree_by ts first.kind ∷ []) in
    let is : first ≡ t = cc in
    let below : parts_below (length ts) t.kind ≡ true = subst (λ n. parts_below n t.kind ≡ true) (omega arith) (down 0 t e) in
    let place : length ts + 0 ≡ length ts = omega arith in
    let stays : get_or all (length ts) nothing ≡ tree_by ts first.kind = kept us types (length ts) (omega (arith, len)) ∙ get_or_push ts (tree_by ts first.kind) nothing (length ts) refl in
    ap (λ n. get_or all n nothing) place ∙ stays ∙ ap (λ (u : TypeDef). tree_by ts u.kind) is ∙ sym (kind_same ts all (length ts) (λ i below. kept us types i (omega (arith, len)) ∙ get_or_append_left ts (tree_by ts first.kind ∷ []) nothing i below) t.kind below)
tree_behind ts (first ∷ types) (suc i) t down e =
    let us = ts ++ tree_by ts first.kind ∷ [] in
    let len : length us ≡ suc (length ts) = length-append ts (tree_by ts first.kind ∷ []) ∙ omega arith in
    let later : GoesDownFrom (length us) types = λ k u is. subst (λ n. parts_below n u.kind ≡ true) (omega (arith, len)) (down (suc k) u is) in
    ap (λ n. get_or (trees_behind us types) n nothing) (omega (arith, len)) ∙ tree_behind us types i t later e

pub tree_at_by : (types : List TypeDef) (i : ℕ) (t : TypeDef) → GoesDown types → slice_get types i ≡ Some t → tree_at types i ≡ tree_by (trees types) t.kind
unfolding trees
tree_at_by types i t down e =
    let place : i ≡ 0 + i = omega arith in
    let from : GoesDownFrom 0 types = λ k u is. subst (λ n. parts_below n u.kind ≡ true) (omega arith) (down k u is) in
    ap (λ n. get_or (trees_behind [] types) n nothing) place ∙ tree_behind [] types i t from e

trees_behind-length : (ts : List Tree) (types : List TypeDef) → length (trees_behind ts types) ≡ length ts + length types
trees_behind-length ts [] = omega arith
trees_behind-length ts (t ∷ types) = trees_behind-length (ts ++ tree_by ts t.kind ∷ []) types ∙ omega (arith, length-append ts (tree_by ts t.kind ∷ []))

-- each type has a tree
pub trees-length : (types : List TypeDef) → length (trees types) ≡ length types
unfolding trees
trees-length types = trees_behind-length [] types ∙ omega arith
