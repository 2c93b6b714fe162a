-- How a type is printed does not depend on the levels that are left, where these reach.
use Rattle.std.proofs.Common.{◌≡◌, ℕ, zero, suc, ◌<◌, true, List, [], ◌∷◌, map, Option, None, Some, refl, sym, ap, ap₂, ◌∙◌, arith}
use Rattle.std.specs.Prelude.{slice_get}
use Rattle.std.specs.List.{list_all}
use Rattle.std.proofs.lemmas.Bool.{and_parts, lt-ltb}
use Rattle.wit_model.specs.declared.name.Name.{Name}
use Rattle.wit_model.specs.declared.name.TypeId.{TypeId}
use Rattle.wit_model.specs.declared.types.TypeDef.{TypeDef}
use Rattle.wit_model.specs.declared.types.TypeDefKind.{TypeDefKind}
use Rattle.wit_model.specs.declared.types.TypeDefKind.TheVariants as kind
use Rattle.wit_model.specs.declared.types.WitType.{WitType}
use Rattle.wit_model.specs.declared.types.WitType.TheVariants.{Id}
use Rattle.wit_model.specs.Parts.{parts}
use Rattle.wit_model.specs.TypeOrder.{GoesDown, parts_below, payload_below, type_below}
use Rattle.wit_model.proofs.BelowLemmas.{id_below, type_below_more}
use Rattle.rust_tree.specs.declared.type_expr.TypeExpr.{TypeExpr}
use Rattle.rust_tree.specs.declared.type_expr.TypeExpr.TheVariants as type
use Rattle.type_defs.specs.PartType.{entry_type, found_type, levels_of, part_type, payload_type, type_within}
use Rattle.type_defs.proofs.ParamLemmas.{result-below}

pub below-itself : (ty : WitType) → type_below (levels_of ty) ty ≡ true
unfolding type_below
below-itself (Id id) = lt-ltb id.0 (suc id.0) (omega arith)
below-itself _ = refl

-- two printers that agree on what is below a bound print an entry alike, whose parts are
module _ (bound : ℕ) (p q : WitType → TypeExpr) (same : (ty : WitType) → type_below bound ty ≡ true → p ty ≡ q ty) where
  parts-alike : (tys : List WitType) → list_all (λ part. payload_below bound part) (map (λ ty. Some ty) tys) ≡ true → map p tys ≡ map q tys
  unfolding payload_below
  parts-alike [] h = refl
  parts-alike (ty ∷ tys) h =
      let both = and_parts (type_below bound ty) (list_all (λ part. payload_below bound part) (map (λ ty. Some ty) tys)) h in
      ap₂ (λ e es. e ∷ es) (same ty both.0) (parts-alike tys both.1)

  payload-alike : (payload : Option WitType) → payload_below bound payload ≡ true → payload_type p payload ≡ payload_type q payload
  unfolding payload_below
  payload-alike None h = refl
  payload-alike (Some ty) h = same ty h

  entry-alike : (k : TypeDefKind) (name : Option Name) → parts_below bound k ≡ true → entry_type p k name ≡ entry_type q k name
  unfolding parts_below parts payload_below
  entry-alike k (Some name) h = refl
  entry-alike (kind.Alias ty) None h = same ty (and_parts (type_below bound ty) true h).0
  entry-alike (kind.Tuple tys) None h = ap type.Tuple (parts-alike tys h)
  entry-alike (kind.Option ty) None h = ap type.Optional (same ty (and_parts (type_below bound ty) true h).0)
  entry-alike (kind.Result ok err) None h =
      let both = result-below bound ok err h in
      ap₂ type.Result (payload-alike ok both.0) (payload-alike err both.1)
  entry-alike _ None h = refl

pub within-same : (types : List TypeDef) → GoesDown types → (n m : ℕ) (ty : WitType) → type_below n ty ≡ true → type_below m ty ≡ true → type_within types n ty ≡ type_within types m ty
within-same types down zero m (Id id) h g = let none : id.0 < 0 = id_below 0 id h in absurd (omega arith)
within-same types down (suc n) zero (Id id) h g = let none : id.0 < 0 = id_below 0 id g in absurd (omega arith)
within-same types down (suc n) (suc m) (Id id) h g = go (slice_get types id.0) refl (λ ty h g. within-same types down n m ty h g)
  where
    go : (o : Option TypeDef) → slice_get types id.0 ≡ o → ((ty : WitType) → type_below n ty ≡ true → type_below m ty ≡ true → type_within types n ty ≡ type_within types m ty)
        → found_type (type_within types n) (slice_get types id.0) ≡ found_type (type_within types m) (slice_get types id.0)
    go None at further = ap (found_type (type_within types n)) at ∙ sym (ap (found_type (type_within types m)) at)
    go (Some entry) at further =
        let high = id_below (suc n) id h in
        let higher = id_below (suc m) id g in
        ap (found_type (type_within types n)) at
        ∙ entry-alike id.0 (type_within types n) (type_within types m) (λ ty low. further ty (type_below_more id.0 n ty (omega arith) low) (type_below_more id.0 m ty (omega arith) low)) entry.kind entry.name (down id.0 entry at)
        ∙ sym (ap (found_type (type_within types m)) at)
within-same types down zero zero _ h g = refl
within-same types down zero (suc m) _ h g = refl
within-same types down (suc n) zero _ h g = refl
within-same types down (suc n) (suc m) _ h g = refl

-- a type at its own levels
pub part-within : (types : List TypeDef) → GoesDown types → (n : ℕ) (ty : WitType) → type_below n ty ≡ true → type_within types n ty ≡ part_type types ty
unfolding part_type
part-within types down n ty h = within-same types down n (levels_of ty) ty h (below-itself ty)

-- an entry of the table, by the printed types of its parts
pub printed-entry : (types : List TypeDef) → GoesDown types → (id : TypeId) (entry : TypeDef) → slice_get types id.0 ≡ Some entry → part_type types (Id id) ≡ entry_type (part_type types) entry.kind entry.name
unfolding part_type
printed-entry types down id entry at =
    ap (found_type (type_within types id.0)) at ∙ entry-alike id.0 (type_within types id.0) (part_type types) (part-within types down id.0) entry.kind entry.name (down id.0 entry at)
