-- What a served type is made of is served too.
use Rattle.std.proofs.Common.{◌≡◌, ℕ, zero, suc, ◌<◌, ◌≤◌, ◌^◌, Bool, true, false, List, [], ◌∷◌, length, map, get_or, Option, Some, slice_get, slice_index_or, refl, ap, ◌∙◌, subst, arith}
use Rattle.wit_model.specs.TypeOrder.{GoesDown}
use Rattle.wit_model.specs.declared.types.Case.{Case}
use Rattle.wit_model.specs.declared.types.Field.{Field}
use Rattle.wit_model.specs.declared.types.Handle.TheVariants.{Borrow, Own}
use Rattle.wit_model.specs.declared.types.Member.{Member}
use Rattle.wit_model.specs.declared.types.TypeDef.{TypeDef}
use Rattle.wit_model.specs.declared.types.TypeDefKind.{TypeDefKind}
use Rattle.wit_model.specs.declared.types.TypeDefKind.TheVariants as kind
use Rattle.wit_model.specs.declared.types.WitType.{WitType}
use Rattle.wrapper_meaning.specs.Shape.{Shape, handle_of, nothing, payload_in, payloads_in, shape_at, shape_by, shape_of, shapes}
use Rattle.wrapper_meaning.specs.Shape.Shape.{cases, resource}
use Rattle.wrapper_meaning.proofs.ShapeIsByKind.{shape_is_by_kind}
use Rattle.abi_bindgen.specs.HasList.{IsKindOf}
use Rattle.abi_bindgen.specs.Instructions.{shapes_of}
use Rattle.abi_bindgen.specs.Served.{Serves, ServesAll}
use Rattle.abi_bindgen.proofs.BareCases.{count_bare}
use Rattle.abi_bindgen.proofs.Payloads.{count_payloads}
use Rattle.abi_bindgen.proofs.Records.{alias_shape, enum_shape, record_shape, tuple_shape}

-- one payload of several, and one type

pub payload_served : (types : List TypeDef) (payloads : List (Option WitType)) (i : ℕ) (d : Option WitType) → ServesAll (payloads_in (shapes types) payloads) → i < length payloads → Serves (payload_in (shapes types) (get_or payloads i d))
payload_served types [] i d all short = absurd (omega (arith, short))
payload_served types (p ∷ payloads) zero d all short = all.0
payload_served types (p ∷ payloads) (suc i) d all short = payload_served types payloads i d all.1 (omega (arith, short))

pub part_served : (types : List TypeDef) (tys : List WitType) (i : ℕ) (d : WitType) → ServesAll (shapes_of types tys) → i < length tys → Serves (shape_of types (get_or tys i d))
part_served types [] i d all short = absurd (omega (arith, short))
part_served types (ty ∷ tys) zero d all short = all.0
part_served types (ty ∷ tys) (suc i) d all short = part_served types tys i d all.1 (omega (arith, short))

-- an entry of the table that was read
module _ (types : List TypeDef) (down : GoesDown types) (id : ℕ) (entry : TypeDef) (at : slice_get types id ≡ Some entry) (served : Serves (shape_at types id)) where
  pub alias_served : (ty : WitType) → entry.kind ≡ kind.Alias ty → Serves (shape_of types ty)
  alias_served ty is = subst Serves (alias_shape types down id entry at ty is) served

  pub record_served : (members : List Field) → entry.kind ≡ kind.Record members → ServesAll (shapes_of types (map (λ f. f.ty) members))
  record_served members is = subst Serves (record_shape types down id entry at members is) served

  pub tuple_served : (tys : List WitType) → entry.kind ≡ kind.Tuple tys → ServesAll (shapes_of types tys)
  tuple_served tys is = subst Serves (tuple_shape types down id entry at tys is) served

  pub enum_served : (members : List Member) → entry.kind ≡ kind.Enum members → length members ≤ 2 ^ 31
  enum_served members is = let few = (subst Serves (enum_shape types down id entry at members is) served).0 in omega (arith, few, count_bare members)

-- cases with payloads of the table
module _ (types : List TypeDef) (id : ℕ) (payloads : List (Option WitType)) (cases_are : shape_at types id ≡ cases (payloads_in (shapes types) payloads)) (served : Serves (shape_at types id)) where
  served_cases : Serves (cases (payloads_in (shapes types) payloads))
  served_cases = subst Serves cases_are served

  pub payloads_served : ServesAll (payloads_in (shapes types) payloads)
  payloads_served = served_cases.1

  pub few_payloads : length payloads ≤ 2 ^ 31
  few_payloads = omega (arith, served_cases.0, count_payloads (shapes types) payloads)

-- a kind that is none of those that are served
pub record IsOther (k : TypeDefKind) : Type 0 where
  pub alias : (ty : WitType) → k ≡ kind.Alias ty → ⊥
  pub tuple : (tys : List WitType) → k ≡ kind.Tuple tys → ⊥
  pub option : (ty : WitType) → k ≡ kind.Option ty → ⊥
  pub result : (ok err : Option WitType) → k ≡ kind.Result ok err → ⊥
  pub fields : (members : List Field) → k ≡ kind.Record members → ⊥
  pub variant : (members : List Case) → k ≡ kind.Variant members → ⊥
  pub enum : (members : List Member) → k ≡ kind.Enum members → ⊥
  pub flags : (members : List Member) → k ≡ kind.Flags members → ⊥

handle_refused : (owns : Bool) (t : Shape) → Serves (handle_of owns t) → ⊥
handle_refused owns (resource n) h = h
handle_refused owns _ h = h

kind_refused : (types : List TypeDef) (id : ℕ) (k : TypeDefKind) → Serves (shape_by id (shapes types) k) → IsOther k → ⊥
kind_refused types id (kind.Alias ty) h other = other.alias ty refl
kind_refused types id (kind.Tuple tys) h other = other.tuple tys refl
kind_refused types id (kind.Option ty) h other = other.option ty refl
kind_refused types id (kind.Result ok err) h other = other.result ok err refl
kind_refused types id (kind.Record members) h other = other.fields members refl
kind_refused types id (kind.Variant members) h other = other.variant members refl
kind_refused types id (kind.Enum members) h other = other.enum members refl
kind_refused types id (kind.Flags members) h other = other.flags members refl
kind_refused types id (kind.Handle (Own owned)) h other = handle_refused true (slice_index_or (shapes types) owned.0 nothing) h
kind_refused types id (kind.Handle (Borrow lent)) h other = handle_refused false (slice_index_or (shapes types) lent.0 nothing) h
kind_refused types id _ h other = h

pub other_refused : (types : List TypeDef) → GoesDown types → (id : ℕ) (k : TypeDefKind) → IsKindOf types id k → Serves (shape_at types id) → IsOther k → ⊥
other_refused types down id k here served other =
    let shape : shape_at types id ≡ shape_by id (shapes types) k = shape_is_by_kind types id here.entry down here.stands ∙ ap (shape_by id (shapes types)) here.kind in
    kind_refused types id k (subst Serves shape served) other
