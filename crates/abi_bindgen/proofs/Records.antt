-- Aliases, records, tuples, enums and flags of the table, and the types of their parts.
use Rattle.std.proofs.Common.{◌≡◌, ℕ, zero, suc, ◌+◌, ◌≤◌, ◌<◌, ◌^◌, true, Bool, ◌&&◌, List, [], ◌∷◌, length, map, drop, get_or, Option, Some, refl, sym, ap, ap₂, ◌∙◌, arith}
use Rattle.std.specs.List.{slice_get, list_all}
use Rattle.std.proofs.lemmas.Option.{slice_get-get_or}
use Rattle.std.proofs.lemmas.List.{drop_more, length-map}
use Rattle.std.proofs.lemmas.Bool.{and_parts}
use Rattle.wit_model.specs.WellFormed.{IsWellFormed}
use Rattle.wit_model.specs.declared.resolve.Resolve.{Resolve}
use Rattle.wit_model.specs.declared.types.Field.{Field}
use Rattle.wit_model.specs.declared.types.Member.{Member}
use Rattle.wit_model.specs.declared.types.TypeDef.{TypeDef}
use Rattle.wit_model.specs.declared.types.TypeDefKind.{TypeDefKind}
use Rattle.wit_model.specs.declared.types.TypeDefKind.TheVariants as kind
use Rattle.wit_model.specs.declared.types.WitType.{WitType}
use Rattle.wit_model.specs.Parts.{parts}
use Rattle.wit_model.specs.TypeOrder.{GoesDown, payload_below, parts_below, type_below}
use Rattle.wit_layout.proofs.FillSteps.{kind_short}
use Rattle.wit_layout.proofs.PartSteps.{parts_short}
use Rattle.wit_layout.proofs.FlattenSteps.{part_in_table, part_rank, payload_rank_below, rank}
use Rattle.wrapper_meaning.specs.Shape.{bare, payloads_in, shape_at, shape_by, shape_of, shapes}
use Rattle.wrapper_meaning.specs.Shape.Shape.{cases, fields, flags, tuple}
use Rattle.wrapper_meaning.proofs.ShapeIsByKind.{shape_is_by_kind}
use Rattle.wrapper_meaning.proofs.Lists.{some_same}
use Rattle.abi_bindgen.specs.HasList.{IsKindOf}
use Rattle.abi_bindgen.specs.Instructions.{IsRecord, field_shapes, shapes_of}
use Rattle.abi_bindgen.specs.Parts.{count}
use Rattle.wit_model.proofs.BelowLemmas.{payload_below_more}

pub count-shapes : (types : List TypeDef) (tys : List WitType) → count (shapes_of types tys) ≡ length tys
count-shapes types [] = refl
count-shapes types (ty ∷ tys) = ap suc (count-shapes types tys)

pub field_count : (types : List TypeDef) (members : List Field) → count (field_shapes types members) ≡ length members
field_count types members = count-shapes types (map (λ (f : Field). f.ty) members) ∙ length-map members (λ (f : Field). f.ty)

pub map-twice : (members : List Field) → map (λ ty. Some ty) (map (λ (f : Field). f.ty) members) ≡ map (λ (f : Field). Some f.ty) members
map-twice [] = refl
map-twice (f ∷ members) = ap (λ ps. Some f.ty ∷ ps) (map-twice members)

-- a list that is bounded as payloads is bounded as types
pub all_below : (bound : ℕ) (tys : List WitType) → list_all (λ p. payload_below bound p) (map (λ ty. Some ty) tys) ≡ true → list_all (λ ty. type_below bound ty) tys ≡ true
unfolding payload_below
all_below bound [] h = refl
all_below bound (ty ∷ tys) h = let b = and_parts _ _ h in ap₂ (λ x y. x && y) b.0 (all_below bound tys b.1)

-- an entry of the table that was read
module _ (types : List TypeDef) (down : GoesDown types) (id : ℕ) (entry : TypeDef) (at : slice_get types id ≡ Some entry) where
  shape_here : (k : TypeDefKind) → entry.kind ≡ k → shape_at types id ≡ shape_by id (shapes types) k
  shape_here k e = shape_is_by_kind types id entry down at ∙ ap (shape_by id (shapes types)) e

  pub alias_shape : (ty : WitType) → entry.kind ≡ kind.Alias ty → shape_at types id ≡ shape_of types ty
  alias_shape ty e = shape_here (kind.Alias ty) e

  pub alias_rank : (ty : WitType) → entry.kind ≡ kind.Alias ty → rank ty ≤ id
  unfolding parts
  alias_rank ty e = part_rank types down id entry at (Some ty) 0 (ap (λ k. slice_get (parts k) 0) e)

  pub alias_below : (ty : WitType) → entry.kind ≡ kind.Alias ty → id < length types → type_below (length types) ty ≡ true
  unfolding parts payload_below
  alias_below ty e l = part_in_table types down id entry at (Some ty) 0 (ap (λ k. slice_get (parts k) 0) e) l

  pub record_shape : (members : List Field) → entry.kind ≡ kind.Record members → shape_at types id ≡ fields (field_shapes types members)
  record_shape members e = shape_here (kind.Record members) e ∙ ap (λ ps. fields (payloads_in (shapes types) ps)) (sym (map-twice members))

  pub record_below : (members : List Field) → entry.kind ≡ kind.Record members → list_all (λ ty. type_below id ty) (map (λ (f : Field). f.ty) members) ≡ true
  unfolding parts_below parts
  record_below members e =
      all_below id (map (λ (f : Field). f.ty) members) (ap (list_all (λ p. payload_below id p)) (map-twice members) ∙ sym (ap (parts_below id) e) ∙ down id entry at)

  pub tuple_shape : (tys : List WitType) → entry.kind ≡ kind.Tuple tys → shape_at types id ≡ tuple (shapes_of types tys)
  tuple_shape tys e = shape_here (kind.Tuple tys) e

  pub tuple_below : (tys : List WitType) → entry.kind ≡ kind.Tuple tys → list_all (λ ty. type_below id ty) tys ≡ true
  unfolding parts_below parts
  tuple_below tys e = all_below id tys (sym (ap (parts_below id) e) ∙ down id entry at)

  pub enum_shape : (members : List Member) → entry.kind ≡ kind.Enum members → shape_at types id ≡ cases (bare members)
  enum_shape members e = shape_here (kind.Enum members) e

  pub flags_shape : (members : List Member) → entry.kind ≡ kind.Flags members → shape_at types id ≡ flags (length members)
  flags_shape members e = shape_here (kind.Flags members) e

-- what was read at a place of the table is its entry
pub entry_at : (types read : List TypeDef) (id : ℕ) (d : TypeDef) → read ≡ types → id < length types → d ≡ get_or read id d → slice_get types id ≡ Some d
entry_at types read id d same within is = slice_get-get_or types id d within ∙ ap Some (ap (λ (ts : List TypeDef). get_or ts id d) (sym same) ∙ sym is)

pub kind_at : (read : List TypeDef) (id : ℕ) (d : TypeDef) (k : TypeDefKind) → d ≡ get_or read id d → (get_or read id d).kind ≡ k → d.kind ≡ k
kind_at read id d k is e = ap (λ (t : TypeDef). t.kind) is ∙ e

-- an entry of the table is a record of one list of fields
members_of : TypeDefKind → List Field
members_of (kind.Record members) = members
members_of _ = []

pub one_record : (types : List TypeDef) (id : ℕ) (xs ys : List Field) → IsRecord types id xs → IsRecord types id ys → xs ≡ ys
unfolding members_of
one_record types id xs ys a b = ap members_of (sym a.kind ∙ ap (λ (t : TypeDef). t.kind) (some_same a.entry b.entry (sym a.at ∙ b.at)) ∙ b.kind)

-- a type of a bounded list
all_get : {A : Type 0} (p : A → Bool) (xs : List A) (i : ℕ) (d : A) → list_all p xs ≡ true → i < length xs → p (get_or xs i d) ≡ true
all_get p [] i d h l = absurd (omega (arith, l))
all_get p (x ∷ xs) zero d h l = (and_parts _ _ h).0
all_get p (x ∷ xs) (suc i) d h l = all_get p xs i d (and_parts _ _ h).1 (omega (arith, l))

module _ (bound : ℕ) (tys : List WitType) (below : list_all (λ ty. type_below bound ty) tys ≡ true) (i : ℕ) (d : WitType) (short : i < length tys) where
  part_low : payload_below bound (Some (get_or tys i d)) ≡ true
  unfolding payload_below
  part_low = all_get (λ x. type_below bound x) tys i d below short

  pub part_ranked : rank (get_or tys i d) ≤ bound
  part_ranked = payload_rank_below bound (Some (get_or tys i d)) part_low

  pub part_below_within : (n : ℕ) → bound ≤ n → type_below n (get_or tys i d) ≡ true
  unfolding payload_below
  part_below_within n l = payload_below_more bound n (Some (get_or tys i d)) l part_low

  pub part_below_table : (n : ℕ) → bound < n → type_below n (get_or tys i d) ≡ true
  part_below_table n l = part_below_within n (omega (arith, l))

pub drop-more : {A : Type 0} (xs : List A) (i : ℕ) (x : A) → i < length xs → x ≡ get_or xs i x → drop i xs ≡ x ∷ drop (i + 1) xs
drop-more xs i x h e = drop_more xs i x h ∙ ap (λ y. y ∷ drop (i + 1) xs) (sym e)

pub drop-same : {A : Type 0} (xs ys : List A) (i : ℕ) (x y : A) → ys ≡ xs → i < length xs → y ≡ get_or ys i y → x ≡ y → drop i xs ≡ x ∷ drop (i + 1) xs
drop-same xs ys i x y same short at is = drop-more xs i x short (is ∙ at ∙ ap (λ zs. get_or zs i y) same ∙ ap (λ z. get_or xs i z) (sym is))

-- a payload of bounded ones
module _ (bound : ℕ) (payloads : List (Option WitType)) (below : list_all (λ p. payload_below bound p) payloads ≡ true) (i : ℕ) (d : Option WitType) (short : i < length payloads) where
  pub payload_low : payload_below bound (get_or payloads i d) ≡ true
  payload_low = all_get (λ p. payload_below bound p) payloads i d below short

pub payload_type_low : (bound : ℕ) (ty : WitType) → payload_below bound (Some ty) ≡ true → type_below bound ty ≡ true
unfolding payload_below
payload_type_low bound ty h = h

pub type_ranked : (bound : ℕ) (ty : WitType) → type_below bound ty ≡ true → rank ty ≤ bound
unfolding payload_below
type_ranked bound ty h = payload_rank_below bound (Some ty) h

pub type_below_table : (bound n : ℕ) (ty : WitType) → type_below bound ty ≡ true → bound < n → type_below n ty ≡ true
unfolding payload_below
type_below_table bound n ty h l = payload_below_more bound n (Some ty) (omega (arith, l)) h

-- the check of a table counts the parts of a tuple
pub tuple_short : (r : Resolve) → IsWellFormed r → (id : ℕ) (members : List WitType) → IsKindOf r.types id (kind.Tuple members) → length members < 2 ^ 32
unfolding parts
tuple_short r well id members here =
    let short = parts_short here.entry.kind (kind_short r well.numbered id here.entry here.stands) in
    omega (arith, short, ap (λ (k : TypeDefKind). length (parts k)) here.kind, length-map members (λ (ty : WitType). Some ty))
