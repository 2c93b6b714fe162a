-- What a kind has a list by: its parts, unless it is one itself.
use Rattle.std.proofs.Common.{◌≡◌, ℕ, ◌+◌, ◌≤◌, ◌<◌, ◌||◌, Bool, true, false, List, [], ◌∷◌, length, map, drop, Option, None, Some, refl, sym, ap, ap₂, ◌∙◌}
use Rattle.std.specs.List.{list_any, slice_get, slice_index_or}
use Rattle.std.proofs.lemmas.List.{drop_more}
use Rattle.std.proofs.lemmas.Option.{slice_get-get_or}
use Rattle.wit_model.specs.declared.types.Case.{Case}
use Rattle.wit_model.specs.declared.types.Field.{Field}
use Rattle.wit_model.specs.declared.types.Handle.TheVariants.{Own, Borrow}
use Rattle.wit_model.specs.declared.types.TypeDef.{TypeDef}
use Rattle.wit_model.specs.declared.types.TypeDefKind.{TypeDefKind}
use Rattle.wit_model.specs.declared.types.TypeDefKind.TheVariants as kind
use Rattle.wit_model.specs.declared.types.WitType.{WitType}
use Rattle.wit_model.specs.Parts.{parts}
use Rattle.wit_model.specs.TypeOrder.{GoesDown, payload_below, type_below}
use Rattle.wit_layout.proofs.FlattenSteps.{part_in_table, part_rank, rank}
use Rattle.wrapper_meaning.specs.Kinds.{has_list, have_list}
use Rattle.wrapper_meaning.specs.Shape.{Shape, bare, handle_of, nothing, payload_in, payloads_in, shape_at, shape_by, shapes}
use Rattle.wrapper_meaning.proofs.Lists.{some_same}
use Rattle.wrapper_meaning.proofs.ShapeIsByKind.{shape_is_by_kind}
use Rattle.abi_bindgen.specs.HasList.{IsKindOf, is_list, is_told_by_parts, payload_has_list}

payload_has : (types : List TypeDef) (p : Option WitType) → has_list (payload_in (shapes types) p) ≡ payload_has_list types p
payload_has types None = refl
payload_has types (Some ty) = refl

payloads_have : (types : List TypeDef) (ps : List (Option WitType)) → have_list (payloads_in (shapes types) ps) ≡ list_any (payload_has_list types) ps
payloads_have types [] = refl
payloads_have types (p ∷ ps) = ap₂ (λ a b. a || b) (payload_has types p) (payloads_have types ps)

bare_have : {A : Type 0} (members : List A) → have_list (bare members) ≡ false
bare_have [] = refl
bare_have (x ∷ members) = bare_have members

or_false : (b : Bool) → b ≡ (b || false)
or_false true = refl
or_false false = refl

kind_has : (types : List TypeDef) (n : ℕ) (k : TypeDefKind) → is_list k ≡ false → is_told_by_parts k ≡ true → has_list (shape_by n (shapes types) k) ≡ list_any (payload_has_list types) (parts k)
unfolding parts
kind_has types n (kind.Alias ty) apart told = or_false (payload_has_list types (Some ty))
kind_has types n (kind.Handle x) apart told = absurd (let e = apart in let f = told in cc)
kind_has types n (kind.List ty) apart told = absurd (let e = apart in let f = told in cc)
kind_has types n (kind.Map k v) apart told = absurd (let e = apart in let f = told in cc)
kind_has types n (kind.FixedLengthList ty m) apart told = or_false (payload_has_list types (Some ty))
kind_has types n (kind.Tuple members) apart told = payloads_have types (map (λ ty. Some ty) members)
kind_has types n (kind.Option ty) apart told = refl
kind_has types n (kind.Result ok err) apart told = ap₂ (λ a b. a || (b || false)) (payload_has types ok) (payload_has types err)
kind_has types n (kind.Record members) apart told = payloads_have types (map (λ (f : Field). Some f.ty) members)
kind_has types n (kind.Variant members) apart told = payloads_have types (map (λ (c : Case). c.ty) members)
kind_has types n (kind.Enum members) apart told = bare_have members
kind_has types n (kind.Flags members) apart told = refl
kind_has types n kind.Resource apart told = refl
kind_has types n (kind.Future p) apart told = absurd (let e = apart in let f = told in cc)
kind_has types n (kind.Stream p) apart told = absurd (let e = apart in let f = told in cc)
kind_has types n kind.Unknown apart told = refl

lists_have : (types : List TypeDef) (n : ℕ) (k : TypeDefKind) → is_list k ≡ true → has_list (shape_by n (shapes types) k) ≡ true
lists_have types n (kind.Alias ty) h = absurd (let e = h in cc)
lists_have types n (kind.Handle x) h = absurd (let e = h in cc)
lists_have types n (kind.List ty) h = refl
lists_have types n (kind.Map k v) h = refl
lists_have types n (kind.FixedLengthList ty m) h = absurd (let e = h in cc)
lists_have types n (kind.Tuple members) h = absurd (let e = h in cc)
lists_have types n (kind.Option ty) h = absurd (let e = h in cc)
lists_have types n (kind.Result ok err) h = absurd (let e = h in cc)
lists_have types n (kind.Record members) h = absurd (let e = h in cc)
lists_have types n (kind.Variant members) h = absurd (let e = h in cc)
lists_have types n (kind.Enum members) h = absurd (let e = h in cc)
lists_have types n (kind.Flags members) h = absurd (let e = h in cc)
lists_have types n kind.Resource h = absurd (let e = h in cc)
lists_have types n (kind.Future p) h = absurd (let e = h in cc)
lists_have types n (kind.Stream p) h = absurd (let e = h in cc)
lists_have types n kind.Unknown h = absurd (let e = h in cc)

handle_has : (owns : Bool) (s : Shape) → has_list (handle_of owns s) ≡ false
handle_has owns (Shape.resource n) = refl
handle_has owns _ = refl

untold_have : (types : List TypeDef) (n : ℕ) (k : TypeDefKind) → is_told_by_parts k ≡ false → has_list (shape_by n (shapes types) k) ≡ false
untold_have types n (kind.Alias ty) h = absurd (let e = h in cc)
untold_have types n (kind.Handle (Own id)) h = handle_has true (slice_index_or (shapes types) id.0 nothing)
untold_have types n (kind.Handle (Borrow id)) h = handle_has false (slice_index_or (shapes types) id.0 nothing)
untold_have types n (kind.List ty) h = absurd (let e = h in cc)
untold_have types n (kind.Map k v) h = absurd (let e = h in cc)
untold_have types n (kind.FixedLengthList ty m) h = absurd (let e = h in cc)
untold_have types n (kind.Tuple members) h = absurd (let e = h in cc)
untold_have types n (kind.Option ty) h = absurd (let e = h in cc)
untold_have types n (kind.Result ok err) h = absurd (let e = h in cc)
untold_have types n (kind.Record members) h = absurd (let e = h in cc)
untold_have types n (kind.Variant members) h = absurd (let e = h in cc)
untold_have types n (kind.Enum members) h = absurd (let e = h in cc)
untold_have types n (kind.Flags members) h = absurd (let e = h in cc)
untold_have types n kind.Resource h = absurd (let e = h in cc)
untold_have types n (kind.Future p) h = refl
untold_have types n (kind.Stream p) h = refl
untold_have types n kind.Unknown h = absurd (let e = h in cc)

module _ (types : List TypeDef) (down : GoesDown types) (at : ℕ) (k : TypeDefKind) (is : IsKindOf types at k) where
  shape_here : shape_at types at ≡ shape_by at (shapes types) k
  shape_here = shape_is_by_kind types at is.entry down is.stands ∙ ap (shape_by at (shapes types)) is.kind

  pub list_has : is_list k ≡ true → has_list (shape_at types at) ≡ true
  list_has yes_list = ap has_list shape_here ∙ lists_have types at k yes_list

  pub untold : is_told_by_parts k ≡ false → has_list (shape_at types at) ≡ false
  untold none_told = ap has_list shape_here ∙ untold_have types at k none_told

  pub parts_tell : is_list k ≡ false → is_told_by_parts k ≡ true → has_list (shape_at types at) ≡ list_any (payload_has_list types) (parts k)
  parts_tell apart told = ap has_list shape_here ∙ kind_has types at k apart told

  module _ (nth : ℕ) (ty : WitType) (part : slice_get (parts k) nth ≡ Some (Some ty)) where
    there : slice_get (parts is.entry.kind) nth ≡ Some (Some ty)
    there = ap (λ x. slice_get (parts x) nth) is.kind ∙ part

    pub part_low : rank ty ≤ at
    part_low = part_rank types down at is.entry is.stands (Some ty) nth there

    pub part_below : at < length types → type_below (length types) ty ≡ true
    unfolding payload_below
    part_below l = part_in_table types down at is.entry is.stands (Some ty) nth there l

-- what the parts from one on tell
pub drop_at : {A : Type 0} (xs : List A) (i : ℕ) (x : A) → slice_get xs i ≡ Some x → i < length xs → drop i xs ≡ x ∷ drop (i + 1) xs
drop_at xs i x e l = drop_more xs i x l ∙ ap (λ y. y ∷ drop (i + 1) xs) (some_same _ _ (sym (slice_get-get_or xs i x l) ∙ e))

pub any_here : {A : Type 0} (p : A → Bool) (xs : List A) (i : ℕ) (x : A) → slice_get xs i ≡ Some x → i < length xs → p x ≡ true → list_any p (drop i xs) ≡ true
any_here p xs i x e l h = ap (list_any p) (drop_at xs i x e l) ∙ ap (λ b. b || list_any p (drop (i + 1) xs)) h

pub any_later : {A : Type 0} (p : A → Bool) (xs : List A) (i : ℕ) (x : A) → slice_get xs i ≡ Some x → i < length xs → p x ≡ false → list_any p (drop (i + 1) xs) ≡ list_any p (drop i xs)
any_later p xs i x e l h = sym (ap (list_any p) (drop_at xs i x e l) ∙ ap (λ b. b || list_any p (drop (i + 1) xs)) h)
