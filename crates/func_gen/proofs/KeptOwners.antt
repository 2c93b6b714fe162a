-- A value that comes in as one of a type owns what it did.
use Rattle.std.proofs.Common.{◌≡◌, ℕ, ℤ, zero, suc, ◌^◌, Bool, true, false, if◌then◌else◌, nat_eq, nat_lt, List, [], ◌∷◌, ◌++◌, length, map, Option, None, Some, refl, sym, ap, ap₂, ◌∙◌, subst}
use Rattle.std.specs.Prelude.{option_and_then, slice_get}
use Rattle.std.specs.Option.{option_map, option_or}
use Rattle.wit_model.specs.declared.types.WitType.{WitType}
use Rattle.rust_tree.specs.declared.enum_item.EnumItem.{EnumItem}
use Rattle.rust_tree.specs.declared.flags_item.FlagsItem.{FlagsItem}
use Rattle.rust_tree.specs.declared.item.Item.{Item}
use Rattle.rust_tree.specs.declared.type_expr.Primitive.{Primitive}
use Rattle.rust_tree.specs.declared.type_expr.Primitive.TheVariants as prim
use Rattle.rust_tree.specs.declared.type_expr.TypeExpr.{TypeExpr, TypeExpr-F, out-TypeExpr}
use Rattle.rust_tree.specs.declared.type_expr.TypeExpr.TheVariants as type
use Rattle.rust_tree.specs.declared.type_item.TypeItem.{TypeItem}
use Rattle.rust_tree.specs.declared.type_item.TypeItem.TheVariants.{Variant}
use Rattle.rust_tree.specs.declared.variant_item.VariantCase.{VariantCase}
use Rattle.wrapper_data.specs.declared.value.RustValue.{RustValue, RustValue-F, fold-roll-RustValue, ind-RustValue, map-RustValue, out-RustValue, roll-RustValue, roll-out-RustValue}
use Rattle.wrapper_data.specs.declared.value.RustValue.TheVariants as value
use Rattle.wrapper_data.specs.declared.value.RustValue.TheVariants.{rolls-Bits, rolls-Bool, rolls-Buffer, rolls-Case, rolls-Char, rolls-F32, rolls-F64, rolls-Num, rolls-Unit}
use Rattle.wrapper_values.specs.declared.state.Val.TheVariants as val
use Rattle.wrapper_values.specs.Effect.{answer_as, answer_of, is_of_kind, is_printed_as, is_scalar, is_unit, num_of_level, number_as, text_of_level, value_as}
use Rattle.wrapper_values.specs.Enums.{enum_in}
use Rattle.wrapper_values.specs.Flags.{flags_in, repr_bits}
use Rattle.wrapper_values.specs.Owning.{owned_by, owned_level, taken_by}
use Rattle.wrapper_values.specs.Typed.{Typed, definition_in, part_types_in, plain_as, typed, typed_absent, typed_alike, typed_bare, typed_by, typed_case, typed_defined, typed_each, typed_enum, typed_flags, typed_level, typed_option, typed_parts, typed_payload, typed_result, typed_unit, typed_variant, unaliased}
use Rattle.wrapper_run.specs.ExportRun.{passed_as, returned_of}
use Rattle.func_gen.specs.StandLemmas.{owned-struct}
use Rattle.func_gen.proofs.MethodValues.{as_level, value_level}

-- 1. What one level owns

abbrev level_owns : RustValue-F RustValue → List ℕ
level_owns l = owned_level (map-RustValue RustValue (List ℕ) owned_by l)

owned_roll : (l : RustValue-F RustValue) → owned_by (roll-RustValue l) ≡ level_owns l
owned_roll l = fold-roll-RustValue (List ℕ) owned_level l

owned_out : (r : RustValue) → owned_by r ≡ level_owns (out-RustValue r)
owned_out r = ap owned_by (sym (roll-out-RustValue r)) ∙ owned_roll (out-RustValue r)

-- a value that owns nothing, whatever it is
pub record Bare (c : RustValue) (l : RustValue-F RustValue) : Type 0 where
  pub value : owned_by c ≡ []
  pub level : level_owns l ≡ []

some_value : (r c : RustValue) → (let o : Option RustValue = Some r in o ≡ Some c) → owned_by r ≡ [] → owned_by c ≡ []
some_value r c h e = let same : r ≡ c = cc in ap owned_by (sym same) ∙ e

bare_num : (k : WitType) (z : ℤ) → owned_by (value.Num k z) ≡ []
bare_num k z = ap owned_by (sym (rolls-Num k z)) ∙ owned_roll (RustValue-F.Num k z)

num_bare : (p : Primitive) (l : RustValue-F RustValue) (c : RustValue) → option_and_then (number_as p) (num_of_level l) ≡ Some c → Bare c l
num_bare p (RustValue-F.Num k z) c h = in_range (is_of_kind k z) h
  where
    printed : (b : Bool) → (if b then Some (value.Num k z) else None) ≡ Some c → Bare c (RustValue-F.Num k z)
    printed true e = record { value = some_value (value.Num k z) c e (bare_num k z); level = refl }
    printed false e = absurd cc

    in_range : (a : Bool) → option_and_then (number_as p) (if a then Some (k, z) else None) ≡ Some c → Bare c (RustValue-F.Num k z)
    in_range true e = printed (is_printed_as p k) e
    in_range false e = absurd cc
num_bare p _ c h = absurd (let e = h in cc)

as_bare : (p : Primitive) (l : RustValue-F RustValue) (c : RustValue) → as_level p l ≡ Some c → Bare c l
as_bare prim.Bool (RustValue-F.Bool b) c h = record { value = some_value (value.Bool b) c h (ap owned_by (sym (rolls-Bool b)) ∙ owned_roll (RustValue-F.Bool b)); level = refl }
as_bare prim.Bool _ c h = absurd (let e = h in cc)
as_bare prim.Char (RustValue-F.Char n) c h = go (is_scalar n) h
  where
    go : (a : Bool) → option_map value.Char (if a then Some n else None) ≡ Some c → Bare c (RustValue-F.Char n)
    go true e = record { value = some_value (value.Char n) c e (ap owned_by (sym (rolls-Char n)) ∙ owned_roll (RustValue-F.Char n)); level = refl }
    go false e = absurd cc
as_bare prim.Char _ c h = absurd (let e = h in cc)
as_bare prim.F32 (RustValue-F.F32 n) c h = record { value = some_value (value.F32 n) c h (ap owned_by (sym (rolls-F32 n)) ∙ owned_roll (RustValue-F.F32 n)); level = refl }
as_bare prim.F32 _ c h = absurd (let e = h in cc)
as_bare prim.F64 (RustValue-F.F64 n) c h = record { value = some_value (value.F64 n) c h (ap owned_by (sym (rolls-F64 n)) ∙ owned_roll (RustValue-F.F64 n)); level = refl }
as_bare prim.F64 _ c h = absurd (let e = h in cc)
as_bare prim.U8 l c h = num_bare prim.U8 l c h
as_bare prim.U16 l c h = num_bare prim.U16 l c h
as_bare prim.U32 l c h = num_bare prim.U32 l c h
as_bare prim.U64 l c h = num_bare prim.U64 l c h
as_bare prim.I8 l c h = num_bare prim.I8 l c h
as_bare prim.I16 l c h = num_bare prim.I16 l c h
as_bare prim.I32 l c h = num_bare prim.I32 l c h
as_bare prim.I64 l c h = num_bare prim.I64 l c h

owned_text : (a n : ℕ) (o : Bool) → owned_by (value.Buffer a n o) ≡ level_owns (RustValue-F.Buffer a n o)
owned_text a n o = ap owned_by (sym (rolls-Buffer a n o)) ∙ owned_roll (RustValue-F.Buffer a n o)

text_keeps : (l : RustValue-F RustValue) (c : RustValue) → text_of_level l ≡ Some c → owned_by c ≡ level_owns l
text_keeps (RustValue-F.Buffer a n true) c h = let same : value.Buffer a n true ≡ c = cc in ap owned_by (sym same) ∙ owned_text a n true
text_keeps (RustValue-F.Buffer a zero false) c h = let same : value.Buffer a 0 true ≡ c = cc in ap owned_by (sym same) ∙ owned_text a 0 true
text_keeps (RustValue-F.Buffer a (suc n) false) c h = absurd cc
text_keeps _ c h = absurd (let e = h in cc)

-- 2. Of a plain type

answer_keeps : (t : TypeExpr-F TypeExpr) (r c : RustValue) → answer_as t (val.Value r) ≡ Some (Some c) → owned_by c ≡ owned_by r
answer_keeps (TypeExpr-F.Primitive p) r c h = go (value_as p (val.Value r)) refl h
  where
    go : (o : Option RustValue) → value_as p (val.Value r) ≡ o → option_map Some o ≡ Some (Some c) → owned_by c ≡ owned_by r
    go None e k = absurd cc
    go (Some d) e k =
        let same : d ≡ c = cc in
        let b = as_bare p (out-RustValue r) d (sym (value_level p r) ∙ e) in
        ap owned_by (sym same) ∙ b.value ∙ sym (owned_out r ∙ b.level)
answer_keeps TypeExpr-F.Unit r c h = go (is_unit (val.Value r)) h
  where
    go : (b : Bool) → (if b then Some None else None) ≡ Some (Some c) → owned_by c ≡ owned_by r
    go true k = absurd cc
    go false k = absurd cc
answer_keeps TypeExpr-F.String r c h = go (text_of_level (out-RustValue r)) refl h
  where
    go : (o : Option RustValue) → text_of_level (out-RustValue r) ≡ o → option_map Some o ≡ Some (Some c) → owned_by c ≡ owned_by r
    go None e k = absurd cc
    go (Some d) e k = let same : d ≡ c = cc in ap owned_by (sym same) ∙ text_keeps (out-RustValue r) d e ∙ sym (owned_out r)
answer_keeps _ r c h = absurd (let e = h in cc)

pub plain_keeps : (ty : TypeExpr) (r c : RustValue) → plain_as ty (val.Value r) ≡ Some c → owned_by c ≡ owned_by r
unfolding answer_of
plain_keeps ty r c h = go (answer_as (out-TypeExpr ty) (val.Value r)) refl h
  where
    go : (o : Option (Option RustValue)) → answer_as (out-TypeExpr ty) (val.Value r) ≡ o → option_and_then (λ r. r) o ≡ Some c → owned_by c ≡ owned_by r
    go None e k = absurd cc
    go (Some None) e k = absurd cc
    go (Some (Some d)) e k = let same : d ≡ c = cc in ap owned_by (sym same) ∙ answer_keeps (out-TypeExpr ty) r d e

-- 3. Of a type of the file

module _ (items : List Item) where
  abbrev typed_here : RustValue-F RustValue → Typed
  typed_here l ty = typed_level items (map-RustValue RustValue Typed (typed items) l) (unaliased items ty)

  typed_roll : (l : RustValue-F RustValue) (ty : TypeExpr) → typed items (roll-RustValue l) ty ≡ typed_here l ty
  typed_roll l ty = ap (λ (t : Typed). t ty) (fold-roll-RustValue Typed (λ l ty. typed_level items l (unaliased items ty)) l)

  -- a value as one of a type owns what it does
  abbrev pub Kept : RustValue → Type 0
  Kept r = (ty : TypeExpr) (c : RustValue) → typed items r ty ≡ Some c → owned_by c ≡ owned_by r

  abbrev LevelKept : RustValue-F RustValue → Type 0
  LevelKept l = (ty : TypeExpr) (c : RustValue) → typed_level items (map-RustValue RustValue Typed (typed items) l) ty ≡ Some c → owned_by c ≡ level_owns l

  kept_level : (l : RustValue-F RustValue) → LevelKept l → Kept (roll-RustValue l)
  kept_level l k ty c h = k (unaliased items ty) c (sym (typed_roll l ty) ∙ h) ∙ sym (owned_roll l)

  -- of a value without parts
  leaf_kept : (r : RustValue) (l : RustValue-F RustValue) → owned_by r ≡ level_owns l → (ty : TypeExpr) (c : RustValue) → plain_as ty (val.Value r) ≡ Some c → owned_by c ≡ level_owns l
  leaf_kept r l e ty c h = plain_keeps ty r c h ∙ e

  leaf : (r : RustValue) (l : RustValue-F RustValue) → owned_by r ≡ level_owns l → ((ty : TypeExpr) → typed_level items (map-RustValue RustValue Typed (typed items) l) ty ≡ plain_as ty (val.Value r)) → Kept (roll-RustValue l)
  leaf r l e is = kept_level l (λ ty c h. leaf_kept r l e ty c (sym (is ty) ∙ h))

  never : (l : RustValue-F RustValue) → ((ty : TypeExpr) → typed_level items (map-RustValue RustValue Typed (typed items) l) ty ≡ None) → Kept (roll-RustValue l)
  never l none = kept_level l (λ ty c h. absurd (let e : (let o : Option RustValue = None in o ≡ Some c) = sym (none ty) ∙ h in cc))

  -- parts

  module _ {X : Type 0} (fst : X → RustValue) (snd : (x : X) → Kept (fst x)) where
    abbrev parts : List X → List Typed
    parts xs = map (typed items) (map fst xs)

    one_more : (x : X) (xs : List X) (ty : TypeExpr) (o : Option RustValue) → typed items (fst x) ty ≡ o → (q : Option (List RustValue)) → ((rs : List RustValue) → q ≡ Some rs → taken_by rs ≡ taken_by (map fst xs))
        → (rs : List RustValue) → option_and_then (λ r. option_map (λ rs. r ∷ rs) q) o ≡ Some rs → taken_by rs ≡ taken_by (map fst (x ∷ xs))
    one_more x xs ty None e q later rs h = absurd cc
    one_more x xs ty (Some r) e None later rs h = absurd cc
    one_more x xs ty (Some r) e (Some more) later rs h =
        let same : r ∷ more ≡ rs = cc in
        ap taken_by (sym same) ∙ ap₂ (λ a b. a ++ b) (snd x ty r e) (later more refl)

    each_kept : (xs : List X) (types : List TypeExpr) (rs : List RustValue) → typed_each (parts xs) types ≡ Some rs → taken_by rs ≡ taken_by (map fst xs)
    each_kept [] [] rs h = let same : [] ≡ rs = cc in ap taken_by (sym same)
    each_kept [] (ty ∷ types) rs h = absurd cc
    each_kept (x ∷ xs) [] rs h = absurd cc
    each_kept (x ∷ xs) (ty ∷ types) rs h = one_more x xs ty (typed items (fst x) ty) refl (typed_each (parts xs) types) (each_kept xs types) rs h

    alike_kept : (ty : TypeExpr) (xs : List X) (rs : List RustValue) → typed_alike ty (parts xs) ≡ Some rs → taken_by rs ≡ taken_by (map fst xs)
    alike_kept ty [] rs h = let same : [] ≡ rs = cc in ap taken_by (sym same)
    alike_kept ty (x ∷ xs) rs h = one_more x xs ty (typed items (fst x) ty) refl (typed_alike ty (parts xs)) (alike_kept ty xs) rs h

    by_types : (xs : List X) (o : Option (List TypeExpr)) (rs : List RustValue) → option_and_then (typed_each (parts xs)) o ≡ Some rs → taken_by rs ≡ taken_by (map fst xs)
    by_types xs None rs h = absurd cc
    by_types xs (Some types) rs h = each_kept xs types rs h

    parts_kept : (xs : List X) (l : TypeExpr-F TypeExpr) (rs : List RustValue) → typed_parts items (parts xs) l ≡ Some rs → taken_by rs ≡ taken_by (map fst xs)
    parts_kept xs (TypeExpr-F.Array ty n) rs h = go (nat_eq (length (parts xs)) n) h
      where
        go : (b : Bool) → (if b then typed_alike ty (parts xs) else None) ≡ Some rs → taken_by rs ≡ taken_by (map fst xs)
        go true k = alike_kept ty xs rs k
        go false k = absurd cc
    parts_kept xs (TypeExpr-F.Tuple types) rs h = each_kept xs types rs h
    parts_kept xs (TypeExpr-F.Path path) rs h = by_types xs (part_types_in items (TypeExpr-F.Path path)) rs h
    parts_kept xs (TypeExpr-F.Result ok err) rs h = absurd cc
    parts_kept xs TypeExpr-F.Unit rs h = absurd cc
    parts_kept xs TypeExpr-F.Str rs h = absurd cc
    parts_kept xs TypeExpr-F.String rs h = absurd cc
    parts_kept xs (TypeExpr-F.Primitive p) rs h = absurd cc
    parts_kept xs (TypeExpr-F.Ref ty) rs h = absurd cc
    parts_kept xs (TypeExpr-F.Optional ty) rs h = absurd cc

    struct_kept : (xs : List X) → Kept (roll-RustValue (RustValue-F.Struct (map fst xs)))
    struct_kept xs = kept_level (RustValue-F.Struct (map fst xs)) (λ ty c h. go ty c (typed_parts items (parts xs) (out-TypeExpr ty)) refl h)
      where
        go : (ty : TypeExpr) (c : RustValue) (o : Option (List RustValue)) → typed_parts items (parts xs) (out-TypeExpr ty) ≡ o → option_map value.Struct o ≡ Some c → owned_by c ≡ taken_by (map fst xs)
        go ty c None e h = absurd cc
        go ty c (Some rs) e h = let same : value.Struct rs ≡ c = cc in ap owned_by (sym same) ∙ owned-struct rs ∙ parts_kept xs (out-TypeExpr ty) rs e

    -- a case

    case_owned : (n : ℕ) (o : Option RustValue) → owned_by (value.Case n o) ≡ level_owns (RustValue-F.Case n o)
    case_owned n o = ap owned_by (sym (rolls-Case n o)) ∙ owned_roll (RustValue-F.Case n o)

    -- one without payload, or with `()`

    bare_none : (n : ℕ) (c : RustValue) → typed_bare n None ≡ Some c → owned_by c ≡ level_owns (RustValue-F.Case n None)
    bare_none n c h = let same : value.Case n None ≡ c = cc in ap owned_by (sym same) ∙ case_owned n None

    bare_some : (n : ℕ) (x : X) (c : RustValue) → typed_bare n (Some (typed items (fst x))) ≡ Some c → owned_by c ≡ level_owns (RustValue-F.Case n (Some (fst x)))
    bare_some n x c h = go (typed items (fst x) type.Unit) refl h
      where
        go : (q : Option RustValue) → typed items (fst x) type.Unit ≡ q → option_map (λ r. value.Case n (Some r)) q ≡ Some c → owned_by c ≡ level_owns (RustValue-F.Case n (Some (fst x)))
        go None e k = absurd cc
        go (Some r) e k =
            let same : value.Case n (Some r) ≡ c = cc in
            ap owned_by (sym same) ∙ case_owned n (Some r) ∙ ap (λ xs. xs ++ []) (snd x type.Unit r e)

    none_kept : (n : ℕ) (ty : TypeExpr) (c : RustValue) → typed_option n None ty ≡ Some c → owned_by c ≡ level_owns (RustValue-F.Case n None)
    none_kept zero ty c h = bare_none 0 c h
    none_kept (suc zero) ty c h = absurd cc
    none_kept (suc (suc n)) ty c h = absurd cc

    some_kept : (n : ℕ) (x : X) (ty : TypeExpr) (c : RustValue) → typed_option n (Some (typed items (fst x))) ty ≡ Some c → owned_by c ≡ level_owns (RustValue-F.Case n (Some (fst x)))
    some_kept zero x ty c h = bare_some 0 x c h
    some_kept (suc zero) x ty c h = go (typed items (fst x) ty) refl h
      where
        go : (q : Option RustValue) → typed items (fst x) ty ≡ q → option_map (λ r. value.Case 1 (Some r)) q ≡ Some c → owned_by c ≡ level_owns (RustValue-F.Case 1 (Some (fst x)))
        go None e k = absurd cc
        go (Some r) e k =
            let same : value.Case 1 (Some r) ≡ c = cc in
            ap owned_by (sym same) ∙ case_owned 1 (Some r) ∙ ap (λ xs. xs ++ []) (snd x ty r e)
    some_kept (suc (suc n)) x ty c h = absurd cc

    of_enum : (n : ℕ) (payload : Option Typed) (own : List ℕ) → ((c : RustValue) → typed_bare n payload ≡ Some c → owned_by c ≡ own) → (o : Option EnumItem) (c : RustValue) → typed_enum n payload o ≡ Some c → owned_by c ≡ own
    of_enum n payload own k None c h = absurd cc
    of_enum n payload own k (Some e) c h = go (nat_lt n (length e.cases)) h
      where
        go : (b : Bool) → (if b then typed_bare n payload else None) ≡ Some c → owned_by c ≡ own
        go true h = k c h
        go false h = absurd cc

    -- a payload may be left out where it is `()`
    absent_kept : (n : ℕ) (l : TypeExpr-F TypeExpr) (c : RustValue) → typed_absent n l ≡ Some c → owned_by c ≡ level_owns (RustValue-F.Case n None)
    absent_kept n TypeExpr-F.Unit c h = let same : value.Case n None ≡ c = cc in ap owned_by (sym same) ∙ case_owned n None
    absent_kept n _ c h = absurd cc

    payload_none : (n : ℕ) (ty : TypeExpr) (c : RustValue) → typed_payload n None ty ≡ Some c → owned_by c ≡ level_owns (RustValue-F.Case n None)
    payload_none n ty c h = absent_kept n (out-TypeExpr ty) c h

    payload_some : (n : ℕ) (x : X) (ty : TypeExpr) (c : RustValue) → typed_payload n (Some (typed items (fst x))) ty ≡ Some c → owned_by c ≡ level_owns (RustValue-F.Case n (Some (fst x)))
    payload_some n x ty c h = go (typed items (fst x) ty) refl h
      where
        go : (q : Option RustValue) → typed items (fst x) ty ≡ q → option_map (λ r. value.Case n (Some r)) q ≡ Some c → owned_by c ≡ level_owns (RustValue-F.Case n (Some (fst x)))
        go None e k = absurd cc
        go (Some r) e k =
            let same : value.Case n (Some r) ≡ c = cc in
            ap owned_by (sym same) ∙ case_owned n (Some r) ∙ ap (λ xs. xs ++ []) (snd x ty r e)

    abbrev PayloadKept : ℕ → Option Typed → List ℕ → Type 0
    PayloadKept n payload own = (ty : TypeExpr) (c : RustValue) → typed_payload n payload ty ≡ Some c → owned_by c ≡ own

    abbrev BareKept : ℕ → Option Typed → List ℕ → Type 0
    BareKept n payload own = (c : RustValue) → typed_bare n payload ≡ Some c → owned_by c ≡ own

    of_result : (n : ℕ) (payload : Option Typed) (own : List ℕ) → PayloadKept n payload own → (ok err : TypeExpr) (c : RustValue) → typed_result n payload ok err ≡ Some c → owned_by c ≡ own
    of_result zero payload own p ok err c h = p ok c h
    of_result (suc zero) payload own p ok err c h = p err c h
    of_result (suc (suc n)) payload own p ok err c h = absurd cc

    of_variant : (n : ℕ) (payload : Option Typed) (own : List ℕ) → PayloadKept n payload own → BareKept n payload own → (o : Option VariantCase) (c : RustValue) → typed_variant n payload o ≡ Some c → owned_by c ≡ own
    of_variant n payload own p b None c h = absurd cc
    of_variant n payload own p b (Some x) c h = go x.ty h
      where
        go : (ty : Option TypeExpr) → typed_by n payload ty ≡ Some c → owned_by c ≡ own
        go None k = b c k
        go (Some ty) k = p ty c k

    of_defined : (n : ℕ) (payload : Option Typed) (own : List ℕ) → PayloadKept n payload own → BareKept n payload own → (t : Option TypeItem) (c : RustValue) → typed_defined n payload t ≡ Some c → owned_by c ≡ own
    of_defined n payload own p b (Some (Variant v)) c h = of_variant n payload own p b (slice_get v.cases n) c h
    of_defined n payload own p b t c h = of_enum n payload own b (enum_in t) c h

    -- a case is of an option or a result, or of a variant or an enum
    of_case : (n : ℕ) (payload : Option Typed) (own : List ℕ) → ((ty : TypeExpr) (c : RustValue) → typed_option n payload ty ≡ Some c → owned_by c ≡ own) → PayloadKept n payload own → BareKept n payload own
        → (l : TypeExpr-F TypeExpr) (c : RustValue) → typed_case items n payload l ≡ Some c → owned_by c ≡ own
    of_case n payload own k p b (TypeExpr-F.Optional ty) c h = k ty c h
    of_case n payload own k p b (TypeExpr-F.Result ok err) c h = of_result n payload own p ok err c h
    of_case n payload own k p b l c h = of_defined n payload own p b (definition_in items l) c h

    case_none : (n : ℕ) → Kept (roll-RustValue (RustValue-F.Case n None))
    case_none n = kept_level (RustValue-F.Case n None) (λ ty c h. of_case n None (level_owns (RustValue-F.Case n None)) (none_kept n) (payload_none n) (bare_none n) (out-TypeExpr ty) c h)

    case_some : (n : ℕ) (x : X) → Kept (roll-RustValue (RustValue-F.Case n (Some (fst x))))
    case_some n x =
        kept_level (RustValue-F.Case n (Some (fst x))) (λ ty c h. of_case n (Some (typed items (fst x))) (level_owns (RustValue-F.Case n (Some (fst x)))) (some_kept n x) (payload_some n x) (bare_some n x) (out-TypeExpr ty) c h)

    -- flags own nothing

    flags_kept : (n : ℕ) → Kept (roll-RustValue (RustValue-F.Bits n))
    flags_kept n = kept_level (RustValue-F.Bits n) (λ ty c h. of_flags c (flags_in (definition_in items (out-TypeExpr ty))) h)
      where
        held : (c : RustValue) (b : Bool) → (if b then Some (value.Bits n) else None) ≡ Some c → owned_by c ≡ []
        held c true h = let same : value.Bits n ≡ c = cc in ap owned_by (sym same) ∙ ap owned_by (sym (rolls-Bits n)) ∙ owned_roll (RustValue-F.Bits n)
        held c false h = absurd cc

        of_flags : (c : RustValue) (o : Option FlagsItem) → typed_flags n o ≡ Some c → owned_by c ≡ []
        of_flags c None h = absurd cc
        of_flags c (Some f) h = held c (nat_lt n (2 ^ repr_bits f.repr)) h

    -- each kind of value
    step : (l : RustValue-F RustValue) (y : RustValue-F X) → map-RustValue X RustValue fst y ≡ l → Kept (roll-RustValue l)
    step l (RustValue-F.Struct xs) is = subst (λ z. Kept (roll-RustValue z)) is (struct_kept xs)
    step l (RustValue-F.Case n None) is = subst (λ z. Kept (roll-RustValue z)) is (case_none n)
    step l (RustValue-F.Case n (Some x)) is = subst (λ z. Kept (roll-RustValue z)) is (case_some n x)
    step l RustValue-F.Unit is = subst (λ z. Kept (roll-RustValue z)) is (kept_level RustValue-F.Unit unit_kept)
      where
        unit_kept : LevelKept RustValue-F.Unit
        unit_kept ty c h = go (out-TypeExpr ty) h
          where
            go : (l : TypeExpr-F TypeExpr) → typed_unit l ≡ Some c → owned_by c ≡ []
            go TypeExpr-F.Unit k = let same : value.Unit ≡ c = cc in ap owned_by (sym same) ∙ ap owned_by (sym rolls-Unit) ∙ owned_roll RustValue-F.Unit
            go _ k = absurd (let e = k in cc)
    step l (RustValue-F.Bool b) is = subst (λ z. Kept (roll-RustValue z)) is (leaf (value.Bool b) (RustValue-F.Bool b) (ap owned_by (sym (rolls-Bool b)) ∙ owned_roll (RustValue-F.Bool b)) (λ ty. refl))
    step l (RustValue-F.Num k z) is = subst (λ z. Kept (roll-RustValue z)) is (leaf (value.Num k z) (RustValue-F.Num k z) (bare_num k z) (λ ty. refl))
    step l (RustValue-F.F32 n) is = subst (λ z. Kept (roll-RustValue z)) is (leaf (value.F32 n) (RustValue-F.F32 n) (ap owned_by (sym (rolls-F32 n)) ∙ owned_roll (RustValue-F.F32 n)) (λ ty. refl))
    step l (RustValue-F.F64 n) is = subst (λ z. Kept (roll-RustValue z)) is (leaf (value.F64 n) (RustValue-F.F64 n) (ap owned_by (sym (rolls-F64 n)) ∙ owned_roll (RustValue-F.F64 n)) (λ ty. refl))
    step l (RustValue-F.Char n) is = subst (λ z. Kept (roll-RustValue z)) is (leaf (value.Char n) (RustValue-F.Char n) (ap owned_by (sym (rolls-Char n)) ∙ owned_roll (RustValue-F.Char n)) (λ ty. refl))
    step l (RustValue-F.Buffer a n o) is = subst (λ z. Kept (roll-RustValue z)) is (leaf (value.Buffer a n o) (RustValue-F.Buffer a n o) (owned_text a n o) (λ ty. refl))
    step l (RustValue-F.Bits n) is = subst (λ z. Kept (roll-RustValue z)) is (flags_kept n)
    step l y is = subst (λ z. Kept (roll-RustValue z)) is (never (map-RustValue X RustValue fst y) (λ ty. refl))

  kept : (r : RustValue) → Kept r
  kept = ind-RustValue Kept (λ l y is. step (λ e. e.0) (λ e. e.1) l y is)

  passed_keeps : (ty : TypeExpr) (r c : RustValue) → passed_as items ty (val.Value r) ≡ Some c → owned_by c ≡ owned_by r
  unfolding answer_of
  passed_keeps ty r c h = go (answer_as (out-TypeExpr (unaliased items ty)) (val.Value r)) refl (typed items r ty) refl h
    where
      go : (o : Option (Option RustValue)) → answer_as (out-TypeExpr (unaliased items ty)) (val.Value r) ≡ o → (q : Option RustValue) → typed items r ty ≡ q → option_and_then (λ r. r) (option_or o (option_map Some q)) ≡ Some c → owned_by c ≡ owned_by r
      go None e None f k = absurd cc
      go None e (Some d) f k = let same : d ≡ c = cc in ap owned_by (sym same) ∙ kept r ty d f
      go (Some None) e q f k = absurd cc
      go (Some (Some d)) e q f k = let same : d ≡ c = cc in ap owned_by (sym same) ∙ answer_keeps (out-TypeExpr (unaliased items ty)) r d e

  abbrev pub KeepsOwners : Type 0
  KeepsOwners = (ty : TypeExpr) (r c : RustValue) → returned_of items ty (Some r) ≡ Some (val.Value c) → owned_by c ≡ owned_by r

  pub keeps_owners : KeepsOwners
  keeps_owners ty r c h = go (passed_as items ty (val.Value r)) refl h
    where
      go : (o : Option RustValue) → passed_as items ty (val.Value r) ≡ o → option_map val.Value o ≡ Some (val.Value c) → owned_by c ≡ owned_by r
      go None e k = absurd cc
      go (Some d) e k = let same : d ≡ c = cc in ap owned_by (sym same) ∙ passed_keeps ty r d e
