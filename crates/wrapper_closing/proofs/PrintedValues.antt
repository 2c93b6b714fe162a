-- What stands for a value is one of the type that its shape is printed as.
use Rattle.std.proofs.Common.{◌≡◌, ◌⊎◌, ◌<◌, ℕ, suc, ◌^◌, ℤ, inl, inr, Bool, true, cond, List, [], ◌∷◌, length, map, Option, None, Some, refl, sym, ap, ap₂, ◌∙◌, subst, rules}
use Rattle.std.specs.Prelude.{option_and_then}
use Rattle.std.specs.Option.{option_map, option_or}
use Rattle.std.proofs.lemmas.Bool.{lt-ltb}
use Rattle.wit_layout.specs.Tree.{Scalar}
use Rattle.wit_model.specs.declared.types.WitType.{WitType}
use Rattle.wit_model.specs.declared.types.WitType.TheVariants as wit
use Rattle.rust_tree.specs.declared.flags_item.FlagsItem.{FlagsItem}
use Rattle.rust_tree.specs.declared.item.Item.{Item}
use Rattle.rust_tree.specs.declared.type_expr.Primitive.TheVariants as prim
use Rattle.rust_tree.specs.declared.type_expr.TypeExpr.{TypeExpr, TypeExpr-F, out-TypeExpr, the_lemmas as type_lemmas}
use Rattle.rust_tree.specs.declared.type_expr.TypeExpr.TheVariants as type
use Rattle.rust_tree.specs.declared.type_item.StructItem.{StructItem}
use Rattle.rust_tree.specs.declared.type_item.TypeItem.TheVariants.{Flags, Struct}
use Rattle.wrapper_data.specs.declared.block.Block.{Block}
use Rattle.wrapper_data.specs.declared.value.RustValue.{RustValue, RustValue-F, map-RustValue, roll-RustValue}
use Rattle.wrapper_data.specs.declared.value.RustValue.TheVariants as value
use Rattle.wrapper_data.specs.declared.value.RustValue.TheVariants.{rolls-Bits, rolls-Bool, rolls-Buffer, rolls-Char, rolls-F32, rolls-F64, rolls-Num, rolls-Struct}
use Rattle.wrapper_meaning.specs.Direction.{take}
use Rattle.wrapper_meaning.specs.InRange.{AreListed, IsListed, IsListedCase, IsScalar}
use Rattle.wrapper_meaning.specs.Shape.{Shape, Shapes, is_nothing}
use Rattle.wrapper_meaning.specs.Shape.Shape.{cases, fields, fixed, flags, handle, list, other, pairs, resource, scalar, text, tuple}
use Rattle.wrapper_meaning.specs.Shape.Shapes.{more, none}
use Rattle.wrapper_meaning.specs.StandsFor.{CaseStands, PartsStand, PayloadStands, Stands, rust_scalar}
use Rattle.wrapper_meaning.specs.Value.{Case, Parts, ScalarValue, Value, case_number}
use Rattle.wrapper_values.specs.declared.state.Val.{Val}
use Rattle.wrapper_values.specs.declared.state.Val.TheVariants as val
use Rattle.wrapper_values.specs.Effect.{answer_as, answer_of}
use Rattle.wrapper_values.specs.Fields.{fields_in}
use Rattle.wrapper_values.specs.Flags.{flags_in, repr_bits}
use Rattle.wrapper_values.specs.Typed.{Typed, answer_in, definition_in, plain_as, typed, typed_each, typed_flags, typed_level, typed_parts, unaliased}
use Rattle.wrapper_run.proofs.NumberLemmas.{answered-bool, answered-char, answered-f32-value, answered-f64-value, answered-number}
use Rattle.wrapper_run.proofs.TakeLemmas.{answered-empty, answered-text}
use Rattle.func_gen.specs.NormalLemmas.{normal_bits, scalar_normal}
use Rattle.wrapper_closing.specs.PrintedAs.{ArePrintedAs, ArePrintedCases, HavePayloads, IsPrintedAs, scalar_type}
use Rattle.wrapper_closing.proofs.OwningValues.{owning, owning_buffer, owning_struct}
use Rattle.wrapper_closing.proofs.TypedCases.{FitsPlace, cases_unanswered, typed_roll, value_typed}

-- 1. Of a plain type

pub scalar_answered : (s : Scalar) (v : ScalarValue s) → IsScalar s v → answer_of (scalar_type s) (val.Value (rust_scalar s v)) ≡ Some (Some (rust_scalar s v))
scalar_answered Scalar.bool v h = answered-bool v
scalar_answered Scalar.u8 v h = answered-number prim.U8 wit.U8 v refl h
scalar_answered Scalar.u16 v h = answered-number prim.U16 wit.U16 v refl h
scalar_answered Scalar.u32 v h = answered-number prim.U32 wit.U32 v refl h
scalar_answered Scalar.u64 v h = answered-number prim.U64 wit.U64 v refl h
scalar_answered Scalar.s8 v h = answered-number prim.I8 wit.S8 v refl h
scalar_answered Scalar.s16 v h = answered-number prim.I16 wit.S16 v refl h
scalar_answered Scalar.s32 v h = answered-number prim.I32 wit.S32 v refl h
scalar_answered Scalar.s64 v h = answered-number prim.I64 wit.S64 v refl h
scalar_answered Scalar.f32 v h = answered-f32-value v
scalar_answered Scalar.f64 v h = answered-f64-value v
scalar_answered Scalar.char v h = answered-char v h
scalar_answered Scalar.handle v h = elim v [ ]

-- a text with bytes owns them, and one without is taken for one that does
text_answered : (v : List ℕ) (r : RustValue) (own : List Block) → Stands 2 take text v r own → answer_of type.String (val.Value r) ≡ Some (Some (owning r))
text_answered [] r own h =
    ap (λ r. answer_of type.String (val.Value r)) h.is ∙ answered-empty h.address h.owned ∙ ap (λ r. Some (Some r)) (sym (ap owning h.is ∙ owning_buffer h.address 0 h.owned))
text_answered (b ∷ v) r own h =
    let full : r ≡ value.Buffer h.address (length (b ∷ v)) true = h.is ∙ ap (value.Buffer h.address (length (b ∷ v))) h.flag in
    ap (λ r. answer_of type.String (val.Value r)) full ∙ answered-text h.address (length (b ∷ v)) ∙ ap (λ r. Some (Some r)) (sym (ap owning full ∙ owning_buffer h.address (length (b ∷ v)) true))

-- 2. As one of a type of the file

module _ (items : List Item) where
  -- a value without parts is what it is as one of a plain type
  abbrev pub IsLeaf : RustValue → Type 0
  IsLeaf r = (ty : TypeExpr) → typed items r ty ≡ plain_as (unaliased items ty) (val.Value r)

  leaf : (l : RustValue-F RustValue) (r : RustValue) → roll-RustValue l ≡ r → ((ty : TypeExpr) → typed_level items (map-RustValue RustValue Typed (typed items) l) ty ≡ plain_as ty (val.Value r)) → IsLeaf r
  leaf l r e h ty = ap (λ r. typed items r ty) (sym e) ∙ typed_roll items l ty ∙ h (unaliased items ty)

  num_leaf : (k : WitType) (z : ℤ) → IsLeaf (value.Num k z)
  num_leaf k z = leaf (RustValue-F.Num k z) (value.Num k z) (rolls-Num k z) (λ ty. refl)

  pub scalar_leaf : (s : Scalar) (v : ScalarValue s) → IsLeaf (rust_scalar s v)
  scalar_leaf Scalar.bool v = leaf (RustValue-F.Bool v) (value.Bool v) (rolls-Bool v) (λ ty. refl)
  scalar_leaf Scalar.f32 v = leaf (RustValue-F.F32 v) (value.F32 v) (rolls-F32 v) (λ ty. refl)
  scalar_leaf Scalar.f64 v = leaf (RustValue-F.F64 v) (value.F64 v) (rolls-F64 v) (λ ty. refl)
  scalar_leaf Scalar.char v = leaf (RustValue-F.Char v) (value.Char v) (rolls-Char v) (λ ty. refl)
  scalar_leaf Scalar.handle v = elim v [ ]
  scalar_leaf s v = num_leaf _ v

  pub buffer_leaf : (address n : ℕ) (o : Bool) → IsLeaf (value.Buffer address n o)
  buffer_leaf address n o = leaf (RustValue-F.Buffer address n o) (value.Buffer address n o) (rolls-Buffer address n o) (λ ty. refl)

  pub typed_struct : (rs : List RustValue) (ty : TypeExpr) → typed items (value.Struct rs) ty ≡ option_map value.Struct (typed_parts items (map (typed items) rs) (out-TypeExpr (unaliased items ty)))
  typed_struct rs ty = ap (λ r. typed items r ty) (sym (rolls-Struct rs)) ∙ typed_roll items (RustValue-F.Struct rs) ty

  -- 3. Values of printed types

  -- with the flags of an owner it is one of the type, and what a function of the type answers
  pub record IsTyped (r : RustValue) (ty : TypeExpr) : Type 0 where
    pub typed : typed items r ty ≡ Some (owning r)
    pub answered : answer_in items ty (val.Value r) ≡ Some (Some (owning r))

  pub by_plain : (r : RustValue) (ty plain : TypeExpr) → IsLeaf r → unaliased items ty ≡ plain → answer_of plain (val.Value r) ≡ Some (Some (owning r)) → IsTyped r ty
  by_plain r ty plain l is h =
      let answers : answer_of (unaliased items ty) (val.Value r) ≡ Some (Some (owning r)) = ap (λ t. answer_of t (val.Value r)) is ∙ h in
      record {
        typed = l ty ∙ ap (option_and_then (λ r. r)) answers;
        answered = ap (λ o. option_or o (option_map Some (typed items r ty))) answers;
      }

  -- the parts of a tuple, and those of a record
  abbrev pub IsOfParts : TypeExpr-F TypeExpr → List TypeExpr → Type 0
  IsOfParts l types = ((parts : List Typed) → typed_parts items parts l ≡ typed_each parts types) × ((v : Val) → answer_as l v ≡ None)

  pub tuple_parts : (types : List TypeExpr) → IsOfParts (out-TypeExpr (type.Tuple types)) types
  tuple_parts types = subst (λ l. IsOfParts l types) (sym opened) (λ parts. refl, λ v. refl)
    where
      opened : out-TypeExpr (type.Tuple types) ≡ TypeExpr-F.Tuple types
      opened = search (rules, type_lemmas)

  pub record_parts : (l : TypeExpr-F TypeExpr) (s : StructItem) → definition_in items l ≡ Some (Struct s) → IsOfParts l (map (λ f. f.ty) s.fields)
  record_parts (TypeExpr-F.Path p) s h = (λ parts. ap (λ d. option_and_then (typed_each parts) (option_map (map (λ f. f.ty)) (fields_in d))) h, λ v. refl)
  record_parts TypeExpr-F.Unit s h = absurd cc
  record_parts (TypeExpr-F.Primitive p) s h = absurd cc
  record_parts TypeExpr-F.Str s h = absurd cc
  record_parts TypeExpr-F.String s h = absurd cc
  record_parts (TypeExpr-F.Ref t) s h = absurd cc
  record_parts (TypeExpr-F.Tuple ts) s h = absurd cc
  record_parts (TypeExpr-F.Optional t) s h = absurd cc
  record_parts (TypeExpr-F.Array t n) s h = absurd cc
  record_parts (TypeExpr-F.Result ok err) s h = absurd cc

  -- what is no plain type is typed as a whole
  by_whole : (r : RustValue) (ty : TypeExpr) → ((v : Val) → answer_as (out-TypeExpr (unaliased items ty)) v ≡ None) → typed items r ty ≡ Some (owning r) → IsTyped r ty
  unfolding answer_of
  by_whole r ty unanswered whole = record { typed = whole; answered = ap₂ option_or (unanswered (val.Value r)) (ap (option_map Some) whole) }

  by_parts : (r : RustValue) (rs : List RustValue) (ty : TypeExpr) (types : List TypeExpr) → r ≡ value.Struct rs → IsOfParts (out-TypeExpr (unaliased items ty)) types → typed_each (map (typed items) rs) types ≡ Some (map owning rs) → IsTyped r ty
  by_parts r rs ty types is of h =
      by_whole r ty of.1
      (ap (λ r. typed items r ty) is ∙ typed_struct rs ty ∙ ap (option_map value.Struct) (of.0 (map (typed items) rs) ∙ h) ∙ ap (λ r. Some r) (sym (ap owning is ∙ owning_struct rs)))

  -- a case of a type whose cases have these payloads
  by_case : (n : ℕ) (r : RustValue) (payload : Option RustValue) (ty : TypeExpr) (payloads : List (Option TypeExpr)) → r ≡ value.Case n payload → HavePayloads items (out-TypeExpr (unaliased items ty)) payloads → FitsPlace items n payload payloads
      → IsTyped r ty
  by_case n r payload ty payloads is has fits =
      by_whole r ty (cases_unanswered items (out-TypeExpr (unaliased items ty)) payloads has) (ap (λ r. typed items r ty) is ∙ value_typed items payloads n payload ty has fits ∙ ap (λ r. Some (owning r)) (sym is))

  -- a payload that is nothing is left out or `()`
  left_out : (t : Shape) (stands : RustValue → List Block → Type 0) (payload : Option RustValue) (own : List Block) → is_nothing t ≡ true → PayloadStands (is_nothing t) stands payload own → (payload ≡ None) ⊎ (payload ≡ Some value.Unit)
  left_out t stands payload own empty h = go payload (subst (λ b. PayloadStands b stands payload own) empty h)
    where
      go : (payload : Option RustValue) → PayloadStands true stands payload own → (payload ≡ None) ⊎ (payload ≡ Some value.Unit)
      go None h = inl refl
      go (Some r) h = inr (ap (λ r. Some r) h.0)

  -- with one case more before it
  pub one_later : (n : ℕ) (payload : Option RustValue) (first : Option TypeExpr) (payloads : List (Option TypeExpr)) → FitsPlace items n payload payloads → FitsPlace items (suc n) payload (first ∷ payloads)
  one_later n payload first payloads (inl fits) = inl fits
  one_later n payload first payloads (inr fits) = inr fits

  -- flags of the file
  flags_level : (l : TypeExpr-F TypeExpr) (f : FlagsItem) → definition_in items l ≡ Some (Flags f) → (v : Val) → answer_as l v ≡ None
  flags_level (TypeExpr-F.Path p) f h = λ v. refl
  flags_level TypeExpr-F.Unit f h = absurd cc
  flags_level (TypeExpr-F.Primitive p) f h = absurd cc
  flags_level TypeExpr-F.Str f h = absurd cc
  flags_level TypeExpr-F.String f h = absurd cc
  flags_level (TypeExpr-F.Ref t) f h = absurd cc
  flags_level (TypeExpr-F.Tuple ts) f h = absurd cc
  flags_level (TypeExpr-F.Optional t) f h = absurd cc
  flags_level (TypeExpr-F.Array t n) f h = absurd cc
  flags_level (TypeExpr-F.Result ok err) f h = absurd cc

  pub by_flags : (bits : ℕ) (r : RustValue) (ty : TypeExpr) (f : FlagsItem) → r ≡ value.Bits bits → definition_in items (out-TypeExpr (unaliased items ty)) ≡ Some (Flags f) → bits < 2 ^ repr_bits f.repr → IsTyped r ty
  by_flags bits r ty f is p small =
      by_whole r ty (flags_level (out-TypeExpr (unaliased items ty)) f p)
      (ap (λ r. typed items r ty) (is ∙ sym (rolls-Bits bits)) ∙ typed_roll items (RustValue-F.Bits bits) ty ∙ ap (λ d. typed_flags bits (flags_in d)) p
      ∙ ap (λ b. cond b (Some (value.Bits bits)) None) (lt-ltb bits (2 ^ repr_bits f.repr) small) ∙ ap (λ r. Some r) (sym (normal_bits take bits)) ∙ ap (λ r. Some (owning r)) (sym is))

  mutual
    pub is_typed : (t : Shape) (v : Value t) (r : RustValue) (own : List Block) (ty : TypeExpr) → IsPrintedAs items t ty → IsListed t v → Stands 2 take t v r own → IsTyped r ty
    is_typed (scalar s) v r own ty p g h =
        subst (λ r. IsTyped r ty) (sym h.0) (by_plain (rust_scalar s v) ty (scalar_type s) (scalar_leaf s v) p (scalar_answered s v g ∙ ap (λ r. Some (Some r)) (sym (scalar_normal take s v))))
    is_typed text v r own ty p g h = by_plain r ty type.String (subst IsLeaf (sym h.is) (buffer_leaf h.address (length v) h.owned)) p (text_answered v r own h)
    is_typed (tuple ts) v r own ty (types, p, ps) g (rs, is, h) =
        by_parts r rs ty types is (subst (λ t. IsOfParts (out-TypeExpr t) types) (sym p) (tuple_parts types)) (are_typed ts v rs own types ps g h)
    is_typed (fields ts) v r own ty (s, p, ps) g (rs, is, h) =
        by_parts r rs ty (map (λ f. f.ty) s.fields) is (record_parts (out-TypeExpr (unaliased items ty)) s p) (are_typed ts v rs own (map (λ f. f.ty) s.fields) ps g h)
    is_typed (list t) v r own ty p g h = absurd p
    is_typed (pairs x y) v r own ty p g h = absurd p
    is_typed (fixed t n) v r own ty p g h = absurd p
    is_typed (cases ts) v r own ty (payloads, has, ps) g (payload, is, h) = by_case (case_number ts v) r payload ty payloads is has (payload_fits ts v payload own payloads ps g h)
    is_typed (flags n) v r own ty (f, p, many, wide) g (bits, small, is, means, alone) = by_flags bits r ty f is p (subst (λ k. bits < 2 ^ k) (sym wide) small)
    is_typed (handle o n) v r own ty p g h = absurd p
    is_typed (resource n) v r own ty p g h = absurd p
    is_typed other v r own ty p g h = absurd p

    are_typed : (ts : Shapes) (v : Parts ts) (rs : List RustValue) (own : List Block) (types : List TypeExpr) → ArePrintedAs items ts types → AreListed ts v → PartsStand 2 take ts v rs own → typed_each (map (typed items) rs) types ≡ Some (map owning rs)
    are_typed none v rs own [] p g h = ap (λ rs. typed_each (map (typed items) rs) []) h.0 ∙ ap (λ rs. Some (map owning rs)) (sym h.0)
    are_typed none v rs own (ty ∷ types) p g h = absurd p
    are_typed (more t ts) v rs own [] p g h = absurd p
    are_typed (more t ts) v rs own (ty ∷ types) p g (r, others, first, rest, is, h, hs, all) =
        ap (λ rs. typed_each (map (typed items) rs) (ty ∷ types)) is
        ∙ ap₂ (λ o q. option_and_then (λ r. option_map (λ rs. r ∷ rs) q) o) (is_typed t v.0 r first ty p.0 g.0 h).typed (are_typed ts v.1 others rest types p.1 g.1 hs)
        ∙ ap (λ rs. Some (map owning rs)) (sym is)

    payload_fits : (ts : Shapes) (c : Case ts) (payload : Option RustValue) (own : List Block) (payloads : List (Option TypeExpr)) → ArePrintedCases items ts payloads → IsListedCase ts c → CaseStands 2 take ts c payload own
        → FitsPlace items (case_number ts c) payload payloads
    payload_fits none c payload own payloads p g h = absurd c
    payload_fits (more t ts) c payload own [] p g h = absurd p
    payload_fits (more t ts) (inl v) payload own (None ∷ payloads) p g h = inl (refl, left_out t (Stands 2 take t v) payload own p.0 h)
    payload_fits (more t ts) (inl v) payload own (Some ty ∷ payloads) p g h =
        let (r, is, stands) = subst (λ b. PayloadStands b (Stands 2 take t v) payload own) p.0 h in
        inr (ty, r, refl, is, (is_typed t v r own ty p.1 g stands).typed)
    payload_fits (more t ts) (inr c) payload own (None ∷ payloads) p g h = one_later (case_number ts c) payload None payloads (payload_fits ts c payload own payloads p.1 g h)
    payload_fits (more t ts) (inr c) payload own (Some ty ∷ payloads) p g h = one_later (case_number ts c) payload (Some ty) payloads (payload_fits ts c payload own payloads p.2 g h)
