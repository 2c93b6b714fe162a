-- The type of an import's parameter is lent of one that is printed as the parameter's shape.
use Rattle.std.proofs.Common.{◌≡◌, ℕ, zero, suc, ◌<◌, ◌≤◌, Bool, true, false, cond, not, ◌||◌, List, [], ◌∷◌, length, map, Option, None, Some, is_some, refl, sym, ap, ap₂, ◌∙◌, subst, arith}
use Rattle.std.specs.Prelude.{slice_get}
use Rattle.std.specs.List.{list_all}
use Rattle.std.specs.Option.{option_map}
use Rattle.std.proofs.lemmas.Bool.{lt-ltb}
use Rattle.std.proofs.lemmas.Option.{slice_get_within}
use Rattle.wit_model.specs.declared.name.Name.{Name}
use Rattle.wit_model.specs.declared.name.TypeId.{TypeId}
use Rattle.wit_model.specs.declared.types.TypeDef.{TypeDef}
use Rattle.wit_model.specs.declared.types.TypeDefKind.{TypeDefKind}
use Rattle.wit_model.specs.declared.types.TypeDefKind.TheVariants as kind
use Rattle.wit_model.specs.declared.types.WitType.{WitType}
use Rattle.wit_model.specs.declared.types.WitType.TheVariants as wit
use Rattle.wit_model.specs.Parts.{parts}
use Rattle.wit_model.specs.Reaches.{Names}
use Rattle.wit_model.specs.TypeOrder.{GoesDown, parts_below, payload_below, type_below}
use Rattle.wit_model.proofs.AllLemmas.{all_at}
use Rattle.wit_model.proofs.BelowLemmas.{id_below, type_below_more}
use Rattle.wit_layout.proofs.AheadTurns.{entry_at}
use Rattle.rust_tree.specs.Ident.{type_ident}
use Rattle.rust_tree.specs.declared.item.Item.{Item}
use Rattle.rust_tree.specs.declared.type_expr.TypeExpr.{TypeExpr, out-TypeExpr}
use Rattle.rust_tree.specs.declared.type_expr.TypeExpr.TheVariants as type
use Rattle.type_defs.specs.Defined.{are_defined_kinds, have_defined_parts, is_defined_kind, is_defined_part, is_defined_type}
use Rattle.type_defs.specs.ParamType.{has_list, is_text, lent_by, lent_entry, lent_found, lent_type, lent_within, param_by, param_type, text_or}
use Rattle.type_defs.specs.PartType.{entry_type, levels_of, part_type, payload_type, result_type}
use Rattle.type_defs.specs.Paths.{local_path}
use Rattle.type_defs.specs.Printed.{printed_type}
use Rattle.type_defs.specs.TypeNames.{are_type_names, needs_name}
use Rattle.wrapper_meaning.specs.Shape.{is_nothing, payloads_in, shape_at, shape_of, shapes}
use Rattle.wrapper_meaning.specs.Shape.Shape.{cases}
use Rattle.abi_bindgen.specs.Cases.{payloads_of}
use Rattle.abi_bindgen.specs.Instructions.{has_cases, shapes_of}
use Rattle.abi_bindgen.proofs.Payloads.{variant_shape}
use Rattle.abi_bindgen.proofs.Records.{alias_shape, tuple_shape}
use Rattle.wrapper_faithful.specs.Arguments.{unlent}
use Rattle.wrapper_values.specs.Typed.{unaliased}
use Rattle.wrapper_closing.specs.PrintedAs.{ArePrintedAs, ArePrintedCases, HavePayloads, IsPrintedAs}
use Rattle.type_sites.proofs.PartTypes.{below-itself, printed-entry}
use Rattle.type_sites.proofs.PrintedForms.{optional-ends, optional-payloads, result-ends, result-payloads, stays, string-ends, tuple-ends}
use Rattle.type_sites.proofs.PrintedTypes.{mapped}
use Rattle.type_sites.proofs.TextShapes.{text-shape}
use Rattle.type_sites.proofs.UnlentTypes.{unlent-optional, unlent-part, unlent-path, unlent-payload, unlent-ref, unlent-result, unlent-str, unlent-tuple}

-- What is known of a type is known of its parts, and a type of which it is known is printed as its shape where it is a part of a definition
module _ (types : List TypeDef) (items : List Item) (down : GoesDown types) (kinds : are_defined_kinds types ≡ true) (sound : have_defined_parts types ≡ true)
    (some : (ty : WitType) → type_below (length types) ty ≡ true → is_nothing (shape_of types ty) ≡ false) (names : are_type_names types ≡ true)
    (Known : WitType → Type 0) (known-part : (whole part : WitType) → Names types whole part → Known whole → Known part)
    (printed : (ty : WitType) → type_below (length types) ty ≡ true → is_defined_type ty ≡ true → Known ty → IsPrintedAs items (shape_of types ty) (part_type types ty)) where
  -- a type is lent of one that is printed as its shape
  abbrev IsLentOf : (WitType → TypeExpr) → WitType → Type 0
  IsLentOf lent ty = IsPrintedAs items (shape_of types ty) (unlent (lent ty))

  as-part : (ty : WitType) → type_below (length types) ty ≡ true → is_defined_type ty ≡ true → Known ty → IsLentOf (part_type types) ty
  as-part ty below h known = subst (IsPrintedAs items (shape_of types ty)) (sym (unlent-part types ty)) (printed ty below h known)

  by-list : (lent : WitType → TypeExpr) (ty : WitType) → type_below (length types) ty ≡ true → is_defined_type ty ≡ true → Known ty → IsLentOf lent ty → IsLentOf (param_by types lent) ty
  by-list lent ty below h known is = go (has_list types ty) refl
    where
      go : (b : Bool) → has_list types ty ≡ b → IsLentOf (param_by types lent) ty
      go true e = subst (λ b. IsPrintedAs items (shape_of types ty) (unlent (cond b (lent ty) (part_type types ty)))) (sym e) is
      go false e = subst (λ b. IsPrintedAs items (shape_of types ty) (unlent (cond b (lent ty) (part_type types ty)))) (sym e) (as-part ty below h known)

  all-lent : (lent : WitType → TypeExpr) (tys : List WitType) → ((nth : ℕ) (ty : WitType) → slice_get tys nth ≡ Some ty → IsLentOf lent ty) → ArePrintedAs items (shapes_of types tys) (map unlent (map lent tys))
  all-lent lent [] h = tt
  all-lent lent (ty ∷ tys) h = (h 0 ty refl, all-lent lent tys (λ nth ty e. h (suc nth) ty e))

  cases-lent : (lent : WitType → TypeExpr) (payloads : List (Option WitType)) → ((nth : ℕ) (ty : WitType) → slice_get payloads nth ≡ Some (Some ty) → IsLentOf lent ty × (is_nothing (shape_of types ty) ≡ false))
      → ArePrintedCases items (payloads_in (shapes types) payloads) (map (option_map (λ ty. unlent (lent ty))) payloads)
  cases-lent lent [] h = tt
  cases-lent lent (None ∷ payloads) h = (refl, cases-lent lent payloads (λ nth ty e. h (suc nth) ty e))
  cases-lent lent (Some ty ∷ payloads) h = let one = h 0 ty refl in (one.1, one.0, cases-lent lent payloads (λ nth ty e. h (suc nth) ty e))

  -- an entry of the table, by what is lent of its parts
  module _ (id : TypeId) (entry : TypeDef) (at : slice_get types id.0 ≡ Some entry) (known : Known (wit.Id id)) (lent : WitType → TypeExpr)
      (further : (ty : WitType) → type_below id.0 ty ≡ true → is_defined_type ty ≡ true → Known ty → IsLentOf lent ty) where
    abbrev Here : TypeExpr → Type 0
    Here ty = IsPrintedAs items (shape_at types id.0) (unlent ty)

    part-below : (nth : ℕ) (ty : WitType) → slice_get (parts entry.kind) nth ≡ Some (Some ty) → type_below id.0 ty ≡ true
    unfolding parts_below payload_below
    part-below nth ty part = all_at (λ part. payload_below id.0 part) (parts entry.kind) nth (Some ty) (down id.0 entry at) part

    part-defined : (nth : ℕ) (ty : WitType) → slice_get (parts entry.kind) nth ≡ Some (Some ty) → is_defined_type ty ≡ true
    part-defined nth ty part = all_at is_defined_part (parts entry.kind) nth (Some ty) (all_at (λ (entry : TypeDef). list_all is_defined_part (parts entry.kind)) types id.0 entry sound at) part

    part-in-table : (nth : ℕ) (ty : WitType) → slice_get (parts entry.kind) nth ≡ Some (Some ty) → type_below (length types) ty ≡ true
    part-in-table nth ty part = let within = slice_get_within types id.0 entry at in type_below_more id.0 (length types) ty (omega (arith, within)) (part-below nth ty part)

    part-known : (nth : ℕ) (ty : WitType) → slice_get (parts entry.kind) nth ≡ Some (Some ty) → Known ty
    part-known nth ty part = known-part (wit.Id id) ty (record { id = id; entry = entry; nth = nth; is_entry = refl; entry_at = at; part_at = part }) known

    part-lent : (nth : ℕ) (ty : WitType) → slice_get (parts entry.kind) nth ≡ Some (Some ty) → IsLentOf lent ty
    part-lent nth ty part = further ty (part-below nth ty part) (part-defined nth ty part) (part-known nth ty part)

    alias-lent : (ty : WitType) → entry.kind ≡ kind.Alias ty → Here (param_by types lent ty)
    unfolding parts
    alias-lent ty e =
        let part : slice_get (parts entry.kind) 0 ≡ Some (Some ty) = ap (λ k. slice_get (parts k) 0) e in
        subst (λ t. IsPrintedAs items t (unlent (param_by types lent ty))) (sym (alias_shape types down id.0 entry at ty e))
        (by-list lent ty (part-in-table 0 ty part) (part-defined 0 ty part) (part-known 0 ty part) (part-lent 0 ty part))

    tuple-lent : (tys : List WitType) → entry.kind ≡ kind.Tuple tys → Here (type.Tuple (map lent tys))
    unfolding parts
    tuple-lent tys e =
        let all = all-lent lent tys (λ nth ty is. part-lent nth ty (ap (λ k. slice_get (parts k) nth) e ∙ mapped tys nth ty is)) in
        let types_of : List TypeExpr = map unlent (map lent tys) in
        subst (λ ty. IsPrintedAs items (shape_at types id.0) ty) (sym (unlent-tuple (map lent tys)))
        (subst (λ t. IsPrintedAs items t (type.Tuple types_of)) (sym (tuple_shape types down id.0 entry at tys e)) (types_of, stays items items (type.Tuple types_of) (tuple-ends items types_of), all))

    payloads-lent : (k : TypeDefKind) (payloads : List (Option WitType)) → entry.kind ≡ k → parts k ≡ payloads → ArePrintedCases items (payloads_in (shapes types) payloads) (map (option_map (λ ty. unlent (lent ty))) payloads)
    payloads-lent k payloads e are =
        cases-lent lent payloads (λ nth ty is. let part = ap (λ k. slice_get (parts k) nth) e ∙ ap (λ (ps : List (Option WitType)). slice_get ps nth) are ∙ is in (part-lent nth ty part, some ty (part-in-table nth ty part)))

    -- cases of a form that is no alias
    by-cases : (k : TypeDefKind) (ty : TypeExpr) (payloads : List (Option TypeExpr)) → entry.kind ≡ k → has_cases k ≡ true → unaliased items ty ≡ ty → HavePayloads items (out-TypeExpr ty) payloads
        → ArePrintedCases items (payloads_in (shapes types) (payloads_of k)) payloads → IsPrintedAs items (shape_at types id.0) ty
    by-cases k ty payloads e has itself have are =
        subst (λ t. IsPrintedAs items t ty) (sym (variant_shape types down id.0 k (record { entry = entry; stands = at; kind = e }) has))
        (payloads, subst (λ t. HavePayloads items (out-TypeExpr t) payloads) (sym itself) have, are)

    option-lent : (ty : WitType) → entry.kind ≡ kind.Option ty → Here (type.Optional (lent ty))
    unfolding parts
    option-lent ty e =
        let last : TypeExpr = unlent (lent ty) in
        subst (λ ty. IsPrintedAs items (shape_at types id.0) ty) (sym (unlent-optional (lent ty)))
        (by-cases (kind.Option ty) (type.Optional last) (None ∷ Some last ∷ []) e refl (stays items items (type.Optional last) (optional-ends items last)) (optional-payloads items last) (refl, payloads-lent (kind.Option ty) (Some ty ∷ []) e refl))

    result-lent : (ok err : Option WitType) → entry.kind ≡ kind.Result ok err → Here (result_type lent ok err)
    unfolding parts
    result-lent ok err e =
        let q : WitType → TypeExpr = λ ty. unlent (lent ty) in
        let is : unlent (result_type lent ok err) ≡ result_type q ok err =
        unlent-result (payload_type lent ok) (payload_type lent err) ∙ ap₂ type.Result (unlent-payload lent ok) (unlent-payload lent err) in
        subst (λ ty. IsPrintedAs items (shape_at types id.0) ty) (sym is)
        (by-cases (kind.Result ok err) (result_type q ok err) (option_map q ok ∷ option_map q err ∷ []) e refl (stays items items (result_type q ok err) (result-ends items (payload_type q ok) (payload_type q err)))
        (result-payloads items q ok err) (payloads-lent (kind.Result ok err) (ok ∷ err ∷ []) e refl))

    -- a record has a name, and so have a variant, an enum and a flags type
    unnamed-none : (k : TypeDefKind) → needs_name k ≡ true → entry.kind ≡ k → entry.name ≡ None → ⊥
    unfolding are_type_names
    unnamed-none k needs e named =
        let has : (not (needs_name entry.kind) || is_some entry.name) ≡ true = all_at (λ (t : TypeDef). not (needs_name t.kind) || is_some t.name) types id.0 entry names at in
        let no : false ≡ true = sym (ap (λ k. not (needs_name k) || is_some entry.name) e ∙ ap (λ b. not b || is_some entry.name) needs ∙ ap (λ n. is_some n) named) ∙ has in
        cc

    named-lent : (name : Name) → entry.name ≡ Some name → Here (type.Ref (type.Path (local_path (type_ident name))))
    unfolding type_below
    named-lent name named =
        let path : TypeExpr = type.Path (local_path (type_ident name)) in
        let is : part_type types (wit.Id id) ≡ path = printed-entry types down id entry at ∙ ap (entry_type (part_type types) entry.kind) named in
        let below : type_below (length types) (wit.Id id) ≡ true = lt-ltb id.0 (length types) (slice_get_within types id.0 entry at) in
        subst (IsPrintedAs items (shape_at types id.0)) (is ∙ sym (unlent-ref path ∙ unlent-path (local_path (type_ident name)))) (printed (wit.Id id) below refl known)

    entry-lent : Here (lent_entry types lent entry.kind entry.name)
    entry-lent = go entry.kind entry.name refl refl (all_at (λ (t : TypeDef). is_defined_kind t.kind) types id.0 entry kinds at)
      where
        go : (k : TypeDefKind) (n : Option Name) → entry.kind ≡ k → entry.name ≡ n → is_defined_kind entry.kind ≡ true → Here (lent_entry types lent k n)
        go k (Some name) e named h = named-lent name named
        go (kind.Alias ty) None e named h = alias-lent ty e
        go (kind.Tuple tys) None e named h = tuple-lent tys e
        go (kind.Option ty) None e named h = option-lent ty e
        go (kind.Result ok err) None e named h = result-lent ok err e
        go (kind.Record members) None e named h = absurd (unnamed-none (kind.Record members) refl e named)
        go (kind.Variant members) None e named h = absurd (unnamed-none (kind.Variant members) refl e named)
        go (kind.Enum members) None e named h = absurd (unnamed-none (kind.Enum members) refl e named)
        go (kind.Flags members) None e named h = absurd (unnamed-none (kind.Flags members) refl e named)
        go k None e named h = absurd (let defined : is_defined_kind k ≡ true = sym (ap is_defined_kind e) ∙ h in cc)

  -- a text is lent of one; any other type with so many levels
  lent-or-text : (ty : WitType) (other : TypeExpr) → (is_text types ty ≡ false → IsPrintedAs items (shape_of types ty) (unlent other)) → IsPrintedAs items (shape_of types ty) (unlent (text_or (is_text types ty) other))
  lent-or-text ty other h = go (is_text types ty) refl
    where
      go : (b : Bool) → is_text types ty ≡ b → IsPrintedAs items (shape_of types ty) (unlent (text_or (is_text types ty) other))
      go true e =
          subst (λ b. IsPrintedAs items (shape_of types ty) (unlent (text_or b other))) (sym e)
          (subst (λ t. IsPrintedAs items t (unlent (type.Ref type.Str))) (sym (text-shape types down ty e))
          (subst (λ ty. unaliased items ty ≡ type.String) (sym (unlent-ref type.Str ∙ unlent-str)) (stays items items type.String (string-ends items))))
      go false e = subst (λ b. IsPrintedAs items (shape_of types ty) (unlent (text_or b other))) (sym e) (h e)

  -- a scalar or a text, which stands in no table
  plain-lent : (ty : WitType) → part_type types ty ≡ printed_type ty → type_below (length types) ty ≡ true → is_defined_type ty ≡ true → Known ty → IsPrintedAs items (shape_of types ty) (unlent (printed_type ty))
  plain-lent ty is below h known = subst (λ t. IsPrintedAs items (shape_of types ty) (unlent t)) is (as-part ty below h known)

  within-lent : (n : ℕ) (ty : WitType) → n ≤ length types → type_below n ty ≡ true → is_defined_type ty ≡ true → Known ty → IsLentOf (lent_within types n) ty
  unfolding part_type type_below
  within-lent zero (wit.Id id) within below h known = let no : id.0 < 0 = id_below 0 id below in absurd (omega arith)
  within-lent (suc n) (wit.Id id) within below h known =
      let low = id_below (suc n) id below in
      let there = entry_at types id.0 (omega (arith, low, within)) in
      lent-or-text (wit.Id id) (lent_by types (lent_within types n) (wit.Id id)) (λ no.
      subst (λ o. IsPrintedAs items (shape_at types id.0) (unlent (lent_found types (lent_within types n) o))) (sym there.1)
      (entry-lent id there.0 there.1 known (lent_within types n) (λ ty part defined k. within-lent n ty (omega (arith, within)) (type_below_more id.0 n ty (omega (arith, low)) part) defined k)))
  within-lent zero wit.Bool within below h known = lent-or-text wit.Bool (printed_type wit.Bool) (λ no. plain-lent wit.Bool refl refl h known)
  within-lent zero wit.U8 within below h known = lent-or-text wit.U8 (printed_type wit.U8) (λ no. plain-lent wit.U8 refl refl h known)
  within-lent zero wit.U16 within below h known = lent-or-text wit.U16 (printed_type wit.U16) (λ no. plain-lent wit.U16 refl refl h known)
  within-lent zero wit.U32 within below h known = lent-or-text wit.U32 (printed_type wit.U32) (λ no. plain-lent wit.U32 refl refl h known)
  within-lent zero wit.U64 within below h known = lent-or-text wit.U64 (printed_type wit.U64) (λ no. plain-lent wit.U64 refl refl h known)
  within-lent zero wit.S8 within below h known = lent-or-text wit.S8 (printed_type wit.S8) (λ no. plain-lent wit.S8 refl refl h known)
  within-lent zero wit.S16 within below h known = lent-or-text wit.S16 (printed_type wit.S16) (λ no. plain-lent wit.S16 refl refl h known)
  within-lent zero wit.S32 within below h known = lent-or-text wit.S32 (printed_type wit.S32) (λ no. plain-lent wit.S32 refl refl h known)
  within-lent zero wit.S64 within below h known = lent-or-text wit.S64 (printed_type wit.S64) (λ no. plain-lent wit.S64 refl refl h known)
  within-lent zero wit.F32 within below h known = lent-or-text wit.F32 (printed_type wit.F32) (λ no. plain-lent wit.F32 refl refl h known)
  within-lent zero wit.F64 within below h known = lent-or-text wit.F64 (printed_type wit.F64) (λ no. plain-lent wit.F64 refl refl h known)
  within-lent zero wit.Char within below h known = lent-or-text wit.Char (printed_type wit.Char) (λ no. plain-lent wit.Char refl refl h known)
  within-lent zero wit.String within below h known = lent-or-text wit.String (printed_type wit.String) (λ no. plain-lent wit.String refl refl h known)
  within-lent zero wit.ErrorContext within below h known = absurd (cc)
  within-lent (suc n) wit.Bool within below h known = lent-or-text wit.Bool (printed_type wit.Bool) (λ no. plain-lent wit.Bool refl refl h known)
  within-lent (suc n) wit.U8 within below h known = lent-or-text wit.U8 (printed_type wit.U8) (λ no. plain-lent wit.U8 refl refl h known)
  within-lent (suc n) wit.U16 within below h known = lent-or-text wit.U16 (printed_type wit.U16) (λ no. plain-lent wit.U16 refl refl h known)
  within-lent (suc n) wit.U32 within below h known = lent-or-text wit.U32 (printed_type wit.U32) (λ no. plain-lent wit.U32 refl refl h known)
  within-lent (suc n) wit.U64 within below h known = lent-or-text wit.U64 (printed_type wit.U64) (λ no. plain-lent wit.U64 refl refl h known)
  within-lent (suc n) wit.S8 within below h known = lent-or-text wit.S8 (printed_type wit.S8) (λ no. plain-lent wit.S8 refl refl h known)
  within-lent (suc n) wit.S16 within below h known = lent-or-text wit.S16 (printed_type wit.S16) (λ no. plain-lent wit.S16 refl refl h known)
  within-lent (suc n) wit.S32 within below h known = lent-or-text wit.S32 (printed_type wit.S32) (λ no. plain-lent wit.S32 refl refl h known)
  within-lent (suc n) wit.S64 within below h known = lent-or-text wit.S64 (printed_type wit.S64) (λ no. plain-lent wit.S64 refl refl h known)
  within-lent (suc n) wit.F32 within below h known = lent-or-text wit.F32 (printed_type wit.F32) (λ no. plain-lent wit.F32 refl refl h known)
  within-lent (suc n) wit.F64 within below h known = lent-or-text wit.F64 (printed_type wit.F64) (λ no. plain-lent wit.F64 refl refl h known)
  within-lent (suc n) wit.Char within below h known = lent-or-text wit.Char (printed_type wit.Char) (λ no. plain-lent wit.Char refl refl h known)
  within-lent (suc n) wit.String within below h known = lent-or-text wit.String (printed_type wit.String) (λ no. plain-lent wit.String refl refl h known)
  within-lent (suc n) wit.ErrorContext within below h known = absurd (cc)

  pub param-lent : (ty : WitType) → type_below (length types) ty ≡ true → is_defined_type ty ≡ true → Known ty → IsLentOf (param_type types) ty
  unfolding lent_type
  param-lent ty below h known = by-list (lent_type types) ty below h known (within-lent (levels_of ty) ty (enough ty below) (below-itself ty) h known)
    where
      enough : (ty : WitType) → type_below (length types) ty ≡ true → levels_of ty ≤ length types
      enough (wit.Id id) below = let low = id_below (length types) id below in omega (arith, low)
      enough _ below = omega arith
