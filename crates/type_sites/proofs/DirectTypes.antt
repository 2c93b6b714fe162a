-- A type of a kind that is defined is passed directly.
use Rattle.std.proofs.Common.{◌≡◌, ℕ, zero, suc, ◌<◌, ◌≤◌, true, ◌&&◌, List, [], ◌∷◌, length, map, Option, None, Some, refl, sym, ap, ◌∙◌, arith}
use Rattle.std.specs.Prelude.{slice_get}
use Rattle.std.specs.List.{list_all}
use Rattle.std.proofs.lemmas.Bool.{and_from}
use Rattle.wit_model.specs.declared.name.TypeId.{TypeId}
use Rattle.wit_model.specs.declared.types.Field.{Field}
use Rattle.wit_model.specs.declared.types.TypeDef.{TypeDef}
use Rattle.wit_model.specs.declared.types.TypeDefKind.{TypeDefKind}
use Rattle.wit_model.specs.declared.types.TypeDefKind.TheVariants as kind
use Rattle.wit_model.specs.declared.types.WitType.{WitType}
use Rattle.wit_model.specs.declared.types.WitType.TheVariants as wit
use Rattle.wit_model.specs.Parts.{parts}
use Rattle.wit_model.specs.TypeOrder.{GoesDown, parts_below, payload_below, type_below}
use Rattle.wit_model.proofs.AllLemmas.{all_at}
use Rattle.wit_model.proofs.BelowLemmas.{id_below, type_below_more}
use Rattle.type_defs.specs.Defined.{are_defined_kinds, have_defined_parts, is_defined_kind, is_defined_part, is_defined_type}
use Rattle.wrapper_meaning.specs.Shape.{payloads_in, shape_of, shapes}
use Rattle.abi_bindgen.specs.Cases.{payloads_of}
use Rattle.abi_bindgen.specs.Instructions.{has_cases, shapes_of}
use Rattle.abi_bindgen.proofs.Payloads.{variant_shape}
use Rattle.abi_bindgen.proofs.Records.{alias_shape, enum_shape, flags_shape, record_shape, tuple_shape}
use Rattle.wrapper_closing.proofs.PrintedAnswers.{bare_direct}
use Rattle.wrapper_closing.specs.Direct.{are_direct, is_direct}
use Rattle.type_sites.proofs.PrintedTypes.{mapped, mapped-fields}
use Rattle.wit_layout.proofs.AheadTurns.{entry_at}

module _ (types : List TypeDef) (down : GoesDown types) (kinds : are_defined_kinds types ≡ true) (sound : have_defined_parts types ≡ true) where
  pub all-direct : (tys : List WitType) → ((nth : ℕ) (ty : WitType) → slice_get tys nth ≡ Some ty → is_direct (shape_of types ty) ≡ true) → are_direct (shapes_of types tys) ≡ true
  all-direct [] h = refl
  all-direct (ty ∷ tys) h = and_from (is_direct (shape_of types ty)) (are_direct (shapes_of types tys)) (h 0 ty refl) (all-direct tys (λ nth ty e. h (suc nth) ty e))

  payloads-direct : (payloads : List (Option WitType)) → ((nth : ℕ) (ty : WitType) → slice_get payloads nth ≡ Some (Some ty) → is_direct (shape_of types ty) ≡ true) → are_direct (payloads_in (shapes types) payloads) ≡ true
  payloads-direct [] h = refl
  payloads-direct (None ∷ payloads) h = payloads-direct payloads (λ nth ty e. h (suc nth) ty e)
  payloads-direct (Some ty ∷ payloads) h =
      and_from (is_direct (shape_of types ty)) (are_direct (payloads_in (shapes types) payloads)) (h 0 ty refl) (payloads-direct payloads (λ nth ty e. h (suc nth) ty e))

  module _ (id : TypeId) (entry : TypeDef) (at : slice_get types id.0 ≡ Some entry)
      (further : (ty : WitType) → type_below id.0 ty ≡ true → is_defined_type ty ≡ true → is_direct (shape_of types ty) ≡ true) where
    part-direct : (nth : ℕ) (ty : WitType) → slice_get (parts entry.kind) nth ≡ Some (Some ty) → is_direct (shape_of types ty) ≡ true
    unfolding parts_below payload_below
    part-direct nth ty part =
        let below : payload_below id.0 (Some ty) ≡ true = all_at (λ part. payload_below id.0 part) (parts entry.kind) nth (Some ty) (down id.0 entry at) part in
        let defined : is_defined_part (Some ty) ≡ true =
        all_at is_defined_part (parts entry.kind) nth (Some ty) (all_at (λ (entry : TypeDef). list_all is_defined_part (parts entry.kind)) types id.0 entry sound at) part in
        further ty below defined

    -- cases, by the payloads of their kind
    by_payloads : (k : TypeDefKind) (payloads : List (Option WitType)) → entry.kind ≡ k → has_cases k ≡ true → payloads_of k ≡ payloads
        → ((nth : ℕ) (ty : WitType) → slice_get payloads nth ≡ Some (Some ty) → slice_get (parts entry.kind) nth ≡ Some (Some ty)) → is_direct (shape_of types (wit.Id id)) ≡ true
    by_payloads k payloads e has are there =
        ap is_direct (variant_shape types down id.0 k (record { entry = entry; stands = at; kind = e }) has) ∙ ap (λ ps. are_direct (payloads_in (shapes types) ps)) are
        ∙ payloads-direct payloads (λ nth ty is. part-direct nth ty (there nth ty is))

    -- an entry, by its kind
    entry-direct : is_direct (shape_of types (wit.Id id)) ≡ true
    unfolding parts
    entry-direct = go entry.kind refl (all_at (λ (t : TypeDef). is_defined_kind t.kind) types id.0 entry kinds at)
      where
        go : (k : TypeDefKind) → entry.kind ≡ k → is_defined_kind entry.kind ≡ true → is_direct (shape_of types (wit.Id id)) ≡ true
        go (kind.Alias ty) e h = ap is_direct (alias_shape types down id.0 entry at ty e) ∙ part-direct 0 ty (ap (λ k. slice_get (parts k) 0) e)
        go (kind.Tuple tys) e h =
            ap is_direct (tuple_shape types down id.0 entry at tys e) ∙ all-direct tys (λ nth ty there. part-direct nth ty (ap (λ k. slice_get (parts k) nth) e ∙ mapped tys nth ty there))
        go (kind.Record members) e h =
            ap is_direct (record_shape types down id.0 entry at members e)
            ∙ all-direct (map (λ (f : Field). f.ty) members) (λ nth ty there. part-direct nth ty (ap (λ k. slice_get (parts k) nth) e ∙ mapped-fields members nth ty there))
        go (kind.Enum members) e h = ap is_direct (enum_shape types down id.0 entry at members e) ∙ bare_direct members
        go (kind.Flags members) e h = ap is_direct (flags_shape types down id.0 entry at members e)
        go (kind.Variant members) e h = by_payloads (kind.Variant members) (map (λ c. c.ty) members) e refl refl (λ nth ty there. ap (λ k. slice_get (parts k) nth) e ∙ there)
        go (kind.Option ty) e h = ap is_direct (variant_shape types down id.0 (kind.Option ty) (record { entry = entry; stands = at; kind = e }) refl) ∙ ap (λ b. b && true) (part-direct 0 ty (ap (λ k. slice_get (parts k) 0) e))
        go (kind.Result ok err) e h = by_payloads (kind.Result ok err) (ok ∷ err ∷ []) e refl refl (λ nth ty there. ap (λ k. slice_get (parts k) nth) e ∙ there)
        go k e h = absurd (let defined : is_defined_kind k ≡ true = sym (ap is_defined_kind e) ∙ h in cc)

  -- each type, up the table
  direct-below : (n : ℕ) (ty : WitType) → n ≤ length types → type_below n ty ≡ true → is_defined_type ty ≡ true → is_direct (shape_of types ty) ≡ true
  direct-below zero (wit.Id id) within below h = let no : id.0 < 0 = id_below 0 id below in absurd (omega arith)
  direct-below (suc n) (wit.Id id) within below h =
      let low = id_below (suc n) id below in
      let there = entry_at types id.0 (omega arith) in
      entry-direct id there.0 there.1 (λ ty part defined. direct-below n ty (omega arith) (type_below_more id.0 n ty (omega arith) part) defined)
  direct-below n wit.Bool within below h = refl
  direct-below n wit.U8 within below h = refl
  direct-below n wit.U16 within below h = refl
  direct-below n wit.U32 within below h = refl
  direct-below n wit.U64 within below h = refl
  direct-below n wit.S8 within below h = refl
  direct-below n wit.S16 within below h = refl
  direct-below n wit.S32 within below h = refl
  direct-below n wit.S64 within below h = refl
  direct-below n wit.F32 within below h = refl
  direct-below n wit.F64 within below h = refl
  direct-below n wit.Char within below h = refl
  direct-below n wit.String within below h = refl
  direct-below n wit.ErrorContext within below h = absurd (cc)

  pub type-direct : (ty : WitType) → type_below (length types) ty ≡ true → is_defined_type ty ≡ true → is_direct (shape_of types ty) ≡ true
  type-direct ty below h = direct-below (length types) ty (omega arith) below h
