-- What is sent for core words, by the kind of a type.
use Rattle.std.proofs.Common.{◌≡◌, ℕ, Bool, List, [], ◌∷◌, length, map, Option, Some, option_map, false, true, refl, ap, ◌∙◌}
use Rattle.std.proofs.lemmas.Bool.{cond-false, cond-true}
use Rattle.std.specs.Prelude.{zip}
use Rattle.std.specs.List.{slice_get}
use Rattle.wit_model.specs.TypeOrder.{GoesDown}
use Rattle.wit_model.specs.declared.name.TypeId.{TypeId}
use Rattle.wit_model.specs.declared.types.Field.{Field}
use Rattle.wit_model.specs.declared.types.Member.{Member}
use Rattle.wit_model.specs.declared.types.TypeDef.{TypeDef}
use Rattle.wit_model.specs.declared.types.TypeDefKind.{TypeDefKind}
use Rattle.wit_model.specs.declared.types.TypeDefKind.TheVariants as kind
use Rattle.wit_model.specs.declared.types.WitType.{WitType}
use Rattle.wit_model.specs.declared.types.WitType.TheVariants as wit
use Rattle.wrapper_meaning.specs.Kinds.{has_list}
use Rattle.wrapper_meaning.specs.Shape.{shape_at}
use Rattle.abi_bindgen.specs.declared.instruction.Instruction.{Instruction}
use Rattle.abi_bindgen.specs.declared.instruction.Instruction.TheVariants.{EnumLift, EnumLower, FlagsLift, FlagsLower, GuestDeallocateString, GuestDeallocateVariant, OptionLift, OptionLower, RecordLift, RecordLower, ResultLift, ResultLower, StringLift, StringLower, TupleLift, TupleLower, VariantLift, VariantLower}
use Rattle.abi_bindgen.specs.Code.{blocks_of_cases, by_case, case_words, in_blocks, lift_case, lift_cases, lower_case, lower_cases, members_of, payloads_there, shared_slots, free_words_cases, free_words_code, free_words_kind, free_words_leaf, lift_code, lift_kind, lift_leaf, lower_code, lower_kind, lower_leaf, of_words}
use Rattle.abi_bindgen.specs.Flow.{Flow, behind, both, each, emit, emit_some, in_block, leading, leave_none, same, ◌>>>◌}
use Rattle.abi_bindgen.specs.Instructions.{case_lifting, case_lowering, has_cases, lifting, lowering}
use Rattle.abi_bindgen.specs.Cases.{payloads_of}
use Rattle.abi_bindgen.specs.WordCount.{word_count}
use Rattle.abi_bindgen.proofs.CodeByKind.{made_by_kind}
use Rattle.abi_bindgen.proofs.Payloads.{by_case_map}
use Rattle.abi_bindgen.proofs.FlowSteps.{each_map}

-- the code of parts, each of the words of its type
words_each : (types : List TypeDef) (g : WitType → Flow) (tys : List WitType) → of_words types tys (map g tys) ≡ each 0 (word_count types) (λ n ty. g ty) 0 tys
words_each types g tys = ap (each 0 (λ (x : WitType × Flow). word_count types x.0) (λ n x. x.1) 0) (zip_map tys) ∙ each_map 0 (λ (x : WitType × Flow). word_count types x.0) (λ n x. x.1) (λ ty. (ty, g ty)) 0 tys
  where
    zip_map : (tys : List WitType) → zip tys (map g tys) ≡ map (λ ty. (ty, g ty)) tys
    zip_map [] = refl
    zip_map (ty ∷ tys) = ap (λ xs. (ty, g ty) ∷ xs) (zip_map tys)

-- of what is made for the payloads that there are
pub blocks_each : {A : Type 0} (shared : ℕ) (code : ℕ → Option (WitType × A) → Flow) (g : WitType → A) (payloads : List (Option WitType))
    → in_blocks shared code (by_case payloads (map g (payloads_there payloads))) ≡ blocks_of_cases shared code g payloads
blocks_each shared code g payloads = ap (in_blocks shared code) (by_case_map g payloads) ∙ each_map shared (λ x. 0) (λ n x. in_block (code n x)) (option_map (λ ty. (ty, g ty))) 0 payloads

pub lower_scalar_code : (types : List TypeDef) (realloc : Bool) (ty : WitType) (i : Instruction) → lowering ty ≡ Some i → lower_code types realloc ty ≡ emit i
unfolding lower_code
lower_scalar_code types realloc wit.String i e = absurd (let h = e in cc)
lower_scalar_code types realloc (wit.Id id) i e = absurd (let h = e in cc)
lower_scalar_code types realloc _ i e = ap emit_some e

pub lower_text_code : (types : List TypeDef) (realloc : Bool) → lower_code types realloc wit.String ≡ emit (StringLower realloc)
unfolding lower_code
lower_text_code types realloc = refl

pub lift_scalar_code : (types : List TypeDef) (ty : WitType) (i : Instruction) → lifting ty ≡ Some i → lift_code types ty ≡ emit i
unfolding lift_code
lift_scalar_code types wit.String i e = absurd (let h = e in cc)
lift_scalar_code types (wit.Id id) i e = absurd (let h = e in cc)
lift_scalar_code types _ i e = ap emit_some e

pub lift_text_code : (types : List TypeDef) → lift_code types wit.String ≡ emit StringLift
unfolding lift_code
lift_text_code types = refl

pub free_words_scalar_code : (types : List TypeDef) (ty : WitType) (i : Instruction) → lifting ty ≡ Some i → free_words_code types ty ≡ leave_none
unfolding free_words_code
free_words_scalar_code types wit.String i e = absurd (let h = e in cc)
free_words_scalar_code types (wit.Id id) i e = absurd (let h = e in cc)
free_words_scalar_code types _ i e = refl

pub free_words_text_code : (types : List TypeDef) → free_words_code types wit.String ≡ emit GuestDeallocateString
unfolding free_words_code
free_words_text_code types = refl

-- an entry of the table
module _ (types : List TypeDef) (down : GoesDown types) (id : TypeId) (entry : TypeDef) (at : slice_get types id.0 ≡ Some entry) where
  pub lower_alias_code : (realloc : Bool) (ty : WitType) → entry.kind ≡ kind.Alias ty → lower_code types realloc (wit.Id id) ≡ lower_code types realloc ty
  unfolding lower_code
  lower_alias_code realloc ty e = made_by_kind (lower_leaf realloc) (lower_kind types) types id entry (kind.Alias ty) down at e

  pub lower_record_code : (realloc : Bool) (members : List Field) → entry.kind ≡ kind.Record members
      → lower_code types realloc (wit.Id id) ≡ emit (RecordLower id) >>> each 0 (λ ty. 1) (λ n ty. lower_code types realloc ty) 0 (map (λ f. f.ty) members)
  unfolding lower_code
  lower_record_code realloc members e =
      made_by_kind (lower_leaf realloc) (lower_kind types) types id entry (kind.Record members) down at e
      ∙ ap (λ code. emit (RecordLower id) >>> code) (each_map 0 (λ part. 1) (λ n part. part) (lower_code types realloc) 0 (map (λ (f : Field). f.ty) members))

  pub lower_tuple_code : (realloc : Bool) (tys : List WitType) → entry.kind ≡ kind.Tuple tys
      → lower_code types realloc (wit.Id id) ≡ emit (TupleLower (length tys)) >>> each 0 (λ ty. 1) (λ n ty. lower_code types realloc ty) 0 tys
  unfolding lower_code
  lower_tuple_code realloc tys e =
      made_by_kind (lower_leaf realloc) (lower_kind types) types id entry (kind.Tuple tys) down at e
      ∙ ap (λ code. emit (TupleLower (length tys)) >>> code) (each_map 0 (λ part. 1) (λ n part. part) (lower_code types realloc) 0 tys)

  pub lift_alias_code : (ty : WitType) → entry.kind ≡ kind.Alias ty → lift_code types (wit.Id id) ≡ lift_code types ty
  unfolding lift_code
  lift_alias_code ty e = made_by_kind lift_leaf (lift_kind types) types id entry (kind.Alias ty) down at e

  pub lift_record_code : (members : List Field) → entry.kind ≡ kind.Record members
      → lift_code types (wit.Id id) ≡ each 0 (word_count types) (λ n ty. lift_code types ty) 0 (map (λ f. f.ty) members) >>> emit (RecordLift id)
  unfolding lift_code
  lift_record_code members e =
      made_by_kind lift_leaf (lift_kind types) types id entry (kind.Record members) down at e
      ∙ ap (λ code. code >>> emit (RecordLift id)) (words_each types (lift_code types) (map (λ (f : Field). f.ty) members))

  pub lift_tuple_code : (tys : List WitType) → entry.kind ≡ kind.Tuple tys
      → lift_code types (wit.Id id) ≡ each 0 (word_count types) (λ n ty. lift_code types ty) 0 tys >>> emit (TupleLift (length tys))
  unfolding lift_code
  lift_tuple_code tys e =
      made_by_kind lift_leaf (lift_kind types) types id entry (kind.Tuple tys) down at e
      ∙ ap (λ code. code >>> emit (TupleLift (length tys))) (words_each types (lift_code types) tys)

  pub lower_enum_code : (realloc : Bool) (members : List Member) → entry.kind ≡ kind.Enum members → lower_code types realloc (wit.Id id) ≡ emit (EnumLower id)
  unfolding lower_code
  lower_enum_code realloc members e = made_by_kind (lower_leaf realloc) (lower_kind types) types id entry (kind.Enum members) down at e

  pub lift_enum_code : (members : List Member) → entry.kind ≡ kind.Enum members → lift_code types (wit.Id id) ≡ emit (EnumLift id)
  unfolding lift_code
  lift_enum_code members e = made_by_kind lift_leaf (lift_kind types) types id entry (kind.Enum members) down at e

  pub lower_flags_code : (realloc : Bool) (members : List Member) → entry.kind ≡ kind.Flags members → lower_code types realloc (wit.Id id) ≡ emit (FlagsLower id)
  unfolding lower_code
  lower_flags_code realloc members e = made_by_kind (lower_leaf realloc) (lower_kind types) types id entry (kind.Flags members) down at e

  pub lift_flags_code : (members : List Member) → entry.kind ≡ kind.Flags members → lift_code types (wit.Id id) ≡ emit (FlagsLift id)
  unfolding lift_code
  lift_flags_code members e = made_by_kind lift_leaf (lift_kind types) types id entry (kind.Flags members) down at e

  pub lower_variant_code : (realloc : Bool) (k : TypeDefKind) → entry.kind ≡ k → has_cases k ≡ true
      → lower_code types realloc (wit.Id id) ≡ both (blocks_of_cases 0 (lower_case types (shared_slots types (payloads_of k))) (lower_code types realloc) (payloads_of k)) same >>> emit (case_lowering k id (case_words types (payloads_of k)))
  unfolding lower_code
  lower_variant_code realloc k e has = made_by_kind (lower_leaf realloc) (lower_kind types) types id entry k down at e ∙ by_kind k has
    where
      each_by : (i : Instruction) (payloads : List (Option WitType))
          → lower_cases types payloads (map (lower_code types realloc) (payloads_there payloads)) >>> emit i ≡ both (blocks_of_cases 0 (lower_case types (shared_slots types payloads)) (lower_code types realloc) payloads) same >>> emit i
      each_by i payloads = ap (λ code. both code same >>> emit i) (blocks_each 0 (lower_case types (shared_slots types payloads)) (lower_code types realloc) payloads)

      by_kind : (k : TypeDefKind) → has_cases k ≡ true → lower_kind types id.0 k (map (lower_code types realloc) (members_of k))
          ≡ both (blocks_of_cases 0 (lower_case types (shared_slots types (payloads_of k))) (lower_code types realloc) (payloads_of k)) same >>> emit (case_lowering k id (case_words types (payloads_of k)))
      by_kind (kind.Variant members) h = each_by (VariantLower id (case_words types (payloads_of (kind.Variant members)))) (payloads_of (kind.Variant members))
      by_kind (kind.Option ty) h = each_by (OptionLower id (case_words types (payloads_of (kind.Option ty)))) (payloads_of (kind.Option ty))
      by_kind (kind.Result ok err) h = each_by (ResultLower id (case_words types (payloads_of (kind.Result ok err)))) (payloads_of (kind.Result ok err))
      by_kind _ h = absurd cc

  pub lift_variant_code : (k : TypeDefKind) → entry.kind ≡ k → has_cases k ≡ true
      → lift_code types (wit.Id id)
      ≡ both (behind 1 >>> blocks_of_cases (length (shared_slots types (payloads_of k))) (lift_case types (shared_slots types (payloads_of k))) (lift_code types) (payloads_of k)) (leading 1) >>> emit (case_lifting k id)
  unfolding lift_code
  lift_variant_code k e has = made_by_kind lift_leaf (lift_kind types) types id entry k down at e ∙ by_kind k has
    where
      each_by : (i : Instruction) (payloads : List (Option WitType)) → lift_cases types payloads (map (lift_code types) (payloads_there payloads)) >>> emit i
          ≡ both (behind 1 >>> blocks_of_cases (length (shared_slots types payloads)) (lift_case types (shared_slots types payloads)) (lift_code types) payloads) (leading 1) >>> emit i
      each_by i payloads = ap (λ code. both (behind 1 >>> code) (leading 1) >>> emit i) (blocks_each (length (shared_slots types payloads)) (lift_case types (shared_slots types payloads)) (lift_code types) payloads)

      by_kind : (k : TypeDefKind) → has_cases k ≡ true → lift_kind types id.0 k (map (lift_code types) (members_of k))
          ≡ both (behind 1 >>> blocks_of_cases (length (shared_slots types (payloads_of k))) (lift_case types (shared_slots types (payloads_of k))) (lift_code types) (payloads_of k)) (leading 1) >>> emit (case_lifting k id)
      by_kind (kind.Variant members) h = each_by (VariantLift id) (payloads_of (kind.Variant members))
      by_kind (kind.Option ty) h = each_by (OptionLift id) (payloads_of (kind.Option ty))
      by_kind (kind.Result ok err) h = each_by (ResultLift id) (payloads_of (kind.Result ok err))
      by_kind _ h = absurd cc

  pub free_words_alias_code : (ty : WitType) → entry.kind ≡ kind.Alias ty → free_words_code types (wit.Id id) ≡ free_words_code types ty
  unfolding free_words_code
  free_words_alias_code ty e = made_by_kind free_words_leaf (free_words_kind types) types id entry (kind.Alias ty) down at e

  pub free_words_enum_code : (members : List Member) → entry.kind ≡ kind.Enum members → free_words_code types (wit.Id id) ≡ leave_none
  unfolding free_words_code
  free_words_enum_code members e = made_by_kind free_words_leaf (free_words_kind types) types id entry (kind.Enum members) down at e

  pub free_words_flags_code : (members : List Member) → entry.kind ≡ kind.Flags members → free_words_code types (wit.Id id) ≡ leave_none
  unfolding free_words_code
  free_words_flags_code members e = made_by_kind free_words_leaf (free_words_kind types) types id entry (kind.Flags members) down at e

  freed_by_cases : (k : TypeDefKind) → entry.kind ≡ k → has_cases k ≡ true → free_words_code types (wit.Id id) ≡ free_words_cases types id.0 (payloads_of k) (map (free_words_code types) (payloads_there (payloads_of k)))
  unfolding free_words_code
  freed_by_cases k e has = made_by_kind free_words_leaf (free_words_kind types) types id entry k down at e ∙ by_kind k has
    where
      by_kind : (k : TypeDefKind) → has_cases k ≡ true → free_words_kind types id.0 k (map (free_words_code types) (members_of k)) ≡ free_words_cases types id.0 (payloads_of k) (map (free_words_code types) (payloads_there (payloads_of k)))
      by_kind (kind.Variant members) h = refl
      by_kind (kind.Option ty) h = refl
      by_kind (kind.Result ok err) h = refl
      by_kind _ h = absurd cc

  -- a variant, an option or a result without blocks, and one with some
  pub free_words_none_code : (k : TypeDefKind) → entry.kind ≡ k → has_cases k ≡ true → has_list (shape_at types id.0) ≡ false → free_words_code types (wit.Id id) ≡ leave_none
  free_words_none_code k e has none = freed_by_cases k e has ∙ cond-false (has_list (shape_at types id.0)) _ _ none

  pub free_words_variant_code : (k : TypeDefKind) → entry.kind ≡ k → has_cases k ≡ true → has_list (shape_at types id.0) ≡ true
      → free_words_code types (wit.Id id)
      ≡ both (behind 1 >>> blocks_of_cases (length (shared_slots types (payloads_of k))) (lift_case types (shared_slots types (payloads_of k))) (free_words_code types) (payloads_of k)) (leading 1) >>> emit (GuestDeallocateVariant (length (payloads_of k)))
  free_words_variant_code k e has some =
      let shared = shared_slots types (payloads_of k) in
      freed_by_cases k e has ∙ cond-true (has_list (shape_at types id.0)) _ _ some
      ∙ ap (λ code. both (behind 1 >>> code) (leading 1) >>> emit (GuestDeallocateVariant (length (payloads_of k)))) (blocks_each (length shared) (lift_case types shared) (free_words_code types) (payloads_of k))

  pub free_words_record_code : (members : List Field) → entry.kind ≡ kind.Record members → free_words_code types (wit.Id id) ≡ each 0 (word_count types) (λ n ty. free_words_code types ty) 0 (map (λ f. f.ty) members)
  unfolding free_words_code
  free_words_record_code members e =
      made_by_kind free_words_leaf (free_words_kind types) types id entry (kind.Record members) down at e ∙ words_each types (free_words_code types) (map (λ (f : Field). f.ty) members)

  pub free_words_tuple_code : (tys : List WitType) → entry.kind ≡ kind.Tuple tys → free_words_code types (wit.Id id) ≡ each 0 (word_count types) (λ n ty. free_words_code types ty) 0 tys
  unfolding free_words_code
  free_words_tuple_code tys e = made_by_kind free_words_leaf (free_words_kind types) types id entry (kind.Tuple tys) down at e ∙ words_each types (free_words_code types) tys
