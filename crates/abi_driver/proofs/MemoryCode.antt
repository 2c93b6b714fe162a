-- What is sent for memory, by the kind of a type.
use Rattle.std.proofs.Common.{◌≡◌, ℕ, Bool, List, length, map, true, false, Option, Some, option_map, refl, ap, ap₂, ◌∙◌}
use Rattle.std.specs.List.{slice_get}
use Rattle.std.proofs.lemmas.Bool.{cond-false, cond-true}
use Rattle.std.proofs.lemmas.List.{length-map}
use Rattle.wit_model.specs.TypeOrder.{GoesDown}
use Rattle.wit_model.specs.declared.name.TypeId.{TypeId}
use Rattle.wit_model.specs.declared.size.ArchitectureSize.{ArchitectureSize}
use Rattle.wit_model.specs.declared.types.Field.{Field}
use Rattle.wit_model.specs.declared.types.Member.{Member}
use Rattle.wit_model.specs.declared.types.TypeDef.{TypeDef}
use Rattle.wit_model.specs.declared.types.TypeDefKind.{TypeDefKind}
use Rattle.wit_model.specs.declared.types.TypeDefKind.TheVariants as kind
use Rattle.wit_model.specs.declared.types.WitType.{WitType}
use Rattle.wit_model.specs.declared.types.WitType.TheVariants as wit
use Rattle.wit_layout.specs.Tree.{tree_at}
use Rattle.wrapper_meaning.specs.Kinds.{has_list}
use Rattle.wrapper_meaning.specs.Shape.{shape_at}
use Rattle.abi_bindgen.specs.declared.instruction.Instruction.{Instruction}
use Rattle.abi_bindgen.specs.declared.instruction.Instruction.TheVariants.{EnumLift, EnumLower, FlagsLift, FlagsLower, GuestDeallocateString, GuestDeallocateVariant, RecordLift, RecordLower, StringLift, TupleLift, TupleLower}
use Rattle.abi_bindgen.specs.Cases.{payloads_of}
use Rattle.abi_bindgen.specs.Code.{at_payload, behind_address, beyond, blocks_of_cases, by_case, by_tag, free_cases, free_code, free_kind, free_leaf, in_blocks, load_code, load_kind, load_leaf, load_pair, load_words, members_of, payload_place, payloads_there, place_in, store_by, store_case, store_cases, store_code, store_kind, store_leaf, store_scalar, store_text, store_words}
use Rattle.abi_bindgen.specs.Flow.{Flow, behind, both, each, emit, emit_some, leave_none, ◌>>>◌}
use Rattle.abi_bindgen.specs.Instructions.{case_lifting, case_lowering, has_cases, lifting, lowering}
use Rattle.abi_bindgen.specs.NumberTouches.{tag_load, tag_store}
use Rattle.abi_bindgen.specs.ScalarTouches.{scalar_load, scalar_store}
use Rattle.abi_bindgen.proofs.CodeByKind.{made_by_kind}
use Rattle.abi_bindgen.proofs.FlatCode.{blocks_each}
use Rattle.abi_bindgen.proofs.FlowSteps.{each_map}
use Rattle.abi_bindgen.proofs.Payloads.{by_case_map}

-- 1. Scalars and texts

module _ (types : List TypeDef) (offset : ArchitectureSize) where
  pub store_scalar_code : (realloc : Bool) (ty : WitType) (lower store : Instruction) → lowering ty ≡ Some lower → scalar_store ty offset ≡ Some store → store_code types realloc ty offset ≡ store_by (behind 1 >>> emit lower) store
  unfolding store_code
  store_scalar_code realloc wit.String lower store e f = absurd (let h = e in cc)
  store_scalar_code realloc (wit.Id id) lower store e f = absurd (let h = e in cc)
  store_scalar_code realloc _ lower store e f = ap₂ store_scalar e f

  pub store_text_code : (realloc : Bool) → store_code types realloc wit.String offset ≡ store_text realloc offset
  unfolding store_code
  store_text_code realloc = refl

  pub load_scalar_code : (ty : WitType) (load lift : Instruction) → scalar_load ty offset ≡ Some load → lifting ty ≡ Some lift → load_code types ty offset ≡ emit load >>> emit lift
  unfolding load_code
  load_scalar_code wit.String load lift e f = absurd (let h = f in cc)
  load_scalar_code (wit.Id id) load lift e f = absurd (let h = f in cc)
  load_scalar_code _ load lift e f = ap₂ (λ x y. emit_some x >>> emit_some y) e f

  pub load_text_code : load_code types wit.String offset ≡ load_pair offset >>> emit StringLift
  unfolding load_code
  load_text_code = refl

  pub free_scalar_code : (ty : WitType) (lift : Instruction) → lifting ty ≡ Some lift → free_code types ty offset ≡ leave_none
  unfolding free_code
  free_scalar_code wit.String lift e = absurd (let h = e in cc)
  free_scalar_code (wit.Id id) lift e = absurd (let h = e in cc)
  free_scalar_code _ lift e = refl

  pub free_text_code : free_code types wit.String offset ≡ load_pair offset >>> emit GuestDeallocateString
  unfolding free_code
  free_text_code = refl

-- 2. Cases

-- the types that a kind with payloads names
named_payloads : (k : TypeDefKind) → has_cases k ≡ true → members_of k ≡ payloads_there (payloads_of k)
named_payloads (kind.Variant members) h = refl
named_payloads (kind.Option ty) h = refl
named_payloads (kind.Result ok err) h = refl
named_payloads _ h = absurd (let e = h in cc)

-- what is made for the payloads of a kind
abbrev Made : Type 0
Made = WitType → ArchitectureSize → Flow

case_count : (code : Made) (payloads : List (Option WitType)) → length (by_case payloads (map code (payloads_there payloads))) ≡ length payloads
case_count code payloads = ap length (by_case_map code payloads) ∙ length-map payloads (option_map (λ ty. (ty, code ty)))

tagged : (types : List TypeDef) (id : ℕ) (code : Made) (payloads : List (Option WitType)) (offset : ArchitectureSize) (i : ℕ → Instruction)
    → by_tag types id (by_case payloads (map code (payloads_there payloads))) offset (i (length (by_case payloads (map code (payloads_there payloads)))))
    ≡ both (emit (tag_load (length payloads) offset)) (blocks_of_cases 1 (λ n part. at_payload (beyond offset (payload_place (tree_at types id))) part) code payloads) >>> emit (i (length payloads))
tagged types id code payloads offset i =
    let place = beyond offset (payload_place (tree_at types id)) in
    ap₂ (λ (n : ℕ) (blocks : Flow). both (emit (tag_load n offset)) blocks >>> emit (i n)) (case_count code payloads) (blocks_each 1 (λ n part. at_payload place part) code payloads)

-- 3. An entry of the table

module _ (types : List TypeDef) (down : GoesDown types) (id : TypeId) (entry : TypeDef) (at : slice_get types id.0 ≡ Some entry) (offset : ArchitectureSize) where
  abbrev pub part_at : ℕ → ArchitectureSize
  part_at n = beyond offset (place_in (tree_at types id.0) n)

  -- where the payloads of cases stand
  abbrev pub cases_place : ArchitectureSize
  cases_place = beyond offset (payload_place (tree_at types id.0))

  -- the parts of a record or a tuple
  each_at : (own : ℕ) (code : Made) (tys : List WitType) → each 1 (λ part. own) (λ n part. part (part_at n)) 0 (map code tys) ≡ each 1 (λ ty. own) (λ n ty. code ty (part_at n)) 0 tys
  each_at own code tys = each_map 1 (λ part. own) (λ n part. part (part_at n)) code 0 tys

  pub store_alias_code : (realloc : Bool) (ty : WitType) → entry.kind ≡ kind.Alias ty → store_code types realloc (wit.Id id) offset ≡ store_code types realloc ty offset
  unfolding store_code
  store_alias_code realloc ty e = ap (λ f. f offset) (made_by_kind (store_leaf realloc) (store_kind types) types id entry (kind.Alias ty) down at e)

  pub store_record_code : (realloc : Bool) (members : List Field) → entry.kind ≡ kind.Record members
      → store_code types realloc (wit.Id id) offset ≡ behind_address (emit (RecordLower id)) >>> each 1 (λ ty. 1) (λ n ty. store_code types realloc ty (part_at n)) 0 (map (λ f. f.ty) members)
  unfolding store_code
  store_record_code realloc members e =
      ap (λ f. f offset) (made_by_kind (store_leaf realloc) (store_kind types) types id entry (kind.Record members) down at e)
      ∙ ap (λ code. behind_address (emit (RecordLower id)) >>> code) (each_at 1 (store_code types realloc) (map (λ (f : Field). f.ty) members))

  pub store_tuple_code : (realloc : Bool) (tys : List WitType) → entry.kind ≡ kind.Tuple tys
      → store_code types realloc (wit.Id id) offset ≡ behind_address (emit (TupleLower (length tys))) >>> each 1 (λ ty. 1) (λ n ty. store_code types realloc ty (part_at n)) 0 tys
  unfolding store_code
  store_tuple_code realloc tys e =
      ap (λ f. f offset) (made_by_kind (store_leaf realloc) (store_kind types) types id entry (kind.Tuple tys) down at e)
      ∙ ap (λ code. behind_address (emit (TupleLower (length tys))) >>> code) (each_at 1 (store_code types realloc) tys)

  stored_by_cases : (k : TypeDefKind) (parts : List (ArchitectureSize → Flow)) → has_cases k ≡ true → store_kind types id.0 k parts offset ≡ store_cases types id.0 k (by_case (payloads_of k) parts) offset
  stored_by_cases (kind.Variant members) parts h = refl
  stored_by_cases (kind.Option ty) parts h = refl
  stored_by_cases (kind.Result ok err) parts h = refl
  stored_by_cases _ parts h = absurd (let e = h in cc)

  -- a variant, an option or a result
  pub store_variant_code : (realloc : Bool) (k : TypeDefKind) → entry.kind ≡ k → has_cases k ≡ true
      → store_code types realloc (wit.Id id) offset ≡ both (blocks_of_cases 1 (store_case (length (payloads_of k)) offset cases_place) (store_code types realloc) (payloads_of k)) (behind 1) >>> emit (case_lowering k id 0)
  unfolding store_code
  store_variant_code realloc k e has =
      let code : Made = store_code types realloc in
      let run : Flow → Flow = λ blocks. both blocks (behind 1) >>> emit (case_lowering k id 0) in
      ap (λ f. f offset) (made_by_kind (store_leaf realloc) (store_kind types) types id entry k down at e) ∙ stored_by_cases k (map code (members_of k)) has
      ∙ ap (λ tys. store_cases types id.0 k (by_case (payloads_of k) (map code tys)) offset) (named_payloads k has)
      ∙ ap (λ n. run (in_blocks 1 (store_case n offset cases_place) (by_case (payloads_of k) (map code (payloads_there (payloads_of k)))))) (case_count code (payloads_of k))
      ∙ ap run (blocks_each 1 (store_case (length (payloads_of k)) offset cases_place) code (payloads_of k))

  loaded_by_cases : (k : TypeDefKind) (parts : List (ArchitectureSize → Flow)) → has_cases k ≡ true → load_kind types id.0 k parts offset ≡ by_tag types id.0 (by_case (payloads_of k) parts) offset (case_lifting k id)
  loaded_by_cases (kind.Variant members) parts h = refl
  loaded_by_cases (kind.Option ty) parts h = refl
  loaded_by_cases (kind.Result ok err) parts h = refl
  loaded_by_cases _ parts h = absurd (let e = h in cc)

  pub load_variant_code : (k : TypeDefKind) → entry.kind ≡ k → has_cases k ≡ true
      → load_code types (wit.Id id) offset ≡ both (emit (tag_load (length (payloads_of k)) offset)) (blocks_of_cases 1 (λ n part. at_payload cases_place part) (load_code types) (payloads_of k)) >>> emit (case_lifting k id)
  unfolding load_code
  load_variant_code k e has =
      let code : Made = load_code types in
      ap (λ f. f offset) (made_by_kind load_leaf (load_kind types) types id entry k down at e) ∙ loaded_by_cases k (map code (members_of k)) has
      ∙ ap (λ tys. by_tag types id.0 (by_case (payloads_of k) (map code tys)) offset (case_lifting k id)) (named_payloads k has)
      ∙ tagged types id.0 code (payloads_of k) offset (λ n. case_lifting k id)

  pub load_alias_code : (ty : WitType) → entry.kind ≡ kind.Alias ty → load_code types (wit.Id id) offset ≡ load_code types ty offset
  unfolding load_code
  load_alias_code ty e = ap (λ f. f offset) (made_by_kind load_leaf (load_kind types) types id entry (kind.Alias ty) down at e)

  pub load_record_code : (members : List Field) → entry.kind ≡ kind.Record members
      → load_code types (wit.Id id) offset ≡ each 1 (λ ty. 0) (λ n ty. load_code types ty (part_at n)) 0 (map (λ f. f.ty) members) >>> emit (RecordLift id)
  unfolding load_code
  load_record_code members e =
      ap (λ f. f offset) (made_by_kind load_leaf (load_kind types) types id entry (kind.Record members) down at e)
      ∙ ap (λ code. code >>> emit (RecordLift id)) (each_at 0 (load_code types) (map (λ (f : Field). f.ty) members))

  pub load_tuple_code : (tys : List WitType) → entry.kind ≡ kind.Tuple tys
      → load_code types (wit.Id id) offset ≡ each 1 (λ ty. 0) (λ n ty. load_code types ty (part_at n)) 0 tys >>> emit (TupleLift (length tys))
  unfolding load_code
  load_tuple_code tys e =
      ap (λ f. f offset) (made_by_kind load_leaf (load_kind types) types id entry (kind.Tuple tys) down at e)
      ∙ ap (λ code. code >>> emit (TupleLift (length tys))) (each_at 0 (load_code types) tys)

  pub store_enum_code : (realloc : Bool) (members : List Member) → entry.kind ≡ kind.Enum members → store_code types realloc (wit.Id id) offset ≡ store_by (behind 1 >>> emit (EnumLower id)) (tag_store (length members) offset)
  unfolding store_code
  store_enum_code realloc members e = ap (λ f. f offset) (made_by_kind (store_leaf realloc) (store_kind types) types id entry (kind.Enum members) down at e)

  pub load_enum_code : (members : List Member) → entry.kind ≡ kind.Enum members → load_code types (wit.Id id) offset ≡ emit (tag_load (length members) offset) >>> emit (EnumLift id)
  unfolding load_code
  load_enum_code members e = ap (λ f. f offset) (made_by_kind load_leaf (load_kind types) types id entry (kind.Enum members) down at e)

  pub store_flags_code : (realloc : Bool) (members : List Member) → entry.kind ≡ kind.Flags members
      → store_code types realloc (wit.Id id) offset ≡ behind_address (emit (FlagsLower id)) >>> store_words (length members) offset
  unfolding store_code
  store_flags_code realloc members e = ap (λ f. f offset) (made_by_kind (store_leaf realloc) (store_kind types) types id entry (kind.Flags members) down at e)

  pub load_flags_code : (members : List Member) → entry.kind ≡ kind.Flags members
      → load_code types (wit.Id id) offset ≡ load_words (length members) offset >>> emit (FlagsLift id)
  unfolding load_code
  load_flags_code members e = ap (λ f. f offset) (made_by_kind load_leaf (load_kind types) types id entry (kind.Flags members) down at e)

  freed_by_cases : (k : TypeDefKind) (parts : List (ArchitectureSize → Flow)) → has_cases k ≡ true → free_kind types id.0 k parts offset ≡ free_cases types id.0 (by_case (payloads_of k) parts) offset
  freed_by_cases (kind.Variant members) parts h = refl
  freed_by_cases (kind.Option ty) parts h = refl
  freed_by_cases (kind.Result ok err) parts h = refl
  freed_by_cases _ parts h = absurd (let e = h in cc)

  freed_parts : (k : TypeDefKind) → entry.kind ≡ k → has_cases k ≡ true → free_code types (wit.Id id) offset ≡ free_cases types id.0 (by_case (payloads_of k) (map (free_code types) (payloads_there (payloads_of k)))) offset
  unfolding free_code
  freed_parts k e has =
      ap (λ f. f offset) (made_by_kind free_leaf (free_kind types) types id entry k down at e) ∙ freed_by_cases k (map (free_code types) (members_of k)) has
      ∙ ap (λ tys. free_cases types id.0 (by_case (payloads_of k) (map (free_code types) tys)) offset) (named_payloads k has)

  -- a variant, an option or a result without blocks, and one with some
  pub free_none_code : (k : TypeDefKind) → entry.kind ≡ k → has_cases k ≡ true → has_list (shape_at types id.0) ≡ false → free_code types (wit.Id id) offset ≡ leave_none
  free_none_code k e has none = freed_parts k e has ∙ cond-false (has_list (shape_at types id.0)) _ _ none

  pub free_variant_code : (k : TypeDefKind) → entry.kind ≡ k → has_cases k ≡ true → has_list (shape_at types id.0) ≡ true
      → free_code types (wit.Id id) offset ≡ both (emit (tag_load (length (payloads_of k)) offset)) (blocks_of_cases 1 (λ n part. at_payload cases_place part) (free_code types) (payloads_of k)) >>> emit (GuestDeallocateVariant (length (payloads_of k)))
  free_variant_code k e has some =
      freed_parts k e has ∙ cond-true (has_list (shape_at types id.0)) _ _ some ∙ tagged types id.0 (free_code types) (payloads_of k) offset (λ n. GuestDeallocateVariant n)

  pub free_alias_code : (ty : WitType) → entry.kind ≡ kind.Alias ty → free_code types (wit.Id id) offset ≡ free_code types ty offset
  unfolding free_code
  free_alias_code ty e = ap (λ f. f offset) (made_by_kind free_leaf (free_kind types) types id entry (kind.Alias ty) down at e)

  pub free_enum_code : (members : List Member) → entry.kind ≡ kind.Enum members → free_code types (wit.Id id) offset ≡ leave_none
  unfolding free_code
  free_enum_code members e = ap (λ f. f offset) (made_by_kind free_leaf (free_kind types) types id entry (kind.Enum members) down at e)

  pub free_flags_code : (members : List Member) → entry.kind ≡ kind.Flags members → free_code types (wit.Id id) offset ≡ leave_none
  unfolding free_code
  free_flags_code members e = ap (λ f. f offset) (made_by_kind free_leaf (free_kind types) types id entry (kind.Flags members) down at e)

  pub free_record_code : (members : List Field) → entry.kind ≡ kind.Record members → free_code types (wit.Id id) offset ≡ each 1 (λ ty. 0) (λ n ty. free_code types ty (part_at n)) 0 (map (λ f. f.ty) members)
  unfolding free_code
  free_record_code members e =
      ap (λ f. f offset) (made_by_kind free_leaf (free_kind types) types id entry (kind.Record members) down at e)
      ∙ each_at 0 (free_code types) (map (λ (f : Field). f.ty) members)

  pub free_tuple_code : (tys : List WitType) → entry.kind ≡ kind.Tuple tys → free_code types (wit.Id id) offset ≡ each 1 (λ ty. 0) (λ n ty. free_code types ty (part_at n)) 0 tys
  unfolding free_code
  free_tuple_code tys e =
      ap (λ f. f offset) (made_by_kind free_leaf (free_kind types) types id entry (kind.Tuple tys) down at e) ∙ each_at 0 (free_code types) tys
