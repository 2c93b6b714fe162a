-- The code of types with cases, step by step, as the order of wit-bindgen-core has it.
use Rattle.std.proofs.Common.{◌≡◌, ℕ, pos, false, true, List, [], ◌∷◌, None, Some, refl}
use Rattle.wit_model.specs.declared.name.Docs.{Docs}
use Rattle.wit_model.specs.declared.name.Name.{Name}
use Rattle.wit_model.specs.declared.types.TypeDef.{TypeDef}
use Rattle.wit_model.specs.declared.types.TypeDefKind.{TypeDefKind}
use Rattle.wit_model.specs.declared.types.TypeDefKind.TheVariants as kind
use Rattle.wit_model.specs.declared.types.TypeOwner.TheVariants as owner
use Rattle.wit_model.specs.declared.types.WitType.{WitType}
use Rattle.wit_model.specs.declared.types.WitType.TheVariants as wit
use Rattle.wit_model.specs.declared.wasm_type.WasmType.TheVariants.{F32, I32, Length, Pointer}
use Rattle.wit_layout.specs.declared.bitcast.Bitcast.TheVariants as bitcast
use Rattle.wrapper_meaning.specs.Shape.{shapes}
use Rattle.abi_bindgen.specs.declared.instruction.Instruction.TheVariants as i
use Rattle.abi_bindgen.specs.Code.{free_words_code, lift_code, lower_code, made}
use Rattle.abi_bindgen.specs.Sent.{closes, opens, sends, sends_casts, sends_zeros}
use Rattle.abi_driver.proofs.Instances.Steps.{steps}

no_docs : Docs
no_docs = record { contents = None }

no_name : Name
no_name = record { wit = []; snake = []; camel = []; upper = [] }

of_kind : TypeDefKind → TypeDef
of_kind k = record { name = None; owner = owner.None; kind = k; docs = no_docs }

id : ℕ → WitType
id n = wit.Id (record { 0 = n })

-- `result<f32, string>`, `option` of it, a variant of a case without payload and one with a byte, `option<string>` and `result<string, string>`
types : List TypeDef
types =
    of_kind (kind.Result (Some wit.F32) (Some wit.String)) ∷ of_kind (kind.Option (id 0))
    ∷ of_kind (kind.Variant (record { name = no_name; ty = None; docs = no_docs } ∷ record { name = no_name; ty = Some wit.U8; docs = no_docs } ∷ []))
    ∷ of_kind (kind.Option wit.String) ∷ of_kind (kind.Result (Some wit.String) (Some wit.String)) ∷ []

-- a float goes to the slot of a pointer, and the slot of a length is left over
result_lowered : steps (lower_code types false (id 0))
    ≡ opens ∷ sends i.VariantPayloadName ∷ sends (i.I32Const (pos 0)) ∷ sends i.CoreF32FromF32 ∷ sends_casts (bitcast.Sequence F32 I32 Pointer ∷ []) ∷ sends_zeros (Length ∷ []) ∷ closes
    ∷ opens ∷ sends i.VariantPayloadName ∷ sends (i.I32Const (pos 1)) ∷ sends (i.StringLower false) ∷ closes ∷ sends (i.ResultLower (record { 0 = 0 }) 3) ∷ []
unfolding lower_code made shapes types of_kind id
result_lowered = refl

result_lifted : steps (lift_code types (id 0))
    ≡ opens ∷ sends_casts (bitcast.Sequence Pointer I32 F32 ∷ []) ∷ sends i.F32FromCoreF32 ∷ closes ∷ opens ∷ sends i.StringLift ∷ closes ∷ sends (i.ResultLift (record { 0 = 0 })) ∷ []
unfolding lift_code made shapes types of_kind id
result_lifted = refl

-- a block within a block
option_lifted : steps (lift_code types (id 1))
    ≡ opens ∷ closes
    ∷ opens ∷ opens ∷ sends_casts (bitcast.Sequence Pointer I32 F32 ∷ []) ∷ sends i.F32FromCoreF32 ∷ closes ∷ opens ∷ sends i.StringLift ∷ closes ∷ sends (i.ResultLift (record { 0 = 0 })) ∷ closes
    ∷ sends (i.OptionLift (record { 0 = 1 })) ∷ []
unfolding lift_code made shapes types of_kind id
option_lifted = refl

variant_lowered : steps (lower_code types true (id 2))
    ≡ opens ∷ sends (i.I32Const (pos 0)) ∷ sends_zeros (I32 ∷ []) ∷ closes ∷ opens ∷ sends i.VariantPayloadName ∷ sends (i.I32Const (pos 1)) ∷ sends i.I32FromU8 ∷ closes
    ∷ sends (i.VariantLower (record { 0 = 2 }) 2) ∷ []
unfolding lower_code made shapes types of_kind id
variant_lowered = refl

-- freed by words: each case has a block
option_freed : steps (free_words_code types (id 3)) ≡ opens ∷ closes ∷ opens ∷ sends i.GuestDeallocateString ∷ closes ∷ sends (i.GuestDeallocateVariant 2) ∷ []
unfolding free_words_code made shapes types of_kind id
option_freed = refl

texts_freed : steps (free_words_code types (id 4))
    ≡ opens ∷ sends i.GuestDeallocateString ∷ closes ∷ opens ∷ sends i.GuestDeallocateString ∷ closes ∷ sends (i.GuestDeallocateVariant 2) ∷ []
unfolding free_words_code made shapes types of_kind id
texts_freed = refl

-- a block within a block, and a float that is cast back, though it has no block of memory
nested_freed : steps (free_words_code types (id 1))
    ≡ opens ∷ closes
    ∷ opens ∷ opens ∷ sends_casts (bitcast.Sequence Pointer I32 F32 ∷ []) ∷ closes ∷ opens ∷ sends i.GuestDeallocateString ∷ closes ∷ sends (i.GuestDeallocateVariant 2) ∷ closes
    ∷ sends (i.GuestDeallocateVariant 2) ∷ []
unfolding free_words_code made shapes types of_kind id
nested_freed = refl

-- where no case has a block of memory, nothing is sent
bytes_freed : steps (free_words_code types (id 2)) ≡ []
unfolding free_words_code made shapes types of_kind id
bytes_freed = refl

-- the first case's block for each case is refused
first_twice : steps (free_words_code types (id 3)) ≡ opens ∷ closes ∷ opens ∷ closes ∷ sends (i.GuestDeallocateVariant 2) ∷ [] → ⊥
unfolding free_words_code made shapes types of_kind id
first_twice h = let e = h in cc
