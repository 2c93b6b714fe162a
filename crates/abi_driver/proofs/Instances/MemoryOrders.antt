-- The code of an option of a text and of a result with one payload in memory, instruction by instruction, as the order of wit-bindgen-core
-- has it.
use Rattle.std.proofs.Common.{◌≡◌, ℕ, pos, true, List, [], ◌∷◌, ◌++◌, None, Some, refl}
use Rattle.wit_model.specs.declared.name.TypeId.{TypeId}
use Rattle.wit_model.specs.declared.size.ArchitectureSize.{ArchitectureSize}
use Rattle.wit_model.specs.declared.types.TypeDef.{TypeDef}
use Rattle.wit_model.specs.declared.types.TypeDefKind.{TypeDefKind}
use Rattle.wit_model.specs.declared.types.TypeDefKind.TheVariants as kind
use Rattle.wit_model.specs.declared.types.TypeOwner.TheVariants as owner
use Rattle.wit_model.specs.declared.types.WitType.TheVariants as wit
use Rattle.wit_layout.specs.Tree.{trees}
use Rattle.wrapper_meaning.specs.Shape.{shapes}
use Rattle.abi_bindgen.specs.declared.instruction.Instruction.TheVariants as i
use Rattle.abi_bindgen.specs.Code.{free_code, load_code, made, store_code}
use Rattle.abi_bindgen.specs.Sent.{Sent, closes, opens, sends}
use Rattle.abi_driver.proofs.Instances.Steps.{steps}

of_kind : TypeDefKind → TypeDef
of_kind k = record { name = None; owner = owner.None; kind = k; docs = record { contents = None } }

types : List TypeDef
types = of_kind (kind.Option wit.String) ∷ of_kind (kind.Result (Some wit.U64) None) ∷ []

id : ℕ → TypeId
id n = record { 0 = n }

-- so many bytes and pointers
place : (bytes pointers : ℕ) → ArchitectureSize
place bytes pointers = record { bytes = bytes; pointers = pointers }

-- 1. An option of a text

bare_stored : List Sent
bare_stored = opens ∷ sends (i.I32Const (pos 0)) ∷ sends (i.I32Store8 (place 8 0)) ∷ closes ∷ []

text_stored : List Sent
text_stored =
    opens ∷ sends i.VariantPayloadName ∷ sends (i.I32Const (pos 1)) ∷ sends (i.I32Store8 (place 8 0)) ∷ sends (i.StringLower true) ∷ sends (i.LengthStore (place 8 2)) ∷ sends (i.PointerStore (place 8 1)) ∷ closes ∷ []

stored : steps (store_code types true (wit.Id (id 0)) (place 8 0)) ≡ bare_stored ++ text_stored ++ sends (i.OptionLower (id 0) 0) ∷ []
unfolding store_code made trees types of_kind id place bare_stored text_stored
stored = refl

loaded : steps (load_code types (wit.Id (id 0)) (place 8 0))
    ≡ sends (i.I32Load8U (place 8 0)) ∷ opens ∷ closes ∷ opens ∷ sends (i.PointerLoad (place 8 1)) ∷ sends (i.LengthLoad (place 8 2)) ∷ sends i.StringLift ∷ closes ∷ sends (i.OptionLift (id 0)) ∷ []
unfolding load_code made trees types of_kind id place
loaded = refl

freed : steps (free_code types (wit.Id (id 0)) (place 8 0))
    ≡ sends (i.I32Load8U (place 8 0)) ∷ opens ∷ closes ∷ opens ∷ sends (i.PointerLoad (place 8 1)) ∷ sends (i.LengthLoad (place 8 2)) ∷ sends i.GuestDeallocateString ∷ closes ∷ sends (i.GuestDeallocateVariant 2) ∷ []
unfolding free_code made trees shapes types of_kind id place
freed = refl

-- 2. A result with a number of eight bytes, or nothing: its place is behind eight bytes, and it is freed by no code

number_stored : steps (store_code types true (wit.Id (id 1)) (place 0 0))
    ≡ opens ∷ sends i.VariantPayloadName ∷ sends (i.I32Const (pos 0)) ∷ sends (i.I32Store8 (place 0 0)) ∷ sends i.I64FromU64 ∷ sends (i.I64Store (place 8 0)) ∷ closes ∷ opens ∷ sends (i.I32Const (pos 1)) ∷ sends (i.I32Store8 (place 0 0)) ∷ closes ∷ sends (i.ResultLower (id 1) 0) ∷ []
unfolding store_code made trees types of_kind id place
number_stored = refl

number_freed : steps (free_code types (wit.Id (id 1)) (place 0 0)) ≡ []
unfolding free_code made trees shapes types of_kind id place
number_freed = refl
