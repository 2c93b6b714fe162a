-- The instruction that lowers a scalar may be sent with it, and makes one word. The one that stores its word, or a number, may be sent with
-- the word and an address and makes nothing; the one that loads it may be sent with an address, and makes one word.
use Rattle.std.proofs.Common.{◌≡◌, ℕ, zero, suc, [], ◌∷◌, List, Some, refl, sym, subst}
use Rattle.wit_model.specs.declared.resolve.Resolve.{Resolve}
use Rattle.wit_model.specs.declared.size.ArchitectureSize.{ArchitectureSize}
use Rattle.wit_model.specs.declared.types.WitType.{WitType}
use Rattle.wit_model.specs.declared.types.WitType.TheVariants as wit
use Rattle.wrapper_meaning.proofs.Lists.{some_same}
use Rattle.abi_bindgen.specs.declared.instruction.Instruction.{Instruction}
use Rattle.abi_bindgen.specs.declared.instruction.Instruction.TheVariants.{CoreF32FromF32, CoreF64FromF64, I32FromBool, I32FromChar, I32FromS16, I32FromS32, I32FromS8, I32FromU16, I32FromU32, I32FromU8, I64FromS64, I64FromU64}
use Rattle.abi_bindgen.specs.declared.instruction.Instruction.TheVariants.{F32Load, F32Store, F64Load, F64Store, I32Load, I32Load16S, I32Load16U, I32Load8S, I32Load8U, I32Store, I32Store16, I32Store8, I64Load, I64Store}
use Rattle.abi_bindgen.specs.Instructions.{IsSendable, Makes, lowering}
use Rattle.abi_bindgen.specs.Meaning.{Meaning}
use Rattle.abi_bindgen.specs.NumberTouches.{number_load, number_store}
use Rattle.abi_bindgen.specs.ScalarTouches.{scalar_load, scalar_store}

-- it may be sent with these operands, and makes so many
pub record Makeable {Self Operand : Type 0} (m : Meaning Self Operand) (r : Resolve) (i : Instruction) (os : List Operand) (n : ℕ) (b : Self) : Type 0 where
  pub sendable : IsSendable m r i os b
  pub makes : (k : ℕ) → Makes r.types i k → k ≡ n

module _ {Self Operand : Type 0} (m : Meaning Self Operand) (r : Resolve) (i : Instruction) (b : Self) where
  module _ (os : List Operand) (n : ℕ) where
    from : (j : Instruction) → Some j ≡ Some i → IsSendable m r j os b → ((k : ℕ) → Makes r.types j k → k ≡ n) → Makeable m r i os n b
    from j e sendable makes = subst (λ j. Makeable m r j os n b) (some_same j i e) (record { sendable = sendable; makes = makes })

  pub makeable_lower : (p : Operand) (ty : WitType) → lowering ty ≡ Some i → Makeable m r i (p ∷ []) 1 b
  makeable_lower p wit.Bool e = from (p ∷ []) 1 I32FromBool e (record { built = refl; operands = refl; suits = tt }) (λ k h. h)
  makeable_lower p wit.U8 e = from (p ∷ []) 1 I32FromU8 e (record { built = refl; operands = refl; suits = tt }) (λ k h. h)
  makeable_lower p wit.S8 e = from (p ∷ []) 1 I32FromS8 e (record { built = refl; operands = refl; suits = tt }) (λ k h. h)
  makeable_lower p wit.U16 e = from (p ∷ []) 1 I32FromU16 e (record { built = refl; operands = refl; suits = tt }) (λ k h. h)
  makeable_lower p wit.S16 e = from (p ∷ []) 1 I32FromS16 e (record { built = refl; operands = refl; suits = tt }) (λ k h. h)
  makeable_lower p wit.U32 e = from (p ∷ []) 1 I32FromU32 e (record { built = refl; operands = refl; suits = tt }) (λ k h. h)
  makeable_lower p wit.S32 e = from (p ∷ []) 1 I32FromS32 e (record { built = refl; operands = refl; suits = tt }) (λ k h. h)
  makeable_lower p wit.Char e = from (p ∷ []) 1 I32FromChar e (record { built = refl; operands = refl; suits = tt }) (λ k h. h)
  makeable_lower p wit.U64 e = from (p ∷ []) 1 I64FromU64 e (record { built = refl; operands = refl; suits = tt }) (λ k h. h)
  makeable_lower p wit.S64 e = from (p ∷ []) 1 I64FromS64 e (record { built = refl; operands = refl; suits = tt }) (λ k h. h)
  makeable_lower p wit.F32 e = from (p ∷ []) 1 CoreF32FromF32 e (record { built = refl; operands = refl; suits = tt }) (λ k h. h)
  makeable_lower p wit.F64 e = from (p ∷ []) 1 CoreF64FromF64 e (record { built = refl; operands = refl; suits = tt }) (λ k h. h)
  makeable_lower p wit.String e = absurd (let h = e in cc)
  makeable_lower p wit.ErrorContext e = absurd (let h = e in cc)
  makeable_lower p (wit.Id id) e = absurd (let h = e in cc)

module _ {Self Operand : Type 0} (m : Meaning Self Operand) (r : Resolve) (o : ArchitectureSize) (i : Instruction) (b : Self) where
  pub makeable_store : (p q : Operand) (ty : WitType) → scalar_store ty o ≡ Some i → Makeable m r i (p ∷ q ∷ []) 0 b
  makeable_store p q wit.Bool e = from m r i b (p ∷ q ∷ []) 0 (I32Store8 o) e (record { built = refl; operands = refl; suits = tt }) (λ k h. h)
  makeable_store p q wit.U8 e = from m r i b (p ∷ q ∷ []) 0 (I32Store8 o) e (record { built = refl; operands = refl; suits = tt }) (λ k h. h)
  makeable_store p q wit.S8 e = from m r i b (p ∷ q ∷ []) 0 (I32Store8 o) e (record { built = refl; operands = refl; suits = tt }) (λ k h. h)
  makeable_store p q wit.U16 e = from m r i b (p ∷ q ∷ []) 0 (I32Store16 o) e (record { built = refl; operands = refl; suits = tt }) (λ k h. h)
  makeable_store p q wit.S16 e = from m r i b (p ∷ q ∷ []) 0 (I32Store16 o) e (record { built = refl; operands = refl; suits = tt }) (λ k h. h)
  makeable_store p q wit.U32 e = from m r i b (p ∷ q ∷ []) 0 (I32Store o) e (record { built = refl; operands = refl; suits = tt }) (λ k h. h)
  makeable_store p q wit.S32 e = from m r i b (p ∷ q ∷ []) 0 (I32Store o) e (record { built = refl; operands = refl; suits = tt }) (λ k h. h)
  makeable_store p q wit.Char e = from m r i b (p ∷ q ∷ []) 0 (I32Store o) e (record { built = refl; operands = refl; suits = tt }) (λ k h. h)
  makeable_store p q wit.U64 e = from m r i b (p ∷ q ∷ []) 0 (I64Store o) e (record { built = refl; operands = refl; suits = tt }) (λ k h. h)
  makeable_store p q wit.S64 e = from m r i b (p ∷ q ∷ []) 0 (I64Store o) e (record { built = refl; operands = refl; suits = tt }) (λ k h. h)
  makeable_store p q wit.F32 e = from m r i b (p ∷ q ∷ []) 0 (F32Store o) e (record { built = refl; operands = refl; suits = tt }) (λ k h. h)
  makeable_store p q wit.F64 e = from m r i b (p ∷ q ∷ []) 0 (F64Store o) e (record { built = refl; operands = refl; suits = tt }) (λ k h. h)
  makeable_store p q wit.String e = absurd (let h = e in cc)
  makeable_store p q wit.ErrorContext e = absurd (let h = e in cc)
  makeable_store p q (wit.Id id) e = absurd (let h = e in cc)

  pub makeable_load : (p : Operand) (ty : WitType) → scalar_load ty o ≡ Some i → Makeable m r i (p ∷ []) 1 b
  makeable_load p wit.Bool e = from m r i b (p ∷ []) 1 (I32Load8U o) e (record { built = refl; operands = refl; suits = tt }) (λ k h. h)
  makeable_load p wit.U8 e = from m r i b (p ∷ []) 1 (I32Load8U o) e (record { built = refl; operands = refl; suits = tt }) (λ k h. h)
  makeable_load p wit.S8 e = from m r i b (p ∷ []) 1 (I32Load8S o) e (record { built = refl; operands = refl; suits = tt }) (λ k h. h)
  makeable_load p wit.U16 e = from m r i b (p ∷ []) 1 (I32Load16U o) e (record { built = refl; operands = refl; suits = tt }) (λ k h. h)
  makeable_load p wit.S16 e = from m r i b (p ∷ []) 1 (I32Load16S o) e (record { built = refl; operands = refl; suits = tt }) (λ k h. h)
  makeable_load p wit.U32 e = from m r i b (p ∷ []) 1 (I32Load o) e (record { built = refl; operands = refl; suits = tt }) (λ k h. h)
  makeable_load p wit.S32 e = from m r i b (p ∷ []) 1 (I32Load o) e (record { built = refl; operands = refl; suits = tt }) (λ k h. h)
  makeable_load p wit.Char e = from m r i b (p ∷ []) 1 (I32Load o) e (record { built = refl; operands = refl; suits = tt }) (λ k h. h)
  makeable_load p wit.U64 e = from m r i b (p ∷ []) 1 (I64Load o) e (record { built = refl; operands = refl; suits = tt }) (λ k h. h)
  makeable_load p wit.S64 e = from m r i b (p ∷ []) 1 (I64Load o) e (record { built = refl; operands = refl; suits = tt }) (λ k h. h)
  makeable_load p wit.F32 e = from m r i b (p ∷ []) 1 (F32Load o) e (record { built = refl; operands = refl; suits = tt }) (λ k h. h)
  makeable_load p wit.F64 e = from m r i b (p ∷ []) 1 (F64Load o) e (record { built = refl; operands = refl; suits = tt }) (λ k h. h)
  makeable_load p wit.String e = absurd (let h = e in cc)
  makeable_load p wit.ErrorContext e = absurd (let h = e in cc)
  makeable_load p (wit.Id id) e = absurd (let h = e in cc)

  numbered_store : (p q : Operand) (grain : ℕ) → Makeable m r (number_store grain o) (p ∷ q ∷ []) 0 b
  numbered_store p q zero = record { sendable = record { built = refl; operands = refl; suits = tt }; makes = λ k h. h }
  numbered_store p q (suc zero) = record { sendable = record { built = refl; operands = refl; suits = tt }; makes = λ k h. h }
  numbered_store p q (suc (suc grain)) = record { sendable = record { built = refl; operands = refl; suits = tt }; makes = λ k h. h }

  numbered_load : (p : Operand) (grain : ℕ) → Makeable m r (number_load grain o) (p ∷ []) 1 b
  numbered_load p zero = record { sendable = record { built = refl; operands = refl; suits = tt }; makes = λ k h. h }
  numbered_load p (suc zero) = record { sendable = record { built = refl; operands = refl; suits = tt }; makes = λ k h. h }
  numbered_load p (suc (suc grain)) = record { sendable = record { built = refl; operands = refl; suits = tt }; makes = λ k h. h }

  pub makeable_number_store : (p q : Operand) (grain : ℕ) → i ≡ number_store grain o → Makeable m r i (p ∷ q ∷ []) 0 b
  makeable_number_store p q grain e = subst (λ j. Makeable m r j (p ∷ q ∷ []) 0 b) (sym e) (numbered_store p q grain)

  pub makeable_number_load : (p : Operand) (grain : ℕ) → i ≡ number_load grain o → Makeable m r i (p ∷ []) 1 b
  makeable_number_load p grain e = subst (λ j. Makeable m r j (p ∷ []) 1 b) (sym e) (numbered_load p grain)
