-- A word that flows is stored at an address.
use Rattle.std.proofs.Common.{ℕ, pos, List, [], ◌∷◌, refl}
use Rattle.wit_model.specs.declared.types.TypeDef.{TypeDef}
use Rattle.abi_bindgen.specs.declared.instruction.Instruction.{Instruction}
use Rattle.abi_bindgen.specs.declared.instruction.Instruction.TheVariants.{I32Const}
use Rattle.abi_bindgen.specs.Code.{behind_address, store_by, store_number}
use Rattle.abi_bindgen.specs.Flow.{Flow, alone, behind, both, emit, leading, ◌>>>◌}
use Rattle.abi_bindgen.specs.Flows.{Flows}
use Rattle.abi_bindgen.specs.Instructions.{Emits}
use Rattle.abi_bindgen.specs.Meaning.{Meaning}
use Rattle.abi_bindgen.proofs.FlowSteps.{flows_alone, flows_both, flows_then}

module _ {Self Operand : Type 0} (m : Meaning Self Operand) (types : List TypeDef) where
  -- the word of a value
  pub flows_stored : (word : Flow) (i : Instruction) (address value x : Operand) (a b c : Self) → Flows m types word (value ∷ []) (x ∷ []) a b → Emits m types i (x ∷ address ∷ []) [] b c
      → Flows m types (store_by (behind 1 >>> word) i) (address ∷ value ∷ []) [] a c
  flows_stored word i address value x a b c h e =
      flows_then m types (both (behind 1 >>> word) (leading 1)) (emit i) (address ∷ value ∷ []) (x ∷ address ∷ []) [] a b c
      (flows_both m types (behind 1 >>> word) (leading 1) (address ∷ value ∷ []) (x ∷ []) (address ∷ []) a b b (flows_then m types (behind 1) word (address ∷ value ∷ []) (value ∷ []) (x ∷ []) a a b (refl, refl) h) (refl, refl)) e

  -- a number
  pub flows_numbered : (n : ℕ) (i : Instruction) (address : Operand) (others : List Operand) (x : Operand) (a b c : Self) → Emits m types (I32Const (pos n)) [] (x ∷ []) a b → Emits m types i (x ∷ address ∷ []) [] b c
      → Flows m types (store_number n i) (address ∷ others) [] a c
  flows_numbered n i address others x a b c number e =
      flows_then m types (both (alone (emit (I32Const (pos n)))) (leading 1)) (emit i) (address ∷ others) (x ∷ address ∷ []) [] a b c
      (flows_both m types (alone (emit (I32Const (pos n)))) (leading 1) (address ∷ others) (x ∷ []) (address ∷ []) a b b (flows_alone m types (emit (I32Const (pos n))) (address ∷ others) (x ∷ []) a b number) (refl, refl)) e

  -- code behind the address, which stays
  pub flows_behind_address : (code : Flow) (address value : Operand) (gives : List Operand) (a b : Self) → Flows m types code (value ∷ []) gives a b → Flows m types (behind_address code) (address ∷ value ∷ []) (address ∷ gives) a b
  flows_behind_address code address value gives a b h =
      flows_both m types (leading 1) (behind 1 >>> code) (address ∷ value ∷ []) (address ∷ []) gives a a b (refl, refl) (flows_then m types (behind 1) code (address ∷ value ∷ []) (value ∷ []) gives a a b (refl, refl) h)
