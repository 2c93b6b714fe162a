-- How operands go from step to step: what each step reads of those that the steps before it left.
use Rattle.std.specs.Prelude.{ℕ, suc, ◌+◌, List, [], ◌∷◌, Option, None, Some}
use Rattle.wit_model.specs.declared.wasm_type.WasmType.{WasmType}
use Rattle.wit_layout.specs.declared.bitcast.Bitcast.{Bitcast}
use Rattle.abi_bindgen.specs.declared.bindgen.Asked.{Asked}
use Rattle.abi_bindgen.specs.declared.instruction.Instruction.{Instruction}

infixl 10 ◌>>>◌
-- code that reads some operands and leaves others
pub data Flow : Type 0 where
  -- an instruction reads all operands, and leaves its results
  emit : Instruction → Flow
  -- the same, of an instruction that holds these casts, or the types of these zeros
  cast_by : List Bitcast → Flow
  zeros_of : List WasmType → Flow
  -- the area is asked for: no operand is read, and its address is left
  ask : Asked → Flow
  -- a block is opened and closed around code: what the code leaves are the results of the block, and nothing is left outside
  in_block : Flow → Flow
  -- no step: all operands are left, or none; the first so many, or those behind them
  same : Flow
  leave_none : Flow
  leading : ℕ → Flow
  behind : ℕ → Flow
  -- the second reads what the first leaves
  ◌>>>◌ : Flow → Flow → Flow
  -- both read the same, the first before the second, and what the second leaves stands behind what the first leaves
  both : Flow → Flow → Flow

-- no operand is read
abbrev pub alone : Flow → Flow
alone code = leave_none >>> code

-- an instruction, where there is one
abbrev pub emit_some : Option Instruction → Flow
emit_some None = leave_none
emit_some (Some i) = emit i

-- the code for each of some things, by its number. It reads the first operands, which all share, and behind them the thing's own
module _ {A : Type 0} (shared : ℕ) (own : A → ℕ) (code : ℕ → A → Flow) where
  -- those of the first thing, and those of the others
  abbrev pub here : A → Flow
  here x = leading (shared + own x)

  abbrev pub later : A → Flow
  later x = both (leading shared) (behind (shared + own x))

  abbrev pub each : ℕ → List A → Flow
  each n [] = leave_none
  each n (x ∷ xs) = both (here x >>> code n x) (later x >>> each (suc n) xs)

  -- the last thing first
  abbrev pub each_back : ℕ → List A → Flow
  each_back n [] = leave_none
  each_back n (x ∷ xs) = both (later x >>> each_back (suc n) xs) (here x >>> code n x)
