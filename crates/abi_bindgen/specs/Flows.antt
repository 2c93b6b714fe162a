-- In which sense code was sent step by step, each with the operands that the steps before it left for it.
use Rattle.std.specs.Prelude.{◌≡◌, List, [], ◌∷◌, ◌++◌, drop, take}
use Rattle.std.specs.Borrow.{Bor}
use Rattle.wit_model.specs.declared.types.TypeDef.{TypeDef}
use Rattle.wit_model.specs.declared.wasm_type.WasmType.{WasmType}
use Rattle.wit_layout.specs.declared.bitcast.Bitcast.{Bitcast}
use Rattle.abi_bindgen.specs.declared.instruction.Instruction.TheVariants.{Bitcasts, ConstZero}
use Rattle.abi_bindgen.specs.Blocks.{Finishes, Pushes}
use Rattle.abi_bindgen.specs.Flow.{Flow, ask, behind, both, cast_by, emit, in_block, leading, leave_none, same, zeros_of, ◌>>>◌}
use Rattle.abi_bindgen.specs.Instructions.{Emits}
use Rattle.abi_bindgen.specs.Laws.{PointsTo}
use Rattle.abi_bindgen.specs.Meaning.{Meaning}

module _ {Self Operand : Type 0} (m : Meaning Self Operand) (types : List TypeDef) where
  -- each step took the code from where the one before it left it, and became code of its form
  abbrev pub Flows : Flow → (reads gives : List Operand) → (old new : Self) → Type 0
  Flows (emit i) reads gives old new = Emits m types i reads gives old new
  Flows (cast_by casts) reads gives old new = (held : Bor (List Bitcast)) × (held.now ≡ casts) × Emits m types (Bitcasts held) reads gives old new
  Flows (zeros_of zeros) reads gives old new = (held : Bor (List WasmType)) × (held.now ≡ zeros) × Emits m types (ConstZero held) reads gives old new
  Flows (ask a) reads gives old new = (reads ≡ []) × (o : Operand) × (gives ≡ o ∷ []) × PointsTo m a o old new
  Flows (in_block code) reads gives old new =
      (gives ≡ []) × (results : List Operand) × (begun : Self) × (ended : Self) × Pushes m old begun × Flows code reads results begun ended × Finishes m results ended new
  Flows same reads gives old new = (gives ≡ reads) × (new ≡ old)
  Flows leave_none reads gives old new = (gives ≡ []) × (new ≡ old)
  Flows (leading n) reads gives old new = (gives ≡ take n reads) × (new ≡ old)
  Flows (behind n) reads gives old new = (gives ≡ drop n reads) × (new ≡ old)
  Flows (one >>> two) reads gives old new = (between : List Operand) × (next : Self) × Flows one reads between old next × Flows two between gives next new
  Flows (both one two) reads gives old new =
      (left : List Operand) × (right : List Operand) × (next : Self) × Flows one reads left old next × Flows two reads right next new × (gives ≡ left ++ right)
