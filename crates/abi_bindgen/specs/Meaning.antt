-- What a `Bindgen` means.
use Rattle.std.specs.Prelude.{ℕ, Bool, List, Option}
use Rattle.wit_model.specs.declared.function.Function.{Function}
use Rattle.wit_model.specs.declared.types.TypeDef.{TypeDef}
use Rattle.wrapper_data.specs.declared.block.Block.{Block as HeapBlock}
use Rattle.wrapper_data.specs.declared.choice.Request.{Request}
use Rattle.wrapper_data.specs.declared.run.Target.{Target}
use Rattle.wrapper_data.specs.declared.word.Word.{Word}
use Rattle.wrapper_meaning.specs.Direction.{Direction}
use Rattle.wrapper_meaning.specs.Shape.{Shape}
use Rattle.wrapper_meaning.specs.Value.{Value}
use Rattle.abi_bindgen.specs.declared.bindgen.Asked.{Asked}
use Rattle.abi_bindgen.specs.Account.{Account, Crossing, Outcome, Peer}
use Rattle.abi_bindgen.specs.Sent.{Sent}

-- a core word, or a value of the code's own side
pub data Datum (V : Type 0) : Type 0 where
  word : Word → Datum V
  item : V → Datum V

-- what a block has a name for, while it is open
pub data Name : Type 0 where
  the_payload : Name
  the_element : Name
  the_key : Name
  the_value : Name
  the_base : Name

-- an operand denotes a datum; an argument of the code is one; a name of an open block, which the slot tells, is bound to one
pub data Fact (O S V : Type 0) : Type 0 where
  of : O → Datum V → Fact O S V
  arg : ℕ → Datum V → Fact O S V
  bound : S → Name → Datum V → Fact O S V

-- what a block is run with: nothing; a payload; the address of a place; an element, or a key and a value, and the address of a place
pub data Bound (V : Type 0) : Type 0 where
  with_nothing : Bound V
  with_payload : V → Bound V
  at_place : ℕ → Bound V
  with_element : V → ℕ → Bound V
  with_entry : V → V → ℕ → Bound V

-- what a run of a block gives, and the state that it leaves
pub record Ended (V S : Type 0) : Type 0 where
  pub results : List (Datum V)
  pub state : S

pub record Meaning (Self Operand : Type 0) : Type 1 where
  -- what is known only when the code stands in a finished whole
  pub World : Type 0
  pub State : Type 0
  pub Code : Type 0
  -- a finished block, and what tells an open one from others
  pub Block : Type 0
  pub Slot : Type 0
  -- a value of the code's own side
  pub Item : Type 0
  -- a pointer has 2 ^ width bytes
  pub width : ℕ
  -- the whole has what the code needs
  pub serves : World → Self → Type 0
  -- the return area of the whole, as it was asked for, and where it stands already when code begins
  pub area : World → Option Request
  pub area_at : State → Option ℕ
  -- in a direction an item stands for a value, which has these blocks
  pub stands : Direction → (t : Shape) → Value t → Item → List HeapBlock → Type 0
  pub account : State → Account Item
  -- the addresses of the blocks that locals of the innermost block own, but those that are kept until the code ends
  pub owns : State → List ℕ
  -- those that an item owns
  pub owned : Item → List ℕ
  pub nothing : Code
  pub does : World → Peer Item → Code → State → Outcome Item State
  -- what a block does; its code begins where the state was entered
  pub runs : World → Peer Item → Block → Bound Item → State → Outcome Item (Ended Item State)
  pub enter : Slot → Bound Item → State → State
  -- how many results it has
  pub results_of : Block → ℕ
  -- the facts hold together
  pub denotes : World → Self → List (Fact Operand Slot Item) → State → Type 0
  -- the code of the innermost open block
  pub code : Self → Code
  -- the open blocks, the innermost first, each with the code that it suspends
  pub opened : Self → List (Slot × Code)
  -- the finished blocks, the last one first
  pub blocks : Self → List Block
  -- whether it makes code of imports, and of exports
  pub imports : Self → Bool
  pub exports : Self → Bool
  -- it has the layouts of the types of this table
  pub knows : Self → List TypeDef → Type 0
  -- it has how the type at a place of this table is written
  pub writes : Self → List TypeDef → ℕ → Type 0
  -- whether it tests that the bytes of a text which it takes over are UTF-8
  pub tests : Self → Bool
  -- how many arguments the code has; none where there is no bound
  pub arguments : Self → Option ℕ
  -- no method was called in the code so far
  pub uncalled : Self → Type 0
  -- what a call of a function goes to
  pub target : Self → Function → Target
  -- how values cross the call of a function of the code's own side
  pub crosses : World → Self → Function → Crossing Item
  -- the records for which the code asked for the area
  pub asked : Self → List Asked
  -- what the code gives, once it was told
  pub returned : Self → Option (List Operand)
  -- which code a step became in a table, with these operands and results: what is promised of its form, beside what it does
  pub forms : List TypeDef → Sent → (operands results : List Operand) → (old new : Self) → Type 0
