-- What a run has done outside its locals, how it ends, and the actions on it of which the laws are made.
use Rattle.std.specs.Prelude.{◌≡◌, ℕ, ◌-◌, ◌^◌, Bool, true, false, not, ◌&&◌, ◌||◌, nat_eq, nat_lt, if◌then◌else◌, find, List, [], ◌∷◌, ◌++◌, map, Option, None, Some}
use Rattle.std.specs.List.{list_any}
use Rattle.std.specs.Str.{is_utf8}
use Rattle.wit_model.specs.declared.wasm_type.WasmType.{WasmType}
use Rattle.wit_model.specs.declared.wasm_type.WasmType.TheVariants as wasm
use Rattle.wit_layout.specs.Flat.{core_type}
use Rattle.wit_layout.specs.Tree.{Scalar}
use Rattle.wrapper_data.specs.declared.block.Block.{Block}
use Rattle.wrapper_data.specs.declared.choice.Choice.{Choice}
use Rattle.wrapper_data.specs.declared.choice.Request.{Request}
use Rattle.wrapper_data.specs.declared.form.Form.{Form}
use Rattle.wrapper_data.specs.declared.form.Form.TheVariants as form
use Rattle.wrapper_data.specs.declared.heap.Heap.{Heap}
use Rattle.wrapper_data.specs.declared.run.Stop.{Stop}
use Rattle.wrapper_data.specs.declared.run.Stop.TheVariants as stop
use Rattle.wrapper_data.specs.declared.run.Target.{Target}
use Rattle.wrapper_data.specs.declared.run.TrapKind.{TrapKind}
use Rattle.wrapper_data.specs.declared.run.TrapKind.TheVariants as trap
use Rattle.wrapper_data.specs.declared.word.Word.{Word}
use Rattle.wrapper_data.specs.declared.word.Word.TheVariants as core
use Rattle.wrapper_meaning.specs.Cells.{bytes_from}
use Rattle.wrapper_meaning.specs.Numbers.{is_scalar_value, is_signed, low_bits}

-- 1. The account, where values of the code's own side are of the type V

-- a call, with the heap at it
pub record Call (V : Type 0) : Type 0 where
  pub target : Target
  pub words : List Word
  pub values : List V
  pub heap : Heap

-- what the other side answers a call: core words, bytes that are written and blocks; or a value, and the heap that it leaves
pub data Reply (V : Type 0) : Type 0 where
  words : Option Word → List (ℕ × ℕ) → List Block → Reply V
  value : Option V → Heap → Reply V

-- what is not up to the code: in which form it runs, and what it is answered
pub record Peer (V : Type 0) : Type 0 where
  pub form : Form
  pub reply : Reply V

-- how values cross the call of a method: as which they are passed, and as which its answer comes in; none where a value is none of its types
pub record Crossing (V : Type 0) : Type 0 where
  pub passes : List V → Option (List V)
  pub receives : V → Option V

pub record Account (V : Type 0) : Type 0 where
  pub heap : Heap
  -- what the allocator answers from here on
  pub choices : List Choice
  pub requests : List Request
  -- but those that drop a handle
  pub calls : List (Call V)
  -- the addresses of the blocks that have an owner
  pub taken : List ℕ
  -- those of them that are kept until the code ends, and then freed
  pub guarded : List ℕ

-- how a run of code ends: in a state; at a stop, or where the code has no meaning, with what was done so far
pub data Outcome (V S : Type 0) : Type 0 where
  Done : S → Outcome V S
  Stopped : Stop → Account V → Outcome V S
  Stuck : Account V → Outcome V S

abbrev pub then_do : {V A S : Type 0} → Outcome V A → (A → Outcome V S) → Outcome V S
then_do (Done s) go = go s
then_do (Stopped e acc) go = Stopped e acc
then_do (Stuck acc) go = Stuck acc

-- 2. Actions

pub record Got (V A : Type 0) : Type 0 where
  pub result : A
  pub account : Account V

abbrev pub Act : Type 0 → Type 0 → Type 0
Act V A = Account V → Outcome V (Got V A)

abbrev pub gives : {V A : Type 0} → A → Act V A
gives a acc = Done (record { result = a; account = acc })

abbrev pub stay : {V : Type 0} → Act V (Unit {0})
stay acc = gives tt acc

-- data that no honest side sends: a trap in the debug form
abbrev pub failing : {V A : Type 0} → Form → TrapKind → Act V A
failing form.Debug kind acc = Stopped (stop.Trap kind) acc
failing form.Release kind acc = Stuck acc

abbrev pub addresses : List Block → List ℕ
addresses blocks = map (λ b. b.address) blocks

abbrev pub is_taken : ℕ → List ℕ → Bool
is_taken a taken = list_any (λ t. nat_eq t a) taken

-- without its first
abbrev pub without : ℕ → List ℕ → List ℕ
without a [] = []
without a (t ∷ taken) = if nat_eq t a then taken else t ∷ without a taken

-- the owners of these blocks are no more, and the blocks stay
abbrev pub releasing : {V : Type 0} → List ℕ → Act V (Unit {0})
releasing [] acc = stay acc
releasing (a ∷ places) acc =
    if is_taken a acc.taken then releasing places (record acc { taken = without a acc.taken }) else Stuck acc

abbrev pub has_type : WasmType → Word → Bool
has_type wasm.I32 (core.I32 z) = true
has_type wasm.I64 (core.I64 z) = true
has_type wasm.F32 (core.F32 x) = true
has_type wasm.F64 (core.F64 x) = true
has_type wasm.Pointer (core.Pointer address) = true
has_type wasm.Length (core.Length n) = true
has_type wasm.PointerOrI64 (core.Slot (Some x)) = true
has_type _ _ = false

abbrev pub have_types : List WasmType → List Word → Bool
have_types [] [] = true
have_types (ty ∷ types) (x ∷ xs) = has_type ty x && have_types types xs
have_types _ _ = false

-- of a bool the low eight bits are 0 or 1, and a char is a Unicode scalar value. A word that is a number as it is lies in the number's
-- range; of another the code has no meaning
abbrev pub checking : {V : Type 0} → Scalar → Form → Word → Act V (Unit {0})
checking Scalar.bool f (core.I32 z) acc = if nat_lt (low_bits 8 z) 2 then stay acc else failing f trap.Bool acc
checking Scalar.char f (core.I32 z) acc = if is_scalar_value (low_bits 32 z) then stay acc else failing f trap.Char acc
checking Scalar.s32 f (core.I32 z) acc = if is_signed 31 z then stay acc else Stuck acc
checking Scalar.s64 f (core.I64 z) acc = if is_signed 63 z then stay acc else Stuck acc
checking _ f x acc = stay acc

-- a word is read as a scalar
abbrev pub reading : {V : Type 0} → Scalar → Form → Word → Act V (Unit {0})
reading s f x acc = if has_type (core_type s) x then checking s f x acc else Stuck acc

abbrev pub is_at : ℕ → ℕ → Block → Bool
is_at address size b = nat_eq b.address address && nat_eq b.size size

-- a text that was taken over: its bytes, and the block in which they lie, if there are any
pub record Taken : Type 0 where
  pub bytes : List ℕ
  pub blocks : List Block

-- bytes are owned before they are tested for UTF-8, where they are tested at all
abbrev pub as_text : {V : Type 0} → (tests : Bool) → Form → Block → List ℕ → Act V Taken
as_text tests f b bytes acc = if not tests || is_utf8 bytes then gives (record { bytes = bytes; blocks = b ∷ [] }) acc else failing f trap.Utf8 acc

abbrev pub tested : {V : Type 0} → (tests : Bool) → Form → Block → Option (List ℕ) → Act V Taken
tested tests f b None acc = failing f trap.Pointer acc
tested tests f b (Some bytes) acc = as_text tests f b bytes (record acc { taken = acc.taken ++ b.address ∷ [] })

abbrev pub found : {V : Type 0} → (tests : Bool) → Form → ℕ → Option Block → Act V Taken
found tests f n None acc = failing f trap.Block acc
found tests f n (Some b) acc = tested tests f b (bytes_from b.cells 0 n) acc

-- so many bytes at an address are taken over as a text
abbrev pub taking : {V : Type 0} → (tests : Bool) → Form → (address n : ℕ) → Act V Taken
taking tests f address n acc =
    if nat_lt (2 ^ 31 - 1) n then failing f trap.Size acc
    else (if nat_eq address 0 then failing f trap.Pointer acc
    else (if nat_eq n 0 then gives (record { bytes = []; blocks = [] }) acc
    else (if is_taken address acc.taken then failing f trap.Block acc
    else found tests f n (find (is_at address n) acc.heap.blocks) acc)))

-- 3. Runs of code

abbrev pub account_in : {V S : Type 0} → (S → Account V) → Outcome V S → Account V
account_in account (Done s) = account s
account_in account (Stopped e acc) = acc
account_in account (Stuck acc) = acc

-- the second does what the first does; where the first is stuck, it has made the same calls at least
abbrev pub Follows : {V A S : Type 0} → (S → Account V) → Outcome V A → Outcome V S → (A → S → Type 0) → Type 0
Follows {V} {A} {S} account (Done x) o P = (t : S) × (o ≡ Done t) × P x t
Follows account (Stopped e acc) o P = o ≡ Stopped e acc
Follows account (Stuck acc) o P = (account_in account o).calls ≡ acc.calls

-- where the first has stopped, the second is the same
abbrev pub Stops : {V S : Type 0} → (S → Account V) → Outcome V S → Outcome V S → Type 0
Stops account (Done s) o = Unit {0}
Stops account (Stopped e acc) o = o ≡ Stopped e acc
Stops account (Stuck acc) o = (account_in account o).calls ≡ acc.calls
