-- What the calls of a core import and of a method do, and how code ends.
use Rattle.std.specs.Prelude.{◌≡◌, ℕ, Bool, true, false, not, ◌&&◌, nat_eq, nat_lt, if◌then◌else◌, find, List, [], ◌∷◌, ◌++◌, length, Option, None, Some, is_some, option_map, option_to_list}
use Rattle.std.specs.List.{flat_map}
use Rattle.wit_model.specs.declared.function.Function.{Function}
use Rattle.wit_model.specs.declared.types.TypeDef.{TypeDef}
use Rattle.wit_model.specs.declared.wasm_type.WasmType.{WasmType}
use Rattle.wit_layout.specs.declared.signature.AbiVariant.TheVariants.{GuestImport}
use Rattle.wit_layout.specs.Signature.{core_params, core_results, param_words, result_words}
use Rattle.wrapper_data.specs.Answered.{answered}
use Rattle.wrapper_data.specs.declared.block.Block.{Block}
use Rattle.wrapper_data.specs.declared.heap.Heap.{Heap}
use Rattle.wrapper_data.specs.declared.run.Target.{Target}
use Rattle.wrapper_data.specs.declared.word.Word.{Word}
use Rattle.wrapper_meaning.specs.Direction.{take}
use Rattle.wrapper_meaning.specs.InRange.{AreListed}
use Rattle.wrapper_meaning.specs.Items.{SameItems}
use Rattle.wrapper_meaning.specs.Settled.{all_settled}
use Rattle.wrapper_meaning.specs.Shape.{Shapes}
use Rattle.wrapper_meaning.specs.Value.{Parts}
use Rattle.abi_bindgen.specs.declared.instruction.Instruction.{Instruction}
use Rattle.abi_bindgen.specs.declared.instruction.Instruction.TheVariants.{CallInterface, CallWasm, Return}
use Rattle.abi_bindgen.specs.Account.{Account, Act, Call, Crossing, Follows, Peer, Reply, Stuck, gives, have_types, is_taken, value, words}
use Rattle.abi_bindgen.specs.Laws.{At, Data, Does, Facts, Stays, core_data, item_data, ofs}
use Rattle.abi_bindgen.specs.Meaning.{Meaning}
use Rattle.abi_bindgen.specs.Parts.{PartsStand}

-- a call is recorded before it is answered, so that it is known whatever is answered
abbrev pub recorded : {V : Type 0} → Call V → Account V → Account V
recorded c acc = record acc { calls = acc.calls ++ c ∷ [] }

-- the peer's blocks are added and its bytes written, and its words are of these types
abbrev pub answered_by : {V : Type 0} → List WasmType → Reply V → Act V (List Word)
answered_by types (words w writes blocks) acc =
    if have_types types (option_to_list w) then gives (option_to_list w) (record acc { heap = answered blocks writes acc.heap }) else Stuck acc
answered_by types (value v heap) acc = Stuck acc

-- the call of a core import, with words, in the heap as it is
abbrev pub call_point : {V : Type 0} → Target → List Word → Account V → Call V
call_point target ws acc = record { target = target; words = ws; values = []; heap = acc.heap }

abbrev pub calling : {V : Type 0} → Target → List Word → List WasmType → Reply V → Act V (List Word)
calling target ws types reply acc = answered_by types reply (recorded (call_point target ws acc) acc)

-- each address begins a block, and none stands twice
abbrev pub begins_at : ℕ → Block → Bool
begins_at address b = nat_eq b.address address && nat_lt 0 b.size

abbrev pub are_live : List ℕ → List Block → Bool
are_live [] blocks = true
are_live (a ∷ places) blocks = is_some (find (begins_at a) blocks) && not (is_taken a places) && are_live places blocks

-- the method's heap is what is there then, in which what its answer owns has blocks, and owners
abbrev pub left_with : {V : Type 0} → (V → List ℕ) → Heap → List V → Act V (List V)
left_with owned heap vals acc =
    if are_live (flat_map owned vals) heap.blocks then gives vals (record acc { heap = heap; taken = flat_map owned vals }) else Stuck acc

abbrev pub left_by : {V : Type 0} → (V → List ℕ) → Heap → Option (List V) → Act V (List V)
left_by owned heap None acc = Stuck acc
left_by owned heap (Some vals) acc = left_with owned heap vals acc

-- what comes in of an answer
abbrev pub coming : {V : Type 0} → (V → Option V) → Option V → Option (List V)
coming receives None = Some []
coming receives (Some a) = option_map (λ b. b ∷ []) (receives a)

-- a value is answered, where one is due and none else
abbrev pub returned_with : {V : Type 0} → (V → List ℕ) → (V → Option V) → (due : ℕ) → Reply V → Act V (List V)
returned_with owned receives due (words w writes blocks) acc = Stuck acc
returned_with owned receives due (value v heap) acc =
    if nat_eq (length (option_to_list v)) due then left_by owned heap (coming receives v) acc else Stuck acc

-- the call of a method, with values, in the heap as it is
abbrev pub method_point : {V : Type 0} → Target → List V → Account V → Call V
method_point target vals acc = record { target = target; words = []; values = vals; heap = acc.heap }

abbrev pub handed_over : {V : Type 0} → (V → List ℕ) → (V → Option V) → Target → (due : ℕ) → Reply V → Option (List V) → Act V (List V)
handed_over owned receives target due reply None acc = Stuck acc
handed_over owned receives target due reply (Some vals) acc = returned_with owned receives due reply (recorded (method_point target vals acc) acc)

abbrev pub handing : {V : Type 0} → (V → List ℕ) → Crossing V → Target → List V → (due : ℕ) → Reply V → Act V (List V)
handing owned x target vals due reply acc = handed_over owned x.receives target due reply (x.passes vals) acc

-- how many results a function has
abbrev pub result_count : Function → ℕ
result_count f = length (option_to_list f.result)

-- the core words that a function is passed as an import, and those that it answers
abbrev pub import_params : List TypeDef → Function → List WasmType
import_params types f = core_params GuestImport (param_words types f.params) (result_words types f.result)

abbrev pub import_results : List TypeDef → Function → List WasmType
import_results types f = core_results GuestImport (result_words types f.result)

-- the instructions whose code makes a call
abbrev pub is_call : Instruction → Bool
is_call (CallWasm f) = true
is_call (CallInterface f) = true
is_call _ = false

module _ {Self Operand : Type 0} (m : Meaning Self Operand) where
  -- the function is called with words of its core parameters, and the words that it is answered are results
  abbrev pub CallsCore : List TypeDef → Function → (os rs : List Operand) → (old new : Self) → Type 0
  CallsCore types f os rs old new =
      (ws : List Word) → have_types (import_params types f) ws ≡ true →
      Does m (List Word) old new (ofs m os (core_data m ws)) (λ p. calling (m.target old f) ws (import_results types f) p.reply)
      (λ back fs. fs ≡ ofs m rs (core_data m back)) (λ back. []) (λ back. [])

  -- the method is called with values, which own all that locals own. Afterwards no more is known than its result, and what that owns
  abbrev pub HandsOver : Function → (os rs : List Operand) → (old new : Self) → Type 0
  HandsOver f os rs old new =
      (vals : List m.Item) (w : m.World) (p : Peer m.Item) (others : Facts m) (s0 s : m.State) → length vals ≡ length os → At m w p old new (ofs m os (item_data m vals) ++ others) s0 s → SameItems (m.owns s) (flat_map m.owned vals) →
      Follows m.account (handing m.owned (m.crosses w old f) (m.target old f) vals (result_count f) p.reply (m.account s)) (m.does w p (m.code new) s0)
      (λ x t. (m.account t ≡ x.account) × SameItems (m.owns t) (flat_map m.owned x.result) × m.denotes w new (ofs m rs (item_data m x.result)) t)

  -- where the code stands in this whole, what stands for what is handed on of values of these shapes is passed to the method as it is. The code
  -- can't know that: the whole has the method
  abbrev pub PassesAsItIs : m.World → Self → Function → Shapes → Type 0
  PassesAsItIs w b f ts =
      (us : Parts ts) (vals : List m.Item) (own : List Block) → AreListed ts us → PartsStand m take ts (all_settled ts us) vals own → (m.crosses w b f).passes vals ≡ Some vals

  -- new operands denote what the operands did
  abbrev pub Renames : (os rs : List Operand) → (old new : Self) → Type 0
  Renames os rs old new = (ds : Data m) → length ds ≡ length os → Stays m old new (ofs m os ds) (λ fs. fs ≡ ofs m rs ds)

  -- the operands are what the code gives, and denote what they did
  abbrev pub Ends : (os : List Operand) → (old new : Self) → Type 0
  Ends os old new = (ds : Data m) → Stays m old new (ofs m os ds) (λ fs. fs ≡ ofs m os ds)

abbrev pub is_return : Instruction → Bool
is_return (Return n) = true
is_return _ = false

-- what code gives after an instruction
abbrev pub returned_by : {Operand : Type 0} → Instruction → List Operand → Option (List Operand) → Option (List Operand)
returned_by i os before = if is_return i then Some os else before
