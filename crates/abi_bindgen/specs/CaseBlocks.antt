-- What the blocks do by which the cases of a type become core words, and core words become cases.
use Rattle.std.specs.Prelude.{false, ◌≡◌, ℕ, suc, ◌+◌, pos, Bool, true, List, [], ◌∷◌, ◌++◌, length, replicate, reverse, Option, Some, slice_get}
use Rattle.wit_model.specs.declared.wasm_type.WasmType.{WasmType}
use Rattle.wrapper_data.specs.Heap.{is_heap}
use Rattle.wrapper_data.specs.declared.block.Block.{Block}
use Rattle.wrapper_data.specs.declared.choice.Request.{Request}
use Rattle.wrapper_data.specs.declared.word.Word.{Word}
use Rattle.wrapper_data.specs.declared.word.Word.TheVariants as core
use Rattle.wrapper_meaning.specs.AsWords.{CaseSays, Saying}
use Rattle.wrapper_meaning.specs.Direction.{take}
use Rattle.wrapper_meaning.specs.InRange.{IsListedCase}
use Rattle.wrapper_meaning.specs.Items.{SameItems}
use Rattle.wrapper_meaning.specs.Requests.{block_for, case_requests, room_for}
use Rattle.wrapper_meaning.specs.Settled.{settled_case}
use Rattle.wrapper_meaning.specs.Shape.{Shapes}
use Rattle.wrapper_meaning.specs.Value.{Case, case_number}
use Rattle.wrapper_meaning.specs.Words.{AreWords}
use Rattle.abi_bindgen.specs.Account.{Peer, addresses}
use Rattle.abi_bindgen.specs.Blocks.{AreFinished}
use Rattle.abi_bindgen.specs.Cases.{IsPayload, PayloadStands, with_case}
use Rattle.abi_bindgen.specs.Early.{Comes}
use Rattle.abi_bindgen.specs.Laws.{Facts, Grows, StaysUncalled, core_data, ofs}
use Rattle.abi_bindgen.specs.Leaves.{way}
use Rattle.abi_bindgen.specs.Lifting.{LiftedBy}
use Rattle.abi_bindgen.specs.Lifts.{MayTake}
use Rattle.abi_bindgen.specs.Lowering.{LoweredBy, Releases, said}
use Rattle.abi_bindgen.specs.Meaning.{Bound, Ended, Meaning, with_nothing}
use Rattle.abi_bindgen.specs.Parts.{count}

module _ {Self Operand : Type 0} (m : Meaning Self Operand) where
  -- blocks were finished in this order, with so many results each, and the code goes on as before
  pub record AddsBlocks (bodies : List m.Block) (ks : List ℕ) (old new : Self) : Type 0 where
    pub grows : Grows m old new
    pub uncalled : StaysUncalled m old new
    pub code : m.code new ≡ m.code old
    pub asked : m.asked new ≡ m.asked old
    pub blocks : m.blocks new ≡ reverse bodies ++ m.blocks old
    pub many : length bodies ≡ length ks
    pub finished : AreFinished m new ks bodies

  -- 1. Values become words

  -- words of a case, from a number on: its number, and slots that its payload and those of others share
  abbrev pub SaysCase : (realloc : Bool) (given : List Block) (ts : Shapes) → Case ts → (first : ℕ) → (slots : List WasmType) → Saying
  SaysCase realloc given ts c first slots words blocks =
      (shared : List Word) × (words ≡ core.I32 (pos (first + case_number ts c)) ∷ shared) × AreWords m.width slots shared × CaseSays m.width (said realloc given) ts c shared blocks

  -- a block gave these words, so many, and lets go of what was owned. Outside of it nothing is changed but the account
  pub record GaveWords (realloc : Bool) (Say : Saying) (own : List Block) (left : List ℕ) (due : List Request) (many : ℕ) (w : m.World) (s : m.State) (e : Ended m.Item m.State) : Type 0 where
    pub ws : List Word
    pub fits : length ws ≡ many
    pub results : e.results ≡ core_data m ws
    pub lowered : LoweredBy realloc Say own left due ws (m.account s) (m.account e.state)
    pub owns : SameItems (m.owns e.state) (m.owns s)
    pub keeps : (b : Self) (facts : Facts m) → m.denotes w b facts s → m.denotes w b facts e.state

  -- from a state in which nothing is needed that operands denote
  abbrev pub GivesWords : (realloc : Bool) → Saying → (own : List Block) → (due : List Request) → (many : ℕ) → m.World → Peer m.Item → m.Block → Bound m.Item → m.State → Type 0
  GivesWords realloc Say own due many w p block with s =
      (left : List ℕ) → is_heap (m.account s).heap ≡ true → Releases (addresses own) (m.account s).taken left
      → Comes true due (m.account s) (m.runs w p block with s) (GaveWords realloc Say own left due many w s)

  -- there is a block for each case, from a number on: run with the payload, it gives the number and the slots
  pub record LowersCases (realloc : Bool) (ts : Shapes) (first : ℕ) (slots : List WasmType) (old new : Self) : Type 0 where
    pub bodies : List m.Block
    pub adds : AddsBlocks bodies (replicate (count ts) (suc (length slots))) old new
    -- so far no code is made for what asks for blocks
    pub asks_nothing : (c : Case ts) → case_requests m.width block_for ts c ≡ []
    pub row : (given : List Block) (c : Case ts) (payload : Option m.Item) (own : List Block) → IsListedCase ts c → PayloadStands m (way realloc given) ts c payload own →
        (body : m.Block) × (slice_get bodies (case_number ts c) ≡ Some body)
        × ((w : m.World) (p : Peer m.Item) (later : Self) (before s : m.State) → m.serves w new → m.denotes w old [] before → m.denotes w later [] s
        → GivesWords realloc (SaysCase realloc given ts c first slots) own (case_requests m.width block_for ts c) (suc (length slots)) w p body (with_case m payload) s)

  -- 2. Words become values

  -- a block gave a payload, which owns blocks of the slots. Outside of it nothing is changed but the account
  pub record GavePayload (Stands : Option m.Item → List Block → Type 0) (blocks : List Block) (due : List Request) (w : m.World) (s : m.State) (e : Ended m.Item m.State) : Type 0 where
    pub payload : Option m.Item
    pub is : IsPayload m e.results payload
    pub own : List Block
    pub stands : Stands payload own
    pub lifted : LiftedBy blocks own due (m.account s) (m.account e.state)
    pub owns : SameItems (m.owns e.state) (m.owns s)
    pub keeps : (b : Self) (facts : Facts m) → m.denotes w b facts s → m.denotes w b facts e.state

  abbrev pub TakesPayload : m.World → Peer m.Item → m.Block → (Stands : Option m.Item → List Block → Type 0) → (blocks : List Block) → (due : List Request) → m.State → Type 0
  TakesPayload w p block Stands blocks due s = Comes false due (m.account s) (m.runs w p block with_nothing s) (GavePayload Stands blocks due w s)

  -- there is a block for each case, which reads the slots outside and gives the payload
  pub record LiftsCases (ts : Shapes) (ks : List ℕ) (slots : List WasmType) (os : List Operand) (old new : Self) : Type 0 where
    pub bodies : List m.Block
    pub adds : AddsBlocks bodies ks old new
    -- so far no code is made for what asks for room
    pub asks_nothing : (c : Case ts) → case_requests m.width room_for ts c ≡ []
    pub row : (c : Case ts) (shared : List Word) (blocks : List Block) → IsListedCase ts c → AreWords m.width slots shared → CaseSays m.width take ts c shared blocks →
        (body : m.Block) × (slice_get bodies (case_number ts c) ≡ Some body)
        × ((w : m.World) (p : Peer m.Item) (later : Self) (before s : m.State) → m.serves w new → m.denotes w old (ofs m os (core_data m shared)) before → m.denotes w later (ofs m os (core_data m shared)) s → MayTake blocks (m.account s)
        → TakesPayload w p body (PayloadStands m take ts (settled_case ts c)) blocks (case_requests m.width room_for ts c) s)
