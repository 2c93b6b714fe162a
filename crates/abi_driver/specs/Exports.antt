-- What the code of an export does: it calls the method once, whatever is answered, and gives words of what an honest one answers.
use Rattle.std.specs.Prelude.{◌≡◌, ◌<◌, ◌^◌, ℕ, Bool, true, false, if◌then◌else◌, MatchBool, List, [], ◌∷◌, ◌++◌, length, Option, None, Some, slice_get}
use Rattle.wit_model.specs.declared.function.Function.{Function}
use Rattle.wit_model.specs.declared.size.Alignment.{Alignment}
use Rattle.wit_model.specs.declared.size.ArchitectureSize.{ArchitectureSize}
use Rattle.wit_model.specs.declared.types.TypeDef.{TypeDef}
use Rattle.wit_model.specs.declared.wasm_type.WasmType.{WasmType}
use Rattle.wit_model.specs.declared.wasm_type.WasmType.TheVariants as wasm
use Rattle.wit_layout.specs.declared.signature.AbiVariant.TheVariants.{GuestExport}
use Rattle.wit_layout.specs.Signature as signature
use Rattle.wit_layout.specs.Signature.{core_params}
use Rattle.wit_layout.specs.Sizes.{elem_size}
use Rattle.wit_layout.specs.Told.{IsPairOf}
use Rattle.wrapper_data.specs.Heap.{is_heap}
use Rattle.wrapper_data.specs.declared.block.Block.{Block}
use Rattle.wrapper_data.specs.declared.choice.Request.{Request}
use Rattle.wrapper_data.specs.declared.heap.Heap.{Heap}
use Rattle.wrapper_data.specs.declared.run.Target.{Target}
use Rattle.wrapper_data.specs.declared.word.Word.{Word}
use Rattle.wrapper_meaning.specs.Areas.{result_record}
use Rattle.wrapper_meaning.specs.Direction.{give, take}
use Rattle.wrapper_meaning.specs.InRange.{AreListed}
use Rattle.wrapper_meaning.specs.Items.{SameItems}
use Rattle.wrapper_meaning.specs.Layout.{layout}
use Rattle.wrapper_meaning.specs.Represents.{GivesResult, TakesArguments, are_indirect, is_indirect, param_words}
use Rattle.wrapper_meaning.specs.Settled.{IsResult, all_settled}
use Rattle.wrapper_meaning.specs.Shape.{Shape, Shapes}
use Rattle.wrapper_meaning.specs.Shape.Shape.{fields}
use Rattle.wrapper_meaning.specs.Value.{Parts, Result}
use Rattle.abi_bindgen.specs.declared.bindgen.Asked.{Asked}
use Rattle.abi_bindgen.specs.declared.instruction.Instruction.TheVariants.{Flush, GetArg, GuestDeallocate}
use Rattle.abi_bindgen.specs.Account.{Account, Act, Call, Done, Follows, Got, Peer, Reply, account_in, addresses, gives, then_do, value}
use Rattle.abi_bindgen.specs.Area.{AreFor, AreaStands, pointing}
use Rattle.abi_bindgen.specs.Calls.{PassesAsItIs, coming, recorded}
use Rattle.abi_bindgen.specs.Frees.{nowhere}
use Rattle.abi_driver.specs.Imports.{Points, ResultStands}
use Rattle.abi_bindgen.specs.Instructions.{Emits}
use Rattle.abi_bindgen.specs.Laws.{Adds, After, At, Facts, Stays, args, core_data, item_data, ofs}
use Rattle.abi_bindgen.specs.Lifts.{MayTake, by_taking}
use Rattle.abi_driver.specs.Loads.{LoadsParts}
use Rattle.abi_bindgen.specs.Lowers.{LowersAnswer}
use Rattle.abi_bindgen.specs.Meaning.{Meaning}
use Rattle.abi_bindgen.specs.Parts.{PartsStand, count}
use Rattle.abi_driver.specs.Stores.{LowersToMemory}

-- the core words that a function is passed as an export
abbrev pub export_params : List TypeDef → Function → List WasmType
export_params types f = core_params GuestExport (signature.param_words types f.params) (signature.result_words types f.result)

-- the core words that arguments of these shapes are, or the address of their record
abbrev pub argument_words : Shapes → List WasmType
argument_words ts = if are_indirect ts then wasm.Pointer ∷ [] else param_words ts

-- the account after the call, in the heap that the method leaves, where nothing but these has an owner
abbrev pub handed_on : {V : Type 0} → Call V → Heap → List ℕ → Account V → Account V
handed_on c heap owners acc = record (recorded c acc) { heap = heap; taken = owners }

-- the area of a result that passes by it is placed now, and another needs none
abbrev pub placing_result : {V : Type 0} → Bool → Option Request → Act V (List ℕ)
placing_result false area acc = gives [] acc
placing_result true area acc = then_do (pointing area None acc) (λ x. gives (x.result ∷ []) x.account)

module _ {Self Operand : Type 0} (m : Meaning Self Operand) where
  -- arguments of the code from one on, so many, become operands, where they are words
  pub record ReadsWords (first n : ℕ) (os : List Operand) (old new : Self) : Type 0 where
    pub adds : Adds m old new
    pub fits : length os ≡ n
    pub row : (ws : List Word) → length ws ≡ n → Stays m old new (args m first (core_data m ws)) (λ fs. fs ≡ ofs m os (core_data m ws))

  -- items that stand for what is handed on of the values were made of their words. Of the words' blocks those are left that the items own
  pub record TookOver (w : m.World) (p : Peer m.Item) (ts : Shapes) (us : Parts ts) (blocks : List Block) (values : List Operand) (new : Self) (others : Facts m) (s0 s : m.State) : Type 0 where
    pub vals : List m.Item
    pub own : List Block
    pub stands : PartsStand m take ts (all_settled ts us) vals own
    pub heap : Heap
    pub formed : is_heap heap ≡ true
    pub kept : SameItems (heap.blocks ++ blocks) ((m.account s).heap.blocks ++ own)
    pub state : m.State
    pub done : m.does w p (m.code new) s0 ≡ Done state
    pub after : After m w new (ofs m values (item_data m vals) ++ others) (addresses own) [] s (by_taking own (record (m.account s) { heap = heap })) state

  -- the arguments become operands of items, where they are words that represent values
  pub record TakesArgumentsOver (ts : Shapes) (values : List Operand) (old new : Self) : Type 0 where
    pub adds : Adds m old new
    pub many : length values ≡ count ts
    pub row : (w : m.World) (p : Peer m.Item) (us : Parts ts) (ws : List Word) (blocks : List Block) (others : Facts m) (s0 s : m.State) → AreListed ts us → TakesArguments m.width ts us ws blocks → MayTake blocks (m.account s)
        → At m w p old new (args m 0 (core_data m ws) ++ others) s0 s → TookOver w p ts us blocks values new others s0 s

  -- the block of the record of the arguments is freed, whose address is read for it
  pub record FreesArguments (types : List TypeDef) (ts : Shapes) (old new : Self) : Type 0 where
    pub size : ArchitectureSize
    pub align : Alignment
    pub sized : IsPairOf size (λ w. elem_size w (layout (fields ts)))
    pub bounded : elem_size 3 (layout (fields ts)) < 2 ^ 31
    pub address : Operand
    pub none : List Operand
    pub middle : Self
    pub reads : Emits m types (GetArg 0) [] (address ∷ []) old middle
    pub frees : Emits m types (GuestDeallocate size align) (address ∷ []) none middle new

  -- the arguments are loaded from their record, which is then freed
  pub record TakesRecordOver (types : List TypeDef) (ts : Shapes) (values : List Operand) (old new : Self) : Type 0 where
    pub address : Operand
    pub parts : List Operand
    pub counted : length parts ≡ count ts
    pub many : length values ≡ count ts
    pub number : ℕ
    pub one : Self
    pub two : Self
    pub three : Self
    pub reads : Emits m types (GetArg 0) [] (address ∷ []) old one
    pub loads : LoadsParts m ts address nowhere 0 parts one two
    pub renames : Emits m types (Flush number) parts values two three
    pub frees : FreesArguments types ts three new

  -- the call goes to the target, with items that stand for what is handed on of the values, and own what is left of these blocks. Those that
  -- were beside them are as they were
  pub record PassesItems (target : Target) (ts : Shapes) (us : Parts ts) (blocks : List Block) (acc : Account m.Item) (c : Call m.Item) : Type 0 where
    pub aimed : c.target ≡ target
    pub words : c.words ≡ []
    pub own : List Block
    pub stands : PartsStand m take ts (all_settled ts us) c.values own
    pub formed : is_heap c.heap ≡ true
    pub kept : SameItems (c.heap.blocks ++ blocks) (acc.heap.blocks ++ own)

  -- the answer is an item, and what comes in of it stands for the result, whose blocks are live in the heap that the method leaves
  pub record IsHonestMethod (w : m.World) (b : Self) (f : Function) (r : Option Shape) (v : Result r) (reply : Reply m.Item) : Type 0 where
    pub good : IsResult r v
    pub item : Option m.Item
    pub heap : Heap
    pub answers : reply ≡ value item heap
    pub formed : is_heap heap ≡ true
    pub own : List Block
    pub others : List Block
    pub vals : List m.Item
    pub comes : coming (m.crosses w b f).receives item ≡ Some vals
    pub stands : ResultStands m give r v vals own
    pub live : SameItems heap.blocks (own ++ others)

  -- a state to which the earlier code came, without owners, where the first arguments are words that represent values, with these blocks
  pub record Received (w : m.World) (p : Peer m.Item) (ts : Shapes) (us : Parts ts) (ws : List Word) (blocks : List Block) (old new : Self) (others : Facts m) (s0 s : m.State) : Type 0 where
    pub listed : AreListed ts us
    pub represents : TakesArguments m.width ts us ws blocks
    pub may : MayTake blocks (m.account s)
    pub free : (m.account s).taken ≡ []
    pub bare : SameItems (m.owns s) []
    pub unplaced : m.area_at s0 ≡ None
    pub unasked : m.asked old ≡ []
    pub at : At m w p old new (args m 0 (core_data m ws) ++ others) s0 s

  -- operands of words that represent the result, with exactly its blocks, in the heap that the method left and the area, where that was
  -- placed. Nothing but the area has an owner
  pub record GivesWords (w : m.World) (r : Option Shape) (v : Result r) (own : List Block) (left : Heap) (os : List Operand) (new : Self) (x : Got m.Item (List ℕ)) (t : m.State) : Type 0 where
    pub ws : List Word
    pub area : List Block
    pub placed : AreaStands (result_record r) (m.area w) (slice_get x.result 0) area
    pub represents : GivesResult m.width r v ws own area
    pub heap : Heap
    pub formed : is_heap heap ≡ true
    pub all : SameItems heap.blocks (left.blocks ++ area)
    pub account : m.account t ≡ record x.account { heap = heap; taken = x.result }
    pub owns : SameItems (m.owns t) x.result
    pub denotes : m.denotes w new (ofs m os (core_data m ws)) t

  -- where an area is needed, it is placed; and then the code gives words
  abbrev pub EndsWithWords : m.World → Peer m.Item → (r : Option Shape) → Result r → (own : List Block) → (left : Heap) → (os : List Operand) → (new : Self) → (s0 : m.State) → Account m.Item → Type 0
  EndsWithWords w p r v own left os new s0 acc =
      Follows m.account (placing_result (is_indirect r) (m.area w) acc) (m.does w p (m.code new) s0) (λ x t. GivesWords w r v own left os new x t)

  -- the result is stored in the area, of which an operand then denotes the address
  pub record StoresAnswer (t : Shape) (answer given : List Operand) (old new : Self) : Type 0 where
    pub value : Operand
    pub address : Operand
    pub middle : Self
    pub answered : answer ≡ value ∷ []
    pub gives : given ≡ address ∷ []
    pub points : Points m t address old middle
    pub stores : LowersToMemory m true t value address nowhere middle new

  -- or it becomes words
  abbrev pub GivesAnswer : Option Shape → (answer given : List Operand) → (old new : Self) → Type 0
  GivesAnswer None answer given old new = LowersAnswer m None answer given old new
  GivesAnswer (Some t) answer given old new = MatchBool (is_indirect (Some t)) (StoresAnswer t answer given old new) (LowersAnswer m (Some t) answer given old new)

  -- the code ends with words of what was answered. Till then exactly its blocks have owners
  pub record HandsBack (w : m.World) (p : Peer m.Item) (r : Option Shape) (v : Result r) (own : List Block) (left : Heap) (c : Call m.Item) (os : List Operand) (new : Self) (s0 s : m.State) : Type 0 where
    pub owners : List ℕ
    pub same : SameItems owners (addresses own)
    pub ends : EndsWithWords w p r v own left os new s0 (handed_on c left owners (m.account s))

  -- one call is made, whatever is answered; and where the answer is honest, the code ends and gives words of it
  pub record HandsOn (w : m.World) (p : Peer m.Item) (b : Self) (f : Function) (ts : Shapes) (us : Parts ts) (r : Option Shape) (blocks : List Block) (new : Self) (s0 s : m.State) : Type 0 where
    pub call : Call m.Item
    pub passes : PassesItems (m.target b f) ts us blocks (m.account s) call
    pub made : (account_in m.account (m.does w p (m.code new) s0)).calls ≡ (m.account s).calls ++ call ∷ []
    pub os : List Operand
    pub returned : m.returned new ≡ Some os
    pub gives : (v : Result r) → (honest : IsHonestMethod w b f r v p.reply) → HandsBack w p r v honest.own honest.heap call os new s0 s

  -- the code of an export was added
  pub record CallsExport (f : Function) (ts : Shapes) (r : Option Shape) (old new : Self) : Type 0 where
    -- what serves the new code serves the old, and what serves the old can be made to serve the new
    pub serves : (w : m.World) → m.serves w new → m.serves w old
    pub more : (w : m.World) → m.serves w old → (x : m.World) × m.serves x new
    -- the area was asked for exactly the record by which the result passes
    pub records : List Asked
    pub for : AreFor (result_record r) records
    pub asked : m.asked new ≡ m.asked old ++ records
    -- of the blocks that it finishes none is left over
    pub blocks : m.blocks new ≡ m.blocks old
    -- where values of its parameters are passed as they are
    pub row : (w : m.World) (p : Peer m.Item) (us : Parts ts) (ws : List Word) (blocks : List Block) (others : Facts m) (s0 s : m.State) → PassesAsItIs m w old f ts → Received w p ts us ws blocks old new others s0 s
        → HandsOn w p old f ts us r blocks new s0 s
