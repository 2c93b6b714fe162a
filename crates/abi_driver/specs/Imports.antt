-- What the code of an import does: it calls the function once, whatever is answered, and gives what an honest peer answers.
use Rattle.std.specs.Prelude.{◌≡◌, ℕ, true, MatchBool, List, [], ◌∷◌, ◌++◌, length, Option, None, Some}
use Rattle.wit_model.specs.declared.function.Function.{Function}
use Rattle.wrapper_data.specs.Answered.{answered}
use Rattle.wrapper_data.specs.Heap.{is_heap}
use Rattle.wrapper_data.specs.declared.block.Block.{Block}
use Rattle.wrapper_data.specs.declared.heap.Heap.{Heap}
use Rattle.wrapper_data.specs.declared.run.CallPoint.{CallPoint}
use Rattle.wrapper_data.specs.declared.run.Target.{Target}
use Rattle.wrapper_data.specs.declared.word.Word.{Word}
use Rattle.wrapper_meaning.specs.Areas.{parameter_record, result_record}
use Rattle.wrapper_meaning.specs.Calls.{PassesWords}
use Rattle.wrapper_meaning.specs.Direction.{Direction, lend, take}
use Rattle.wrapper_meaning.specs.Honest.{AnswersValue}
use Rattle.wrapper_meaning.specs.InRange.{AreListed, IsListedResult}
use Rattle.wrapper_meaning.specs.Items.{AtMost, SameItems}
use Rattle.wrapper_meaning.specs.Represents.{LendsArguments, are_indirect, is_indirect, param_words}
use Rattle.wrapper_meaning.specs.Settled.{settled_result}
use Rattle.wrapper_meaning.specs.Shape.{Shape, Shapes}
use Rattle.wrapper_meaning.specs.Shape.Shape.{fields}
use Rattle.wrapper_meaning.specs.Value.{Parts, Result}
use Rattle.abi_bindgen.specs.declared.bindgen.Asked.{Asked}
use Rattle.abi_bindgen.specs.Account.{Account, Call, Done, Got, Peer, Reply, account_in, addresses, words}
use Rattle.abi_bindgen.specs.Area.{AreFor, AreaStands, NeedsArea, SameArea}
use Rattle.abi_bindgen.specs.Calls.{recorded}
use Rattle.abi_bindgen.specs.Frees.{nowhere}
use Rattle.abi_bindgen.specs.Laws.{After, At, Facts, Grows, PointsTo, Quiet, args, core_data, item_data, ofs}
use Rattle.abi_bindgen.specs.Lifts.{LiftsAnswer, by_taking}
use Rattle.abi_driver.specs.Loads.{LiftsFromMemory}
use Rattle.abi_bindgen.specs.Meaning.{Meaning}
use Rattle.abi_bindgen.specs.Parts.{PartsStand}
use Rattle.abi_driver.specs.Stores.{StoresArguments}

-- 1. The call and its answer

-- the call as one of a run
abbrev pub point_of : {V : Type 0} → Call V → CallPoint
point_of c = record { target = c.target; words = c.words; values = []; heap = c.heap }

-- it goes to the target, with words that represent the values, which are lent in the blocks that were given. These are as they were, and
-- nothing but the area was written
pub record PassesValues {V : Type 0} (w : ℕ) (target : Target) (ts : Shapes) (vs : Parts ts) (r : Option Shape) (given area : List Block) (c : Call V) : Type 0 where
  pub aimed : c.target ≡ target
  pub written : List Block
  pub same : SameArea area written
  pub passes : PassesWords w ts vs r given written c.words
  pub values : c.values ≡ []
  pub formed : is_heap c.heap ≡ true
  pub kept : SameItems c.heap.blocks (given ++ written)

-- words, bytes that are written and new blocks represent a value
pub record IsHonest {V : Type 0} (w : ℕ) (r : Option Shape) (u : Result r) (reply : Reply V) (c : Call V) : Type 0 where
  pub good : IsListedResult r u
  pub result : Option Word
  pub writes : List (ℕ × ℕ)
  pub new : List Block
  pub answers : reply ≡ words result writes new
  pub represents : AnswersValue w r u (point_of c) result writes new

-- the account after the call, where the words' blocks were taken over
abbrev pub by_answer : {V : Type 0} → Call V → (writes : List (ℕ × ℕ)) → (new own : List Block) → Account V → Got V (Unit {0})
by_answer c writes new own acc = by_taking own (record (recorded c acc) { heap = answered new writes c.heap })

module _ {Self Operand : Type 0} (m : Meaning Self Operand) where
  -- 2. The arguments

  -- in a well-formed heap of the given blocks and the area, items that are lent in the given blocks stand for values
  pub record AreGiven (ts : Shapes) (vs : Parts ts) (vals : List m.Item) (given area : List Block) (s : m.State) : Type 0 where
    pub listed : AreListed ts vs
    pub stand : PartsStand m (lend given) ts vs vals []
    pub formed : is_heap (m.account s).heap ≡ true
    pub all : SameItems (m.account s).heap.blocks (given ++ area)

  -- operands of words that represent the values, in a heap in which nothing but the area was written
  pub record Lent (w : m.World) (p : Peer m.Item) (ts : Shapes) (vs : Parts ts) (given area : List Block) (os : List Operand) (new : Self) (others : Facts m) (s0 s : m.State) : Type 0 where
    pub ws : List Word
    pub written : List Block
    pub same : SameArea area written
    pub fits : length ws ≡ length os
    pub lends : LendsArguments m.width given written ts vs ws
    pub heap : Heap
    pub formed : is_heap heap ≡ true
    pub all : SameItems heap.blocks (given ++ written)
    pub state : m.State
    pub done : m.does w p (m.code new) s0 ≡ Done state
    pub after : After m w new (ofs m os (core_data m ws) ++ others) [] [] s (record { result = tt {0}; account = record (m.account s) { heap = heap } }) state

  -- an operand denotes the address of the area, which was asked for a value of this shape
  abbrev pub Points : Shape → (o : Operand) → (old new : Self) → Type 0
  Points t o old new = (a : Asked) × AreFor (t ∷ []) (a ∷ []) × PointsTo m a o old new

  -- the area was asked for a record of the arguments, which are stored there one after another
  pub record PassesRecord (ts : Shapes) (o : Operand) (old new : Self) : Type 0 where
    pub middle : Self
    pub points : Points (fields ts) o old middle
    pub stores : StoresArguments m ts 0 o 0 middle new

  -- the arguments become words; or they are stored in the area, of which an operand then denotes the address
  pub record PassesArguments (ts : Shapes) (os : List Operand) (old new : Self) : Type 0 where
    pub grows : Grows m old new
    pub quiet : Quiet m old new
    pub records : List Asked
    pub for : AreFor (parameter_record ts) records
    pub asked : m.asked new ≡ m.asked old ++ records
    pub blocks : m.blocks new ≡ m.blocks old
    pub fits : MatchBool (are_indirect ts) (length os ≡ 1) (length os ≡ length (param_words ts))
    pub row : (w : m.World) (p : Peer m.Item) (vs : Parts ts) (vals : List m.Item) (given area : List Block) (others : Facts m) (s0 s : m.State) → AreGiven ts vs vals given area s
        → NeedsArea (are_indirect ts) (m.area w) (m.area_at s0) area → At m w p old new (args m 0 (item_data m vals) ++ others) s0 s → Lent w p ts vs given area os new others s0 s

  -- 3. The result

  -- where the result passes by the area, an operand denotes its address
  abbrev pub PointsAtResult : Option Shape → (pointer : List Operand) → (old new : Self) → Type 0
  PointsAtResult r pointer old new =
      MatchBool (is_indirect r) ((o : Operand) × (t : Shape) × (r ≡ Some t) × (pointer ≡ o ∷ []) × Points t o old new) ((pointer ≡ []) × (new ≡ old))

  -- and the result is loaded from there
  abbrev pub LoadsAnswer : Shape → (pointer given : List Operand) → (old new : Self) → Type 0
  LoadsAnswer t pointer given old new = (o q : Operand) × (pointer ≡ o ∷ []) × (given ≡ q ∷ []) × LiftsFromMemory m t o nowhere q old new

  -- elsewhere it is lifted from the word that is answered
  abbrev pub ReadsAnswer : Option Shape → (pointer back given : List Operand) → (old new : Self) → Type 0
  ReadsAnswer None pointer back given old new = LiftsAnswer m None back given old new
  ReadsAnswer (Some t) pointer back given old new =
      MatchBool (is_indirect (Some t)) (LoadsAnswer t pointer given old new) (LiftsAnswer m (Some t) back given old new)

  -- 4. All of it

  -- the item of a result, where there is one, stands for it with these blocks
  abbrev pub ResultStands : Direction → (r : Option Shape) → Result r → List m.Item → List Block → Type 0
  ResultStands dir None u vals own = (vals ≡ []) × (own ≡ [])
  ResultStands dir (Some t) u vals own = (a : m.Item) × (vals ≡ a ∷ []) × m.stands dir t u a own

  -- a state to which the earlier code came, where the first arguments are lent and stand for values, and the area stands that the call
  -- needs. Nothing but blocks of the heap has an owner
  pub record Given (w : m.World) (p : Peer m.Item) (ts : Shapes) (vs : Parts ts) (r : Option Shape) (vals : List m.Item) (given area : List Block) (old new : Self) (others : Facts m) (s0 s : m.State) : Type 0 where
    pub values : AreGiven ts vs vals given area s
    pub placed : AreaStands (parameter_record ts ++ result_record r) (m.area w) (m.area_at s0) area
    pub owners : AtMost (m.account s).taken (addresses (given ++ area))
    pub at : At m w p old new (args m 0 (item_data m vals) ++ others) s0 s

  -- the code gives what was answered
  pub record GivesBack (w : m.World) (p : Peer m.Item) (r : Option Shape) (u : Result r) (c : Call m.Item) (honest : IsHonest m.width r u p.reply c) (new : Self) (others : Facts m) (s0 s : m.State) : Type 0 where
    pub state : m.State
    pub done : m.does w p (m.code new) s0 ≡ Done state
    pub os : List Operand
    pub returned : m.returned new ≡ Some os
    pub vals : List m.Item
    pub own : List Block
    pub stands : ResultStands take r (settled_result r u) vals own
    pub all : SameItems own honest.new
    pub after : After m w new (ofs m os (item_data m vals) ++ others) (addresses own) [] s (by_answer c honest.writes honest.new own (m.account s)) state

  -- one call is made, whatever is answered; and where the answer to it is honest, the code ends and gives it
  pub record Carries (w : m.World) (p : Peer m.Item) (target : Target) (ts : Shapes) (vs : Parts ts) (r : Option Shape) (given area : List Block) (new : Self) (others : Facts m) (s0 s : m.State) : Type 0 where
    pub call : Call m.Item
    pub passes : PassesValues m.width target ts vs r given area call
    pub made : (account_in m.account (m.does w p (m.code new) s0)).calls ≡ (m.account s).calls ++ call ∷ []
    pub gives : (u : Result r) → (honest : IsHonest m.width r u p.reply call) → GivesBack w p r u call honest new others s0 s

  -- the code of an import was added
  pub record CallsImport (f : Function) (ts : Shapes) (r : Option Shape) (old new : Self) : Type 0 where
    -- what serves the new code serves the old, and what serves the old can be made to serve the new
    pub serves : (w : m.World) → m.serves w new → m.serves w old
    pub more : (w : m.World) → m.serves w old → (x : m.World) × m.serves x new
    -- the area was asked for exactly the records by which the call passes values
    pub records : List Asked
    pub for : AreFor (parameter_record ts ++ result_record r) records
    pub asked : m.asked new ≡ m.asked old ++ records
    -- of the blocks that it finishes none is left over
    pub blocks : m.blocks new ≡ m.blocks old
    pub row : (w : m.World) (p : Peer m.Item) (vs : Parts ts) (vals : List m.Item) (given area : List Block) (others : Facts m) (s0 s : m.State) → Given w p ts vs r vals given area old new others s0 s
        → Carries w p (m.target old f) ts vs r given area new others s0 s
