-- What the code is by which core words become values.
use Rattle.std.specs.Prelude.{◌≡◌, ℕ, true, false, List, [], ◌∷◌, ◌++◌, length, Option, None, Some}
use Rattle.wrapper_data.specs.Heap.{is_heap}
use Rattle.wrapper_data.specs.declared.block.Block.{Block}
use Rattle.wrapper_data.specs.declared.word.Word.{Word}
use Rattle.wit_layout.specs.Flat.{flatten_record, flatten_type}
use Rattle.wrapper_meaning.specs.AsWords.{PartsSay, Says}
use Rattle.wrapper_meaning.specs.Direction.{take}
use Rattle.wrapper_meaning.specs.InRange.{AreListed, IsListed}
use Rattle.wrapper_meaning.specs.Items.{AllIn}
use Rattle.wrapper_meaning.specs.Layout.{layout, layouts}
use Rattle.wrapper_meaning.specs.Settled.{all_settled, settled}
use Rattle.wrapper_meaning.specs.Shape.{Shape, Shapes}
use Rattle.wrapper_meaning.specs.Value.{Parts, Value}
use Rattle.abi_bindgen.specs.Account.{Account, Got, Peer, addresses, is_taken}
use Rattle.abi_bindgen.specs.Laws.{Adds, At, Facts, args, core_data, ofs}
use Rattle.abi_bindgen.specs.Meaning.{Meaning}
use Rattle.abi_bindgen.specs.Parts.{PartsStand, count}
use Rattle.abi_bindgen.specs.Lifting.{Gets}
use Rattle.wrapper_meaning.specs.Requests.{part_requests, requests, room_for}
use Rattle.wrapper_data.specs.declared.choice.Request.{Request}

-- nobody owns these blocks, and none stands twice among them
abbrev pub AreFree : List Block → List ℕ → Type 0
AreFree [] taken = Unit {0}
AreFree (b ∷ blocks) taken = (is_taken b.address taken ≡ false) × AreFree blocks (taken ++ b.address ∷ [])

-- they can be taken over: they are blocks of a well-formed heap
pub record MayTake {V : Type 0} (blocks : List Block) (acc : Account V) : Type 0 where
  pub formed : is_heap acc.heap ≡ true
  pub there : AllIn acc.heap.blocks blocks
  pub free : AreFree blocks acc.taken

-- they were taken over, and nothing else was done
abbrev pub took : {V : Type 0} → List Block → Account V → Account V
took blocks acc = record acc { taken = acc.taken ++ addresses blocks }

abbrev pub by_taking : {V : Type 0} → List Block → Account V → Got V (Unit {0})
by_taking blocks acc = record { result = tt; account = took blocks acc }

module _ {Self Operand : Type 0} (m : Meaning Self Operand) where
  -- words of which there are such facts become operands of items that stand for something, and own blocks of the words
  abbrev pub TakesOver : (Stands : List m.Item → List Block → Type 0) → (ins : Facts m) → (blocks : List Block) → (due : List Request) → (rs : List Operand) → (old new : Self) → Type 0
  TakesOver Stands ins blocks due rs old new =
      (w : m.World) (f : Peer m.Item) (others : Facts m) (s0 s : m.State) → At m w f old new (ins ++ others) s0 s → MayTake blocks (m.account s) → Gets m Stands blocks due rs new w f others s0 s

  -- one item stands for the value that is handed on
  abbrev pub OneStands : (t : Shape) → Value t → List m.Item → List Block → Type 0
  OneStands t v vals own = (a : m.Item) × (vals ≡ a ∷ []) × m.stands take t (settled t v) a own

  -- operands that denote words which represent a value that is taken become an operand of it
  pub record LiftsFlat (t : Shape) (os : List Operand) (r : Operand) (old new : Self) : Type 0 where
    pub adds : Adds m old new
    pub fits : length os ≡ length (flatten_type (layout t))
    -- so far no code is made for what asks for room
    pub asks_nothing : (v : Value t) → requests m.width room_for t v ≡ []
    pub row : (v : Value t) (ws : List Word) (blocks : List Block) → IsListed t v → Says m.width take t v ws blocks → TakesOver (OneStands t v) (ofs m os (core_data m ws)) blocks (requests m.width room_for t v) (r ∷ []) old new

  -- the same of parts, one after another
  pub record LiftsAll (ts : Shapes) (os rs : List Operand) (old new : Self) : Type 0 where
    pub adds : Adds m old new
    pub fits : length os ≡ length (flatten_record (layouts ts))
    pub asks_nothing : (v : Parts ts) → part_requests m.width room_for ts v ≡ []
    pub row : (v : Parts ts) (ws : List Word) (blocks : List Block) → AreListed ts v → PartsSay m.width take ts v ws blocks → TakesOver (PartsStand m take ts (all_settled ts v)) (ofs m os (core_data m ws)) blocks (part_requests m.width room_for ts v) rs old new

  -- the same of arguments, of which the first words are from one on
  pub record LiftsArguments (ts : Shapes) (first : ℕ) (rs : List Operand) (old new : Self) : Type 0 where
    pub adds : Adds m old new
    pub many : length rs ≡ count ts
    pub asks_nothing : (v : Parts ts) → part_requests m.width room_for ts v ≡ []
    pub row : (v : Parts ts) (ws : List Word) (blocks : List Block) → AreListed ts v → PartsSay m.width take ts v ws blocks → TakesOver (PartsStand m take ts (all_settled ts v)) (args m first (core_data m ws)) blocks (part_requests m.width room_for ts v) rs old new

  -- the words of an answer become an operand of it, where there is one
  abbrev pub LiftsAnswer : (r : Option Shape) → (os rs : List Operand) → (old new : Self) → Type 0
  LiftsAnswer None os rs old new = (rs ≡ []) × (new ≡ old)
  LiftsAnswer (Some t) os rs old new = (o : Operand) × (rs ≡ o ∷ []) × LiftsFlat t os o old new
