-- How blocks are opened and closed, and what a finished block then does.
use Rattle.std.specs.Prelude.{◌≡◌, ℕ, List, [], ◌∷◌, ◌++◌, length}
use Rattle.std.specs.List.{AllByRecursion, flat_map}
use Rattle.wit_model.specs.declared.function.Function.{Function}
use Rattle.wit_model.specs.declared.types.TypeDef.{TypeDef}
use Rattle.wrapper_data.specs.declared.word.Word.TheVariants as core
use Rattle.wrapper_meaning.specs.Items.{SameItems}
use Rattle.abi_bindgen.specs.Account.{Done, Outcome, Peer, Stopped, Stuck, account_in}
use Rattle.abi_bindgen.specs.Laws.{Data, Facts, Stays, ofs}
use Rattle.abi_bindgen.specs.Meaning.{Bound, Datum, Ended, Fact, Meaning, Name, arg, at_place, bound, item, of, the_base, the_element, the_key, the_payload, the_value, with_element, with_entry, with_nothing, with_payload, word}
use Rattle.abi_bindgen.specs.Sent.{closes, opens}

abbrev pub IsWord : {V : Type 0} → Datum V → Type 0
IsWord (word x) = Unit {0}
IsWord (item a) = ⊥

-- what an operand or a name denotes is a word
abbrev pub IsOfWord : {O S V : Type 0} → Fact O S V → Type 0
IsOfWord (of o d) = IsWord d
IsOfWord (arg n d) = ⊥
IsOfWord (bound slot name d) = IsWord d

module _ {Self Operand : Type 0} (m : Meaning Self Operand) where
  abbrev pub owned_datum : Datum m.Item → List ℕ
  owned_datum (word x) = []
  owned_datum (item a) = m.owned a

  -- 1. An open block

  pub record IsOpen (b : Self) : Type 0 where
    pub slot : m.Slot
    pub suspended : m.Code
    pub outer : List (m.Slot × m.Code)
    pub opened : m.opened b ≡ (slot, suspended) ∷ outer

  -- what its names are bound to, when it is run with something
  abbrev pub names : m.Slot → Bound m.Item → Facts m
  names slot with_nothing = []
  names slot (with_payload a) = bound slot the_payload (item a) ∷ []
  names slot (at_place q) = bound slot the_base (word (core.Pointer q)) ∷ []
  names slot (with_element a q) = bound slot the_element (item a) ∷ bound slot the_base (word (core.Pointer q)) ∷ []
  names slot (with_entry k x q) = bound slot the_key (item k) ∷ bound slot the_value (item x) ∷ bound slot the_base (word (core.Pointer q)) ∷ []

  -- and what the items among that own
  abbrev pub brought : Bound m.Item → List ℕ
  brought with_nothing = []
  brought (with_payload a) = m.owned a
  brought (at_place q) = []
  brought (with_element a q) = m.owned a
  brought (with_entry k x q) = m.owned k ++ m.owned x

  -- a name of the innermost open block is read
  abbrev pub ReadsName : Name → (rs : List Operand) → (old new : Self) → Type 0
  ReadsName name rs old new =
      (is : IsOpen old) (d : Datum m.Item) → Stays m old new (bound is.slot name d ∷ []) (λ fs. fs ≡ ofs m rs (d ∷ []))

  -- 2. A block is opened

  -- what stays when a block is opened or closed
  pub record Lasts (old new : Self) : Type 0 where
    pub serves : (w : m.World) → m.serves w new → m.serves w old
    -- what serves it can be made to serve more
    pub more : (w : m.World) → m.serves w old → (x : m.World) × m.serves x new
    pub imports : m.imports new ≡ m.imports old
    pub exports : m.exports new ≡ m.exports old
    pub arguments : m.arguments new ≡ m.arguments old
    pub knows : (types : List TypeDef) → m.knows old types → m.knows new types
    pub writes : (types : List TypeDef) (id : ℕ) → m.writes old types id → m.writes new types id
    pub target : (f : Function) → m.target new f ≡ m.target old f
    pub crosses : (w : m.World) (f : Function) → m.crosses w new f ≡ m.crosses w old f
    pub known : (w : m.World) (facts : Facts m) (s : m.State) → m.denotes w old facts s → m.denotes w new facts s
    pub asked : m.asked new ≡ m.asked old
    pub returned : m.returned new ≡ m.returned old
    pub uncalled : m.uncalled old → m.uncalled new

  -- the code is suspended, and that of the block is empty. What locals own is out of its reach: in the state in which it is entered its
  -- names are bound, its locals own no more than their items, and facts of words hold that hold outside and were there when it was opened
  pub record Pushes (old new : Self) : Type 0 where
    pub lasts : Lasts old new
    pub slot : m.Slot
    pub opened : m.opened new ≡ (slot, m.code old) ∷ m.opened old
    pub code : m.code new ≡ m.nothing
    pub blocks : m.blocks new ≡ m.blocks old
    pub account : (s : m.State) (with : Bound m.Item) → m.account (m.enter slot with s) ≡ m.account s
    pub owns : (s : m.State) (with : Bound m.Item) → SameItems (m.owns (m.enter slot with s)) (brought with)
    pub enters : (w : m.World) (later : Self) (facts : Facts m) (before s : m.State) (with : Bound m.Item) → AllByRecursion IsOfWord facts → m.denotes w old facts before → m.denotes w later facts s
        → m.denotes w new (names slot with ++ facts) (m.enter slot with s)
    -- the step became code of its form, in whichever table
    pub form : (types : List TypeDef) → m.forms types opens [] [] old new

  -- 3. It is closed

  -- where code stops, the block of it does
  abbrev pub StopsAlike : Outcome m.Item m.State → Outcome m.Item (Ended m.Item m.State) → Type 0
  StopsAlike (Done u) o = Unit {0}
  StopsAlike (Stopped e acc) o = o ≡ Stopped e acc
  StopsAlike (Stuck acc) o = Unit {0}

  -- the block gives these data, and leaves what it has done to the account; outside of it nothing else is changed
  pub record Gives (w : m.World) (p : Peer m.Item) (block : m.Block) (with : Bound m.Item) (s u : m.State) (ds : Data m) : Type 0 where
    pub state : m.State
    pub runs : m.runs w p block with s ≡ Done (record { results = ds; state = state })
    pub account : m.account state ≡ m.account u
    pub owns : SameItems (m.owns state) (m.owns s)
    pub denotes : (b : Self) (facts : Facts m) → m.denotes w b facts s → m.denotes w b facts state

  -- it makes the calls that its code makes. Where all that its locals own is in its results, it does no more than its code
  pub record Runs (block : m.Block) (slot : m.Slot) (os : List Operand) (old new : Self) : Type 0 where
    pub stops : (w : m.World) (p : Peer m.Item) (with : Bound m.Item) (s : m.State) → m.serves w new → StopsAlike (m.does w p (m.code old) (m.enter slot with s)) (m.runs w p block with s)
    pub calls : (w : m.World) (p : Peer m.Item) (with : Bound m.Item) (s : m.State) → m.serves w new
        → (account_in (λ e. m.account e.state) (m.runs w p block with s)).calls ≡ (account_in m.account (m.does w p (m.code old) (m.enter slot with s))).calls
    pub ends : (w : m.World) (p : Peer m.Item) (with : Bound m.Item) (s u : m.State) (ds : Data m) → m.serves w new → m.does w p (m.code old) (m.enter slot with s) ≡ Done u
        → length ds ≡ length os → m.denotes w old (ofs m os ds) u → SameItems (m.owns u) (flat_map owned_datum ds) → Gives w p block with s u ds

  -- the block is the last finished one, and the code that it suspended is gone on with
  pub record Finishes (os : List Operand) (old new : Self) : Type 0 where
    pub lasts : Lasts old new
    pub slot : m.Slot
    pub block : m.Block
    pub resumes : m.opened old ≡ (slot, m.code new) ∷ m.opened new
    pub blocks : m.blocks new ≡ block ∷ m.blocks old
    pub results : m.results_of block ≡ length os
    pub runs : Runs block slot os old new
    -- the step became code of its form, in whichever table
    pub form : (types : List TypeDef) → m.forms types closes os [] old new

  -- 4. Finished blocks that an instruction uses up

  -- it makes no call
  abbrev pub IsQuiet : Self → m.Block → Type 0
  IsQuiet b block = (w : m.World) (p : Peer m.Item) (with : Bound m.Item) (s : m.State) → m.serves w b → (account_in (λ e. m.account e.state) (m.runs w p block with s)).calls ≡ (m.account s).calls

  -- the first of these have so many results each
  abbrev pub AreFinished : Self → List ℕ → List m.Block → Type 0
  AreFinished b [] blocks = Unit {0}
  AreFinished b (k ∷ ks) [] = ⊥
  AreFinished b (k ∷ ks) (block ∷ blocks) = (m.results_of block ≡ k) × IsQuiet b block × AreFinished b ks blocks
