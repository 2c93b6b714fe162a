-- What each meaning keeps, and in which sense code that was added does an action.
use Rattle.std.specs.Prelude.{◌≡◌, ◌⊎◌, ℕ, suc, true, false, List, [], ◌∷◌, ◌++◌, length, map, Option, None, IfSome, option_to_list}
use Rattle.std.specs.List.{AllByRecursion}
use Rattle.wit_model.specs.Bytes.{Bytes}
use Rattle.wit_model.specs.declared.function.Function.{Function}
use Rattle.wit_model.specs.declared.name.Name.{Name as FunctionName}
use Rattle.wit_model.specs.declared.types.TypeDef.{TypeDef}
use Rattle.wrapper_data.specs.declared.block.Block.{Block}
use Rattle.wrapper_data.specs.declared.run.Target.TheVariants as target
use Rattle.wrapper_data.specs.declared.value.RustValue.{RustValue}
use Rattle.wrapper_data.specs.declared.word.Word.{Word}
use Rattle.wrapper_data.specs.declared.word.Word.TheVariants as core
use Rattle.wrapper_meaning.specs.Direction.{give, lend, take}
use Rattle.wrapper_meaning.specs.InRange.{IsListed}
use Rattle.wrapper_meaning.specs.Items.{AllIn, SameItems}
use Rattle.wrapper_meaning.specs.Kinds.{has_own_handle}
use Rattle.wrapper_meaning.specs.Shape.{Shape}
use Rattle.wrapper_meaning.specs.StandsFor.{Stands}
use Rattle.wrapper_meaning.specs.Value.{Value}
use Rattle.abi_bindgen.specs.declared.bindgen.Asked.{Asked}
use Rattle.abi_bindgen.specs.Account.{Account, Act, Done, Follows, Got, Peer, Stops, account_in, addresses, stay}
use Rattle.abi_bindgen.specs.Area.{HoldsRecord, MayStand, newly, pointing}
use Rattle.abi_bindgen.specs.Meaning.{Datum, Fact, Meaning, Name, arg, bound, item, of, word}
use Rattle.abi_bindgen.specs.Sent.{asks}

module _ {Self Operand : Type 0} (m : Meaning Self Operand) where
  abbrev pub Facts : Type 0
  Facts = List (Fact Operand m.Slot m.Item)

  abbrev pub Data : Type 0
  Data = List (Datum m.Item)

  -- these operands denote these data
  abbrev pub ofs : List Operand → Data → Facts
  ofs [] ds = []
  ofs (o ∷ os) [] = []
  ofs (o ∷ os) (d ∷ ds) = of o d ∷ ofs os ds

  -- the arguments, from one on
  abbrev pub args : ℕ → Data → Facts
  args n [] = []
  args n (d ∷ ds) = arg n d ∷ args (suc n) ds

  abbrev pub core_data : List Word → Data
  core_data ws = map (λ w. word w) ws

  abbrev pub item_data : List m.Item → Data
  item_data vals = map (λ a. item a) vals

  -- 1. The meaning is one

  pub record Sound : Type 0 where
    -- a pointer has four bytes, or eight
    pub wide : (m.width ≡ 2) ⊎ (m.width ≡ 3)
    -- facts hold in any order, and fewer of them hold too
    pub swap : (w : m.World) (b : Self) (one two others : Facts) (s : m.State) → m.denotes w b (one ++ (two ++ others)) s → m.denotes w b (two ++ (one ++ others)) s
    pub fewer : (w : m.World) (b : Self) (some others : Facts) (s : m.State) → m.denotes w b (some ++ others) s → m.denotes w b others s
    -- the area of a whole that serves has room for each record for which it was asked for
    pub room : (w : m.World) (b : Self) → m.serves w b → AllByRecursion (HoldsRecord m.width (m.area w)) (m.asked b)
    -- an operand denotes one word at most, and one value at most; a word may be a value too
    pub one_word : (w : m.World) (b : Self) (o : Operand) (x y : Word) (s : m.State) → m.denotes w b (of o (word x) ∷ []) s → m.denotes w b (of o (word y) ∷ []) s → x ≡ y
    pub one_item : (w : m.World) (b : Self) (o : Operand) (x y : m.Item) (s : m.State) → m.denotes w b (of o (item x) ∷ []) s → m.denotes w b (of o (item y) ∷ []) s → x ≡ y
    -- a word may be read again
    pub again : (w : m.World) (b : Self) (o : Operand) (x : Word) (facts : Facts) (s : m.State) → m.denotes w b (of o (word x) ∷ facts) s → m.denotes w b (of o (word x) ∷ of o (word x) ∷ facts) s
    pub arg_again : (w : m.World) (b : Self) (n : ℕ) (x : Word) (facts : Facts) (s : m.State) → m.denotes w b (arg n (word x) ∷ facts) s → m.denotes w b (arg n (word x) ∷ arg n (word x) ∷ facts) s
    pub bound_again : (w : m.World) (b : Self) (slot : m.Slot) (name : Name) (x : Word) (facts : Facts) (s : m.State) → m.denotes w b (bound slot name (word x) ∷ facts) s → m.denotes w b (bound slot name (word x) ∷ bound slot name (word x) ∷ facts) s
    -- no code does nothing
    pub nothing : (w : m.World) (f : Peer m.Item) (s : m.State) → m.does w f m.nothing s ≡ Done s
    -- an item with its blocks stands for one value
    pub determined : (t : Shape) (v u : Value t) (a : m.Item) (own : List Block) → IsListed t v → IsListed t u → m.stands take t v a own → m.stands take t u a own → v ≡ u
    -- what was taken over may be given on, and what may be given may be taken over
    pub given : (t : Shape) (v : Value t) (a : m.Item) (own : List Block) → m.stands take t v a own → m.stands give t v a own
    pub taken : (t : Shape) (v : Value t) (a : m.Item) (own : List Block) → m.stands give t v a own → m.stands take t v a own
    -- what is lent has no blocks of its own
    pub bare : (t : Shape) (v : Value t) (a : m.Item) (given own : List Block) → m.stands (lend given) t v a own → own ≡ []
    -- an item that was taken over owns exactly its blocks, and one that is lent none
    pub owned : (t : Shape) (v : Value t) (a : m.Item) (own : List Block) → m.stands take t v a own → SameItems (m.owned a) (addresses own)
    pub lent : (t : Shape) (v : Value t) (a : m.Item) (given own : List Block) → m.stands (lend given) t v a own → m.owned a ≡ []
    -- whatever stands for a value on the Rust side has an item that does, with the same blocks
    pub inhabited : (t : Shape) (v : Value t) (r : RustValue) (own : List Block) → Stands m.width take t v r own → (a : m.Item) × m.stands take t v a own
    -- and what owns its blocks may be lent in each heap that has them, unless a handle in it is its own
    pub lends : (heap : List Block) (t : Shape) (v : Value t) (a : m.Item) (own : List Block) → has_own_handle t ≡ false → AllIn heap own → m.stands take t v a own → (c : m.Item) × m.stands (lend heap) t v c []
    -- a function has its own target: of one module the core import of its name, or of one trait the method of its name
    pub core : (b : Self) → m.imports b ≡ true → (home : Bytes) × ((f : Function) → m.target b f ≡ target.Core home f.name.wit)
    pub method : (b : Self) → m.exports b ≡ true → (home : Bytes) × (named : FunctionName → Bytes) × ((f : Function) → m.target b f ≡ target.Method home (named f.name))

  -- data that may be given to code: words, and items that are lent
  abbrev pub AreLent : Data → Type 0
  AreLent [] = Unit {0}
  AreLent (word x ∷ ds) = AreLent ds
  AreLent (item a ∷ ds) = (given : List Block) × (t : Shape) × (v : Value t) × m.stands (lend given) t v a [] × AreLent ds

  abbrev pub IsCount : Option ℕ → ℕ → Type 0
  IsCount limit n = IfSome limit (λ k. k ≡ n)

  -- a `Bindgen` at its beginning: it has no code, and there is a whole that serves it, in which code can be run from a state for each
  -- account in which nothing but the area has an owner, and for any arguments
  pub record IsNew (b : Self) : Type 0 where
    pub empty : m.code b ≡ m.nothing
    pub endless : m.returned b ≡ None
    pub unasked : m.asked b ≡ []
    pub closed : m.opened b ≡ []
    pub unfinished : m.blocks b ≡ []
    pub uncalled : m.uncalled b
    pub world : m.World
    pub serves : m.serves world b
    pub start : (w : m.World) (ds : Data) (acc : Account m.Item) (at : Option ℕ) → m.serves w b → IsCount (m.arguments b) (length ds) → AreLent ds → MayStand (m.imports b) (m.area w) at acc.heap → acc.taken ≡ option_to_list at → acc.guarded ≡ []
        → (s : m.State) × (m.account s ≡ acc) × (m.owns s ≡ option_to_list at) × (m.area_at s ≡ at) × m.denotes w b (args 0 ds) s

  -- a `Bindgen` of which a function's code may be asked for: no block is open, the area was not asked for, and no method was called
  pub record IsFresh (b : Self) : Type 0 where
    pub closed : m.opened b ≡ []
    pub unasked : m.asked b ≡ []
    pub uncalled : m.uncalled b

  -- 2. Code is added

  pub record Grows (old new : Self) : Type 0 where
    pub serves : (w : m.World) → m.serves w new → m.serves w old
    -- what serves it can be made to serve more
    pub more : (w : m.World) → m.serves w old → (x : m.World) × m.serves x new
    pub stops : (w : m.World) (f : Peer m.Item) (s : m.State) → m.serves w new → Stops m.account (m.does w f (m.code old) s) (m.does w f (m.code new) s)
    pub imports : m.imports new ≡ m.imports old
    pub exports : m.exports new ≡ m.exports old
    pub arguments : m.arguments new ≡ m.arguments old
    pub knows : (types : List TypeDef) → m.knows old types → m.knows new types
    pub writes : (types : List TypeDef) (id : ℕ) → m.writes old types id → m.writes new types id
    pub target : (f : Function) → m.target new f ≡ m.target old f
    pub crosses : (w : m.World) (f : Function) → m.crosses w new f ≡ m.crosses w old f
    pub opened : m.opened new ≡ m.opened old
    -- what was known of a state is known of it still
    pub known : (w : m.World) (facts : Facts) (s : m.State) → m.denotes w old facts s → m.denotes w new facts s

  -- code that is no call makes none, from whatever state
  abbrev pub Quiet : (old new : Self) → Type 0
  Quiet old new = (w : m.World) (f : Peer m.Item) (s : m.State) → m.serves w new → (account_in m.account (m.does w f (m.code new) s)).calls ≡ (account_in m.account (m.does w f (m.code old) s)).calls

  -- where no method was called before, none is called still
  abbrev pub StaysUncalled : (old new : Self) → Type 0
  StaysUncalled old new = m.uncalled old → m.uncalled new

  -- code was added that makes no call, does not ask for the area, and leaves the finished blocks
  pub record Adds (old new : Self) : Type 0 where
    pub grows : Grows old new
    pub quiet : Quiet old new
    pub uncalled : StaysUncalled old new
    pub asked : m.asked new ≡ m.asked old
    pub blocks : m.blocks new ≡ m.blocks old

  -- 3. It does an action

  -- a state to which the earlier code came, and in which these facts hold
  pub record At (w : m.World) (f : Peer m.Item) (old new : Self) (facts : Facts) (s0 s : m.State) : Type 0 where
    pub serves : m.serves w new
    pub done : m.does w f (m.code old) s0 ≡ Done s
    pub holds : m.denotes w old facts s

  -- after an action on a state, which made and let go owners of blocks
  pub record After {A : Type 0} (w : m.World) (new : Self) (facts : Facts) (made gone : List ℕ) (s : m.State) (x : Got m.Item A) (t : m.State) : Type 0 where
    pub account : m.account t ≡ x.account
    pub owns : SameItems (m.owns t ++ gone) (m.owns s ++ made)
    pub denotes : m.denotes w new facts t

  -- the new code follows the action, and besides the other facts such hold as are told by its result
  abbrev pub Does : (A : Type 0) → (old new : Self) → (ins : Facts) → (Peer m.Item → Act m.Item A) → (A → Facts → Type 0) → (made gone : A → List ℕ) → Type 0
  Does A old new ins act Outs made gone =
      (w : m.World) (f : Peer m.Item) (others : Facts) (s0 s : m.State) → At w f old new (ins ++ others) s0 s →
      Follows m.account (act f (m.account s)) (m.does w f (m.code new) s0)
      (λ x t. (outs : Facts) × Outs x.result outs × After w new (outs ++ others) (made x.result) (gone x.result) s x t)

  -- nothing but what operands denote is changed
  abbrev pub Stays : (old new : Self) → (ins : Facts) → (Facts → Type 0) → Type 0
  Stays old new ins Outs = Does (Unit {0}) old new ins (λ f. stay) (λ x fs. Outs fs) (λ x. []) (λ x. [])

  -- 4. The area

  -- an operand denotes the address of the area, which has room for one more record. It stands already, or it is asked for the first time
  pub record PointsTo (a : Asked) (o : Operand) (old new : Self) : Type 0 where
    pub grows : Grows old new
    pub quiet : Quiet old new
    pub returned : m.returned new ≡ m.returned old
    pub asked : m.asked new ≡ m.asked old ++ a ∷ []
    pub blocks : m.blocks new ≡ m.blocks old
    -- the step became code of its form, in whichever table
    pub form : (types : List TypeDef) → m.forms types (asks a) [] (o ∷ []) old new
    pub row : (w : m.World) (f : Peer m.Item) (others : Facts) (s0 s : m.State) (at : Option ℕ) → At w f old new others s0 s → m.area_at s0 ≡ at → (at ≡ None → (m.exports old ≡ true) × (m.asked old ≡ []))
        → Follows m.account (pointing (m.area w) at (m.account s)) (m.does w f (m.code new) s0)
        (λ x t. After w new (of o (word (core.Pointer x.result)) ∷ others) (newly at x.result) [] s x t)
