-- What the code is by which values are put into memory.
use Rattle.std.specs.Prelude.{◌≡◌, ℕ, ◌-◌, ◌+◌, Bool, true, false, List, [], ◌∷◌, ◌++◌}
use Rattle.wit_model.specs.declared.size.ArchitectureSize.{ArchitectureSize}
use Rattle.wit_layout.specs.Extent.{end}
use Rattle.wit_layout.specs.Sizes.{elem_size, extents_of}
use Rattle.wrapper_data.specs.Heap.{is_heap}
use Rattle.wrapper_data.specs.declared.block.Block.{Block}
use Rattle.wrapper_data.specs.declared.choice.Request.{Request}
use Rattle.wrapper_data.specs.declared.word.Word.TheVariants as core
use Rattle.wrapper_meaning.specs.Buffer.{Contents}
use Rattle.wrapper_meaning.specs.InMemory.{Holds, PartsHold}
use Rattle.wrapper_meaning.specs.InRange.{AreListed, IsListed}
use Rattle.wrapper_meaning.specs.Items.{SameItems}
use Rattle.wrapper_meaning.specs.Layout.{layout, layouts}
use Rattle.wrapper_meaning.specs.Requests.{block_for, part_requests, requests}
use Rattle.wrapper_meaning.specs.Shape.{Shape, Shapes}
use Rattle.wrapper_meaning.specs.Value.{Parts, Value}
use Rattle.abi_bindgen.specs.Account.{Account, Peer, addresses}
use Rattle.abi_bindgen.specs.Early.{Comes}
use Rattle.abi_bindgen.specs.Frees.{nowhere}
use Rattle.abi_bindgen.specs.Laws.{Adds, At, Facts, args, item_data, ofs}
use Rattle.abi_bindgen.specs.Leaves.{way}
use Rattle.abi_bindgen.specs.Lowering.{AreMadeFor, Releases, by_lowering, said}
use Rattle.abi_bindgen.specs.Meaning.{Meaning, item, of, word}
use Rattle.abi_bindgen.specs.Parts.{PartsStand}
use Rattle.abi_bindgen.specs.Places.{HasRoom, HavePlaces, IsWritten, replaced}
use Rattle.abi_bindgen.specs.Touches.{reached}

-- the block in which something was stored, in so many bytes from an offset on
pub record Stored (Held : Contents) (from size : ℕ) (b : Block) (k : ℕ) (own : List Block) (after : Block) : Type 0 where
  pub written : IsWritten from size b after
  pub holds : Held after k own

-- a block was written, beside what lowering does
abbrev pub by_putting : {V : Type 0} → (realloc : Bool) → (after : Block) → (made : List Block) → (left : List ℕ) → (due : List Request) → Account V → Account V
by_putting realloc after made left due acc = record (by_lowering realloc made left due acc) { heap = record { blocks = replaced after acc.heap.blocks ++ made } }

-- something stands in a block. Its own blocks are those that were made and those that were owned, in their order where none was made
pub record PutBy {V : Type 0} (realloc : Bool) (Held : Contents) (from size : ℕ) (b : Block) (k : ℕ) (own : List Block) (left : List ℕ) (due : List Request) (before after : Account V) : Type 0 where
  pub block : Block
  pub made : List Block
  pub blocks : List Block
  pub stored : Stored Held from size b k blocks block
  pub split : SameItems blocks (made ++ own)
  pub same : made ≡ [] → blocks ≡ own
  pub each : AreMadeFor due made
  pub account : after ≡ by_putting realloc block made left due before
  pub formed : is_heap after.heap ≡ true

module _ {Self Operand : Type 0} (m : Meaning Self Operand) where
  -- the state behind that. What locals owned of the items they own no more
  pub record Put (realloc : Bool) (Held : Contents) (from size : ℕ) (b : Block) (k : ℕ) (own : List Block) (left : List ℕ) (due : List Request) (w : m.World) (new : Self) (others : Facts m) (s t : m.State) : Type 0 where
    pub puts : PutBy realloc Held from size b k own left due (m.account s) (m.account t)
    pub owns : SameItems (m.owns t ++ addresses own) (m.owns s)
    pub denotes : m.denotes w new others t

  -- the code stores something in a block, and lets go of what that owned; or it ends early at a request that is due
  abbrev pub Puts : (realloc : Bool) → (Held : Contents) → (from size : ℕ) → (b : Block) → (k : ℕ) → (own : List Block) → (left : List ℕ) → (due : List Request) → (new : Self) → m.World → Peer m.Item → Facts m → (s0 s : m.State) → Type 0
  Puts realloc Held from size b k own left due new w f others s0 s =
      Comes true due (m.account s) (m.does w f (m.code new) s0) (Put realloc Held from size b k own left due w new others s)

  -- operands that denote an item and an address are used up, and the item's value stands at an offset from the address. Without realloc
  -- it is lent, with it given away
  pub record LowersToMemory (realloc : Bool) (t : Shape) (o address : Operand) (offset : ArchitectureSize) (old new : Self) : Type 0 where
    pub adds : Adds m old new
    -- so far no code is made for what asks for blocks
    pub asks_nothing : (v : Value t) → requests m.width block_for t v ≡ []
    pub row : (given : List Block) (v : Value t) (a : m.Item) (own : List Block) → IsListed t v → m.stands (way realloc given) t v a own
        → (w : m.World) (f : Peer m.Item) (others : Facts m) (s0 s : m.State) (q k : ℕ) (b : Block) (left : List ℕ)
        → At m w f old new (of o (item a) ∷ of address (word (core.Pointer q)) ∷ others) s0 s → HasRoom m.width t (reached m q offset) b k (m.account s).heap → Releases (addresses own) (m.account s).taken left
        → Puts realloc (Holds m.width (said realloc given) t v) k (elem_size m.width (layout t)) b k own left (requests m.width block_for t v) new w f others s0 s

  -- the same of parts, of which the first comes behind so many bytes, and which stand in such facts
  pub record StoresFrom (realloc : Bool) (ts : Shapes) (Ins : List m.Item → Facts m) (address : Operand) (offset : ArchitectureSize) (behind : ℕ) (old new : Self) : Type 0 where
    pub adds : Adds m old new
    pub asks_nothing : (v : Parts ts) → part_requests m.width block_for ts v ≡ []
    pub row : (given : List Block) (v : Parts ts) (vals : List m.Item) (own : List Block) → AreListed ts v → PartsStand m (way realloc given) ts v vals own
        → (w : m.World) (f : Peer m.Item) (others : Facts m) (s0 s : m.State) (q k : ℕ) (b : Block) (left : List ℕ)
        → At m w f old new (Ins vals ++ of address (word (core.Pointer q)) ∷ others) s0 s → HavePlaces m.width ts behind (reached m q offset) b k (m.account s).heap → Releases (addresses own) (m.account s).taken left
        → Puts realloc (PartsHold m.width (said realloc given) ts v behind) (k + behind) (end (extents_of m.width (layouts ts)) behind - behind) b k own left (part_requests m.width block_for ts v) new w f others s0 s

  -- the parts are those that operands denote, or arguments, from one on
  abbrev pub StoresParts : Bool → Shapes → (parts : List Operand) → Operand → ArchitectureSize → ℕ → (old new : Self) → Type 0
  StoresParts realloc ts parts address offset behind old new = StoresFrom realloc ts (λ vals. ofs m parts (item_data m vals)) address offset behind old new

  abbrev pub StoresArguments : Shapes → (first : ℕ) → Operand → ℕ → (old new : Self) → Type 0
  StoresArguments ts first address behind old new = StoresFrom false ts (λ vals. args m first (item_data m vals)) address nowhere behind old new
