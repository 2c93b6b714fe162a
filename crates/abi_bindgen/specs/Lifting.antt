-- What is known behind code that lifts values: what it asked for, which blocks its items own, and which are gone.
use Rattle.std.specs.Prelude.{◌≡◌, true, false, List, [], ◌++◌, drop, length}
use Rattle.wrapper_data.specs.Heap.{is_heap}
use Rattle.wrapper_data.specs.declared.block.Block.{Block}
use Rattle.wrapper_data.specs.declared.choice.Request.{Request}
use Rattle.wrapper_meaning.specs.Items.{SameItems}
use Rattle.abi_bindgen.specs.Account.{Account, Peer, addresses}
use Rattle.abi_bindgen.specs.Early.{Comes}
use Rattle.abi_bindgen.specs.Laws.{Facts, item_data, ofs}
use Rattle.abi_bindgen.specs.Meaning.{Meaning}
use Rattle.abi_bindgen.specs.Memory.{without_blocks}

-- 1. The account

-- room was asked for as is due; some blocks were freed, and others were taken over
abbrev pub by_lifting : {V : Type 0} → (gone own : List Block) → (due : List Request) → Account V → Account V
by_lifting gone own due acc =
    record acc {
      heap = record { blocks = without_blocks gone acc.heap.blocks };
      choices = drop (length due) acc.choices;
      requests = acc.requests ++ due;
      taken = acc.taken ++ addresses own;
    }

-- of the blocks of what was read some are the items' own, in their order where none is gone. The others held the entries of lists and
-- maps, for each of which room was asked for, and are gone
pub record LiftedBy {V : Type 0} (blocks own : List Block) (due : List Request) (before after : Account V) : Type 0 where
  pub gone : List Block
  pub split : SameItems blocks (own ++ gone)
  pub same : gone ≡ [] → blocks ≡ own
  pub each : length gone ≡ length due
  pub account : after ≡ by_lifting gone own due before
  pub formed : is_heap after.heap ≡ true

-- 2. The code

module _ {Self Operand : Type 0} (m : Meaning Self Operand) where
  -- a state in which operands denote items that stand for something, with blocks of their own
  pub record Lifted (Stands : List m.Item → List Block → Type 0) (blocks : List Block) (due : List Request) (rs : List Operand) (w : m.World) (new : Self) (others : Facts m) (s t : m.State) : Type 0 where
    pub vals : List m.Item
    pub own : List Block
    pub stands : Stands vals own
    pub lifted : LiftedBy blocks own due (m.account s) (m.account t)
    pub owns : SameItems (m.owns t) (m.owns s ++ addresses own)
    pub denotes : m.denotes w new (ofs m rs (item_data m vals) ++ others) t

  -- the code comes to operands of items, or ends early at a request that is due
  abbrev pub Gets : (Stands : List m.Item → List Block → Type 0) → (blocks : List Block) → (due : List Request) → (rs : List Operand) → (new : Self) → m.World → Peer m.Item → Facts m → (s0 s : m.State) → Type 0
  Gets Stands blocks due rs new w f others s0 s = Comes false due (m.account s) (m.does w f (m.code new) s0) (Lifted Stands blocks due rs w new others s)
