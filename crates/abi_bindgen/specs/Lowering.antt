-- What is known behind code that lowers values: what it asked for, which blocks were made, who owns them, and what its words say.
use Rattle.std.specs.Prelude.{◌≡◌, ℕ, Bool, true, false, List, [], ◌∷◌, ◌++◌, drop, length, map}
use Rattle.wrapper_data.specs.Heap.{is_heap}
use Rattle.wrapper_data.specs.declared.block.Block.{Block}
use Rattle.wrapper_data.specs.declared.choice.Request.{Request}
use Rattle.wrapper_data.specs.declared.word.Word.{Word}
use Rattle.wrapper_meaning.specs.AsWords.{Saying}
use Rattle.wrapper_meaning.specs.Direction.{Direction, give, make}
use Rattle.wrapper_meaning.specs.Items.{SameItems}
use Rattle.abi_bindgen.specs.Account.{Account, Peer, addresses, is_taken, without}
use Rattle.abi_bindgen.specs.Early.{Comes}
use Rattle.abi_bindgen.specs.Laws.{At, Facts, core_data, ofs}
use Rattle.abi_bindgen.specs.Meaning.{Meaning}

-- 1. Owners

-- each of these blocks has an owner, and those are left when they are let go, one after another
abbrev pub Releases : List ℕ → (taken left : List ℕ) → Type 0
Releases [] taken left = left ≡ taken
Releases (a ∷ places) taken left = (is_taken a taken ≡ true) × Releases places (without a taken) left

-- with realloc nobody owns the blocks that were made. Without it guards do, till the code ends
abbrev pub taken_with : (realloc : Bool) → (made : List Block) → (left : List ℕ) → List ℕ
taken_with false made left = left ++ addresses made
taken_with true made left = left

abbrev pub kept_with : (realloc : Bool) → (made : List Block) → (guarded : List ℕ) → List ℕ
kept_with false made guarded = guarded ++ addresses made
kept_with true made guarded = guarded

-- 2. The account

-- with realloc values are given away. Without it what was lent stays where it is, and what was made is named
abbrev pub said : (realloc : Bool) → List Block → Direction
said false given = make given
said true given = give

-- one block for each request, of its size, in the same order
abbrev pub AreMadeFor : (due : List Request) → (made : List Block) → Type 0
AreMadeFor due made = map (λ b. b.size) made ≡ map (λ r. r.size) due

-- all that is due was asked for and made, and owners were let go
abbrev pub by_lowering : {V : Type 0} → (realloc : Bool) → (made : List Block) → (left : List ℕ) → (due : List Request) → Account V → Account V
by_lowering realloc made left due acc =
    record acc {
      heap = record { blocks = acc.heap.blocks ++ made };
      choices = drop (length due) acc.choices;
      requests = acc.requests ++ due;
      taken = taken_with realloc made left;
      guarded = kept_with realloc made acc.guarded;
    }

-- the words say something. Its blocks are those that were made and those that were owned, in their order where none was made
pub record LoweredBy {V : Type 0} (realloc : Bool) (Say : Saying) (own : List Block) (left : List ℕ) (due : List Request) (ws : List Word) (before after : Account V) : Type 0 where
  pub made : List Block
  pub blocks : List Block
  pub says : Say ws blocks
  pub split : SameItems blocks (made ++ own)
  pub same : made ≡ [] → blocks ≡ own
  pub each : AreMadeFor due made
  pub account : after ≡ by_lowering realloc made left due before
  pub formed : is_heap after.heap ≡ true

-- 3. The code

module _ {Self Operand : Type 0} (m : Meaning Self Operand) where
  -- a state in which operands denote these words. What locals owned of the items they own no more
  pub record Lowered (realloc : Bool) (Say : Saying) (own : List Block) (left : List ℕ) (due : List Request) (os : List Operand) (w : m.World) (new : Self) (others : Facts m) (s t : m.State) : Type 0 where
    pub ws : List Word
    pub fits : length ws ≡ length os
    pub lowered : LoweredBy realloc Say own left due ws (m.account s) (m.account t)
    pub owns : SameItems (m.owns t ++ addresses own) (m.owns s)
    pub denotes : m.denotes w new (ofs m os (core_data m ws) ++ others) t

  -- in a well-formed heap, from facts of items with these blocks, the code comes to operands of words, or ends early at a request that is due
  abbrev pub Passes : (realloc : Bool) → (Say : Saying) → (ins : Facts m) → (own : List Block) → (due : List Request) → (os : List Operand) → (old new : Self) → Type 0
  Passes realloc Say ins own due os old new =
      (w : m.World) (p : Peer m.Item) (others : Facts m) (s0 s : m.State) (left : List ℕ) → At m w p old new (ins ++ others) s0 s
      → is_heap (m.account s).heap ≡ true → Releases (addresses own) (m.account s).taken left
      → Comes true due (m.account s) (m.does w p (m.code new) s0) (Lowered realloc Say own left due os w new others s)
