-- In which direction a value goes, and where its texts, lists and maps then lie: in blocks that someone else has, or in its own.
use Rattle.std.specs.Prelude.{◌≡◌, ℕ, ◌+◌, ◌<◌, ◌≤◌, Bool, true, false, List, [], ◌∷◌, Contains}
use Rattle.wrapper_data.specs.declared.block.Block.{Block}

-- lend: the arguments of an import, in a heap of these blocks. Give: the result of an export. Take: the result of an import and
-- the arguments of an export. Make: as lend, told more closely, with the blocks that a wrapper makes of what is lent to it
pub data Direction : Type 0 where
  lend : List Block → Direction
  give : Direction
  take : Direction
  make : List Block → Direction

-- so many bytes at an address lie in a block of these, from an offset on, and no block is the value's own
pub record LiesIn (blocks : List Block) (address size : ℕ) (b : Block) (offset : ℕ) (own : List Block) : Type 0 where
  pub there : Contains blocks b
  pub starts : address ≡ b.address + offset
  pub room : offset + size ≤ b.size
  pub none : own ≡ []

-- they are a block of exactly this address and size, which is the value's own
pub record IsOwn (address size : ℕ) (b : Block) (offset : ℕ) (own : List Block) : Type 0 where
  pub starts : b.address ≡ address
  pub exact : b.size ≡ size
  pub whole : offset ≡ 0
  pub itself : own ≡ b ∷ []

-- what is lent lies in a block of the heap; what is given or taken is a block of its own. Of what is made, a text or a list that lies
-- in memory as it is stays where it was lent; the Bool says that. Any other list or map of it has a block of its own
abbrev pub IsHeld : Direction → Bool → (address size : ℕ) → Block → ℕ → List Block → Type 0
IsHeld (lend blocks) plain address size b offset own = LiesIn blocks address size b offset own
IsHeld give plain address size b offset own = IsOwn address size b offset own
IsHeld take plain address size b offset own = IsOwn address size b offset own
IsHeld (make blocks) true address size b offset own = LiesIn blocks address size b offset own
IsHeld (make blocks) false address size b offset own = IsOwn address size b offset own

-- what is taken is never at address 0, also where it has no entries
abbrev pub IsTakeable : Direction → ℕ → Type 0
IsTakeable take address = 0 < address
IsTakeable _ address = Unit {0}
