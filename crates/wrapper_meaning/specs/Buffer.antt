-- When a text, a list or a map lies at an address, and which blocks are then its own.
use Rattle.std.specs.Prelude.{◌≡◌, ℕ, zero, suc, ◌*◌, ◌%◌, ◌^◌, ◌<◌, Bool, List, [], ◌++◌}
use Rattle.wit_layout.specs.Extent.{Extent}
use Rattle.wrapper_data.specs.declared.block.Block.{Block}
use Rattle.wrapper_meaning.specs.Direction.{Direction, IsHeld, IsTakeable}

-- the bytes of a block from an offset on hold something, which has these blocks
abbrev pub Contents : Type 1
Contents = Block → ℕ → List Block → Type 0

-- two things after one another, each with blocks of its own
abbrev pub Both : (one two : List Block → Type 0) → List Block → Type 0
Both one two blocks = (first : List Block) × (rest : List Block) × one first × two rest × (blocks ≡ first ++ rest)

-- `plain`: a text, or a list that lies in memory as it is
module _ (dir : Direction) (plain : Bool) where
  -- bytes at an address lie in a block and hold something. Its blocks are that block, where it is its own, and those of its contents
  pub record InBlock (address size : ℕ) (inside : Contents) (blocks : List Block) : Type 0 where
    pub block : Block
    pub offset : ℕ
    pub own : List Block
    pub inner : List Block
    pub held : IsHeld dir plain address size block offset own
    pub holds : inside block offset inner
    pub all : blocks ≡ own ++ inner

  -- so many entries, of so many bytes each; where there are none, there is no block
  abbrev pub IsPlaced : (address entries size : ℕ) → Contents → List Block → Type 0
  IsPlaced address zero size inside blocks = IsTakeable dir address × (blocks ≡ [])
  IsPlaced address (suc n) size inside blocks = InBlock address (suc n * size) inside blocks

  -- at an address are so many entries of an extent: aligned, and at most 2^31 - 1 bytes
  pub record IsBuffer (address entries : ℕ) (e : Extent) (inside : Contents) (blocks : List Block) : Type 0 where
    pub aligned : address % 2 ^ e.grain ≡ 0
    pub bounded : entries * e.bytes < 2 ^ 31
    pub placed : IsPlaced address entries e.bytes inside blocks
