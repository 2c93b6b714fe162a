-- What the code is by which values are read from memory.
use Rattle.std.specs.Prelude.{◌≡◌, ℕ, List, [], ◌∷◌}
use Rattle.wit_model.specs.declared.size.ArchitectureSize.{ArchitectureSize}
use Rattle.wrapper_data.specs.declared.block.Block.{Block}
use Rattle.wrapper_data.specs.declared.word.Word.TheVariants as core
use Rattle.wrapper_meaning.specs.Direction.{take}
use Rattle.wrapper_meaning.specs.InMemory.{Holds, PartsHold}
use Rattle.wrapper_meaning.specs.InRange.{AreListed, IsListed}
use Rattle.wrapper_meaning.specs.Settled.{all_settled}
use Rattle.wrapper_meaning.specs.Shape.{Shape, Shapes}
use Rattle.wrapper_meaning.specs.Value.{Parts, Value}
use Rattle.abi_bindgen.specs.Account.{Peer}
use Rattle.abi_bindgen.specs.Laws.{Adds, At, Facts}
use Rattle.abi_bindgen.specs.Lifts.{OneStands}
use Rattle.abi_bindgen.specs.Meaning.{Meaning, of, word}
use Rattle.abi_bindgen.specs.Parts.{PartsStand}
use Rattle.abi_bindgen.specs.Places.{HasRoom, HavePlaces}
use Rattle.abi_bindgen.specs.Touches.{reached}
use Rattle.abi_bindgen.specs.Lifting.{Gets}
use Rattle.abi_bindgen.specs.Frees.{MayFree}
use Rattle.wrapper_meaning.specs.Requests.{part_requests, requests, room_for}

module _ {Self Operand : Type 0} (m : Meaning Self Operand) where
  -- an operand that denotes an address becomes one of the value that stands at an offset from it. Blocks of the value are taken over, or gone
  pub record LiftsFromMemory (t : Shape) (address : Operand) (offset : ArchitectureSize) (r : Operand) (old new : Self) : Type 0 where
    pub adds : Adds m old new
    -- so far no code is made for what asks for room
    pub asks_nothing : (v : Value t) → requests m.width room_for t v ≡ []
    pub row : (v : Value t) (blocks : List Block) → IsListed t v → (w : m.World) (f : Peer m.Item) (others : Facts m) (s0 s : m.State) (q k : ℕ) (b : Block)
        → At m w f old new (of address (word (core.Pointer q)) ∷ others) s0 s → HasRoom m.width t (reached m q offset) b k (m.account s).heap → Holds m.width take t v b k blocks → MayFree blocks b (m.account s)
        → Gets m (OneStands m t v) blocks (requests m.width room_for t v) (r ∷ []) new w f others s0 s

  -- the same of parts, of which the first comes behind so many bytes
  pub record LoadsParts (ts : Shapes) (address : Operand) (offset : ArchitectureSize) (behind : ℕ) (rs : List Operand) (old new : Self) : Type 0 where
    pub adds : Adds m old new
    pub asks_nothing : (v : Parts ts) → part_requests m.width room_for ts v ≡ []
    pub row : (v : Parts ts) (blocks : List Block) → AreListed ts v → (w : m.World) (f : Peer m.Item) (others : Facts m) (s0 s : m.State) (q k : ℕ) (b : Block)
        → At m w f old new (of address (word (core.Pointer q)) ∷ others) s0 s → HavePlaces m.width ts behind (reached m q offset) b k (m.account s).heap → PartsHold m.width take ts v behind b k blocks → MayFree blocks b (m.account s)
        → Gets m (PartsStand m take ts (all_settled ts v)) blocks (part_requests m.width room_for ts v) rs new w f others s0 s
