-- What the code is by which values become core words.
use Rattle.std.specs.Prelude.{◌≡◌, ℕ, Bool, true, List, [], ◌∷◌, length, Option, None, Some}
use Rattle.wrapper_data.specs.declared.block.Block.{Block}
use Rattle.wrapper_data.specs.declared.word.Word.{Word}
use Rattle.wit_layout.specs.Flat.{flatten_record, flatten_type}
use Rattle.wrapper_meaning.specs.AsWords.{PartsSay, Says}
use Rattle.wrapper_meaning.specs.InRange.{AreListed, IsListed}
use Rattle.wrapper_meaning.specs.Layout.{layout, layouts}
use Rattle.wrapper_meaning.specs.Requests.{block_for, part_requests, requests}
use Rattle.wrapper_meaning.specs.Shape.{Shape, Shapes}
use Rattle.wrapper_meaning.specs.Value.{Parts, Value}
use Rattle.wrapper_meaning.specs.Words.{AreWords}
use Rattle.abi_bindgen.specs.Laws.{Adds, args, item_data, ofs}
use Rattle.abi_bindgen.specs.Leaves.{way}
use Rattle.abi_bindgen.specs.Lowering.{Passes, said}
use Rattle.abi_bindgen.specs.Meaning.{Meaning, item}
use Rattle.abi_bindgen.specs.Parts.{PartsStand}

module _ {Self Operand : Type 0} (m : Meaning Self Operand) where
  -- words that say a value of a shape are words of its core types
  abbrev pub AreRanged : (realloc : Bool) → Shape → Type 0
  AreRanged realloc t =
      (given : List Block) (v : Value t) (ws : List Word) (blocks : List Block) → IsListed t v → Says m.width (said realloc given) t v ws blocks → AreWords m.width (flatten_type (layout t)) ws

  abbrev pub AreAllRanged : (realloc : Bool) → Shapes → Type 0
  AreAllRanged realloc ts =
      (given : List Block) (v : Parts ts) (ws : List Word) (blocks : List Block) → AreListed ts v → PartsSay m.width (said realloc given) ts v ws blocks → AreWords m.width (flatten_record (layouts ts)) ws

  -- an operand that denotes a value becomes words that represent it: without realloc the value is lent, with it given away
  pub record LowersFlat (realloc : Bool) (t : Shape) (o : Operand) (os : List Operand) (old new : Self) : Type 0 where
    pub adds : Adds m old new
    pub fits : length os ≡ length (flatten_type (layout t))
    pub ranged : AreRanged realloc t
    -- so far no code is made for what asks for blocks
    pub asks_nothing : (v : Value t) → requests m.width block_for t v ≡ []
    pub row : (given : List Block) (v : Value t) (a : m.Item) (own : List Block) → IsListed t v → m.stands (way realloc given) t v a own →
        Passes m realloc (Says m.width (said realloc given) t v) (ofs m (o ∷ []) (item a ∷ [])) own (requests m.width block_for t v) os old new

  -- the same of parts, one after another
  pub record LowersAll (realloc : Bool) (ts : Shapes) (parts os : List Operand) (old new : Self) : Type 0 where
    pub adds : Adds m old new
    pub fits : length os ≡ length (flatten_record (layouts ts))
    pub ranged : AreAllRanged realloc ts
    pub asks_nothing : (v : Parts ts) → part_requests m.width block_for ts v ≡ []
    pub row : (given : List Block) (v : Parts ts) (vals : List m.Item) (own : List Block) → AreListed ts v → PartsStand m (way realloc given) ts v vals own →
        Passes m realloc (PartsSay m.width (said realloc given) ts v) (ofs m parts (item_data m vals)) own (part_requests m.width block_for ts v) os old new

  -- the same of arguments, from one on
  pub record LowersArguments (realloc : Bool) (ts : Shapes) (first : ℕ) (os : List Operand) (old new : Self) : Type 0 where
    pub adds : Adds m old new
    pub fits : length os ≡ length (flatten_record (layouts ts))
    pub asks_nothing : (v : Parts ts) → part_requests m.width block_for ts v ≡ []
    pub row : (given : List Block) (v : Parts ts) (vals : List m.Item) (own : List Block) → AreListed ts v → PartsStand m (way realloc given) ts v vals own →
        Passes m realloc (PartsSay m.width (said realloc given) ts v) (args m first (item_data m vals)) own (part_requests m.width block_for ts v) os old new

  -- the operand of a result is given away as words, where there is one
  abbrev pub LowersAnswer : (r : Option Shape) → (os rs : List Operand) → (old new : Self) → Type 0
  LowersAnswer None os rs old new = (rs ≡ []) × (new ≡ old)
  LowersAnswer (Some t) os rs old new = (o : Operand) × (os ≡ o ∷ []) × LowersFlat true t o rs old new
