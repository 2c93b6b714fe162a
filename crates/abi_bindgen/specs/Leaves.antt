-- What the instructions of scalars and texts do.
use Rattle.std.specs.Prelude.{◌≡◌, ℕ, Bool, true, false, List, [], ◌∷◌}
use Rattle.wit_layout.specs.Tree.{Scalar}
use Rattle.wrapper_data.specs.declared.block.Block.{Block}
use Rattle.wrapper_data.specs.declared.word.Word.{Word}
use Rattle.wrapper_data.specs.declared.word.Word.TheVariants as core
use Rattle.wrapper_meaning.specs.AsWords.{IsTaken, Says, passed_word}
use Rattle.wrapper_meaning.specs.Direction.{Direction, give, lend, take}
use Rattle.wrapper_meaning.specs.InRange.{IsScalar}
use Rattle.wrapper_meaning.specs.Shape.{Shape}
use Rattle.wrapper_meaning.specs.Shape.Shape.{scalar, text}
use Rattle.wrapper_meaning.specs.Value.{ScalarValue, Value}
use Rattle.abi_bindgen.specs.Account.{Taken, addresses, reading, releasing, taking}
use Rattle.abi_bindgen.specs.Laws.{Does, Stays, core_data, ofs}
use Rattle.abi_bindgen.specs.Meaning.{Meaning, item, word}

-- without realloc values are lent, in a heap of these blocks; with it they are given away
abbrev pub way : Bool → List Block → Direction
way false heap = lend heap
way true heap = give

module _ {Self Operand : Type 0} (m : Meaning Self Operand) where
  -- lists are lent by imports alone, and given away by exports alone
  abbrev pub IsSide : (realloc : Bool) → Self → Type 0
  IsSide false b = m.imports b ≡ true
  IsSide true b = m.exports b ≡ true

  -- a scalar becomes its word
  abbrev pub LowersScalar : Scalar → (os rs : List Operand) → (old new : Self) → Type 0
  LowersScalar s os rs old new =
      (dir : Direction) (v : ScalarValue s) (a : m.Item) (own : List Block) → IsScalar s v → m.stands dir (scalar s) v a own →
      (own ≡ []) × Stays m old new (ofs m os (item a ∷ [])) (λ fs. fs ≡ ofs m rs (word (passed_word s v) ∷ []))

  -- a word becomes the scalar of which it is, once it is read as one
  abbrev pub LiftsScalar : Scalar → (os rs : List Operand) → (old new : Self) → Type 0
  LiftsScalar s os rs old new =
      (x : Word) → Does m (Unit {0}) old new (ofs m os (word x ∷ [])) (λ f. reading s f.form x)
      (λ u fs. (a : m.Item) × (fs ≡ ofs m rs (item a ∷ [])) × ((v : ScalarValue s) → IsScalar s v → IsTaken s v x → m.stands take (scalar s) v a []))
      (λ u. []) (λ u. [])

  -- a value that lies in memory as it is becomes its address and its length; where it is given away, its block has no owner any more
  abbrev pub LowersBuffer : Bool → (t : Shape) → (os rs : List Operand) → (old new : Self) → Type 0
  LowersBuffer realloc t os rs old new =
      (heap : List Block) (v : Value t) (a : m.Item) (own : List Block) → m.stands (way realloc heap) t v a own →
      (ws : List Word) × Says m.width (way realloc heap) t v ws own
      × Does m (Unit {0}) old new (ofs m os (item a ∷ [])) (λ f. releasing (addresses own)) (λ u fs. fs ≡ ofs m rs (core_data m ws)) (λ u. []) (λ u. addresses own)

  abbrev pub LowersText : Bool → (os rs : List Operand) → (old new : Self) → Type 0
  LowersText realloc os rs old new = LowersBuffer realloc text os rs old new

  -- an address and a length become the text that is taken over there
  abbrev pub LiftsText : (os rs : List Operand) → (old new : Self) → Type 0
  LiftsText os rs old new =
      (address n : ℕ) → Does m Taken old new (ofs m os (word (core.Pointer address) ∷ word (core.Length n) ∷ [])) (λ f. taking (m.tests old) f.form address n)
      (λ x fs. (a : m.Item) × (fs ≡ ofs m rs (item a ∷ [])) × (Says m.width take text x.bytes (core.Pointer address ∷ core.Length n ∷ []) x.blocks → m.stands take text x.bytes a x.blocks))
      (λ x. addresses x.blocks) (λ x. [])
