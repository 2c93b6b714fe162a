-- What the instructions of handles do.
use Rattle.std.specs.Prelude.{◌≡◌, ℕ, ◌-◌, ◌^◌, ◌||◌, Bool, true, false, nat_eq, if◌then◌else◌, List, [], ◌∷◌}
use Rattle.wrapper_data.specs.declared.block.Block.{Block}
use Rattle.wrapper_data.specs.declared.form.Form.{Form}
use Rattle.wrapper_data.specs.declared.run.TrapKind.TheVariants as trap
use Rattle.wrapper_data.specs.declared.word.Word.{Word}
use Rattle.wrapper_data.specs.declared.word.Word.TheVariants as core
use Rattle.wrapper_meaning.specs.AsWords.{handle_word}
use Rattle.wrapper_meaning.specs.Direction.{Direction, take}
use Rattle.wrapper_meaning.specs.InRange.{IsListed}
use Rattle.wrapper_meaning.specs.Numbers.{low_bits}
use Rattle.wrapper_meaning.specs.Shape.{Shape}
use Rattle.wrapper_meaning.specs.Shape.Shape.{handle}
use Rattle.abi_bindgen.specs.Account.{Act, Stuck, failing, stay}
use Rattle.abi_bindgen.specs.Laws.{Does, Stays, ofs}
use Rattle.abi_bindgen.specs.Meaning.{Meaning, item, word}

abbrev pub IsHandle : Shape → Type 0
IsHandle t = (owns : Bool) × (resource : ℕ) × (t ≡ handle owns resource)

-- two numbers are those of no handle
abbrev pub is_no_handle : ℕ → Bool
is_no_handle n = nat_eq n 0 || nat_eq n (2 ^ 32 - 1)

-- a word is read as a handle's number, and checked to be one
abbrev pub numbering : {V : Type 0} → (checked : Bool) → Form → Word → Act V (Unit {0})
numbering true f (core.I32 z) acc = if is_no_handle (low_bits 32 z) then failing f trap.HandleNumber acc else stay acc
numbering false f (core.I32 z) acc = stay acc
numbering checked f x acc = Stuck acc

module _ {Self Operand : Type 0} (m : Meaning Self Operand) where
  -- a handle becomes its number
  abbrev pub LowersHandle : (owns : Bool) → (resource : ℕ) → (os rs : List Operand) → (old new : Self) → Type 0
  LowersHandle owns resource os rs old new =
      (dir : Direction) (v : ℕ) (a : m.Item) (own : List Block) → m.stands dir (handle owns resource) v a own →
      (own ≡ []) × Stays m old new (ofs m os (item a ∷ [])) (λ fs. fs ≡ ofs m rs (word (handle_word v) ∷ []))

  abbrev pub LiftsNumber : (checked owns : Bool) → (resource : ℕ) → (os rs : List Operand) → (old new : Self) → Type 0
  LiftsNumber checked owns resource os rs old new =
      (x : Word) → Does m (Unit {0}) old new (ofs m os (word x ∷ [])) (λ p. numbering checked p.form x)
      (λ u fs. (a : m.Item) × (fs ≡ ofs m rs (item a ∷ [])) × ((v : ℕ) → IsListed (handle owns resource) v → x ≡ handle_word v → m.stands take (handle owns resource) v a []))
      (λ u. []) (λ u. [])

  -- a number becomes a handle. One that owns is checked; whether one that is borrowed is, which may be an address, is left to the code
  abbrev pub LiftsHandle : (owns : Bool) → (resource : ℕ) → (os rs : List Operand) → (old new : Self) → Type 0
  LiftsHandle true resource os rs old new = LiftsNumber true true resource os rs old new
  LiftsHandle false resource os rs old new = (checked : Bool) × LiftsNumber checked false resource os rs old new

  -- the rows of a handle of a shape; of any other shape there is none

  abbrev pub LowersHandleOf : Shape → (os rs : List Operand) → (old new : Self) → Type 0
  LowersHandleOf (handle owns resource) os rs old new = LowersHandle owns resource os rs old new
  LowersHandleOf _ os rs old new = Unit {0}

  abbrev pub LiftsHandleOf : Shape → (os rs : List Operand) → (old new : Self) → Type 0
  LiftsHandleOf (handle owns resource) os rs old new = LiftsHandle owns resource os rs old new
  LiftsHandleOf _ os rs old new = Unit {0}
