-- What the instructions of maps do.
use Rattle.std.specs.Prelude.{◌≡◌, Bool, not, nat_eq, if◌then◌else◌, List, [], ◌∷◌, ◌++◌, length, ℕ}
use Rattle.std.specs.List.{flat_map}
use Rattle.wrapper_data.specs.declared.block.Block.{Block}
use Rattle.wrapper_meaning.specs.Buffer.{Both}
use Rattle.wrapper_meaning.specs.Direction.{Direction, take}
use Rattle.wrapper_meaning.specs.InMemory.{entry_extent}
use Rattle.wrapper_meaning.specs.InRange.{IsListed}
use Rattle.wrapper_meaning.specs.Items.{AllIn}
use Rattle.wrapper_meaning.specs.Settled.{same_key}
use Rattle.wrapper_meaning.specs.Shape.{Shape}
use Rattle.wrapper_meaning.specs.Shape.Shape.{pairs}
use Rattle.wrapper_meaning.specs.StandsFor.{EachStands}
use Rattle.wrapper_meaning.specs.Value.{Value}
use Rattle.abi_bindgen.specs.Account.{Account, Act, Stuck, gives, is_taken, stay, then_do, without}
use Rattle.abi_bindgen.specs.Laws.{Data}
use Rattle.abi_bindgen.specs.Leaves.{way}
use Rattle.abi_bindgen.specs.Entries.{FillsBlock, ReadsBlock}
use Rattle.abi_bindgen.specs.Meaning.{Meaning, item}
use Rattle.abi_bindgen.specs.Memory.{except}
use Rattle.abi_bindgen.specs.Turns.{entries}

-- the owners at these addresses are no more, and their blocks are freed
abbrev pub dropping : {V : Type 0} → List ℕ → Act V (Unit {0})
dropping [] acc = stay acc
dropping (a ∷ places) acc =
    if is_taken a acc.taken then dropping places (record acc { taken = without a acc.taken; heap = record { blocks = except (λ b. nat_eq b.address a) acc.heap.blocks } }) else Stuck acc

module _ {Self Operand : Type 0} (m : Meaning Self Operand) where
  abbrev pub Entry : Type 0
  Entry = m.Item × m.Item

  abbrev pub owned_entries : List Entry → List ℕ
  owned_entries es = flat_map (λ e. m.owned e.0 ++ m.owned e.1) es

  -- each entry stands for a key and a value
  abbrev pub EntriesStand : Direction → (k x : Shape) → List (Value k × Value x) → List Entry → List Block → Type 0
  EntriesStand dir k x vs es own = EachStands (λ v e. Both (m.stands dir k v.0 e.0) (m.stands dir x v.1 e.1)) vs es own

  abbrev pub LowersMap : (realloc : Bool) → (k x : Shape) → (os rs : List Operand) → (old new : Self) → Type 0
  LowersMap realloc k x os rs old new =
      (body : m.Block) (later : List m.Block) → m.blocks old ≡ body ∷ later →
      (heap : List Block) (vs : List (Value k × Value x)) (a : m.Item) (own : List Block) → m.stands (way realloc heap) (pairs k x) vs a own →
      (es : List Entry) × EntriesStand (way realloc heap) k x vs es own
      × FillsBlock m (not realloc) (entry_extent m.width k x) (length vs) (λ address. entries m (entry_extent m.width k x).bytes address es) a body os rs old new

  -- an entry comes behind the others; or its value in the place of that of the entry with an equal key, and then the older value is
  -- dropped, and the newer key
  abbrev pub pushing : (Account m.Item → m.Item → m.Item → Bool) → m.Item → m.Item → List Entry → Act m.Item (List Entry)
  pushing same k x [] acc = gives ((k, x) ∷ []) acc
  pushing same k x (e ∷ es) acc =
      if same acc e.0 k then then_do (dropping (m.owned e.1 ++ m.owned k) acc) (λ y. gives ((e.0, x) ∷ es) y.account)
      else then_do (pushing same k x es acc) (λ y. gives (e ∷ y.result) y.account)

  -- items of keys are the same where the keys are equal. Those that own blocks are read in the heap
  abbrev pub Compares : (k : Shape) → (Account m.Item → m.Item → m.Item → Bool) → Type 0
  Compares k same =
      (v u : Value k) (a b : m.Item) (own others : List Block) (acc : Account m.Item) → IsListed k v → IsListed k u → m.stands take k v a own → m.stands take k u b others → AllIn acc.heap.blocks (own ++ others) → same acc a b ≡ same_key k v u

  -- a turn gives a key and a value
  abbrev pub entry_more : (Account m.Item → m.Item → m.Item → Bool) → Data m → List Entry → Act m.Item (List Entry)
  entry_more same (item k ∷ item x ∷ []) es acc = pushing same k x es acc
  entry_more same _ es acc = Stuck acc

  abbrev pub LiftsMap : (k x : Shape) → (os rs : List Operand) → (old new : Self) → Type 0
  LiftsMap k x os rs old new =
      (body : m.Block) (later : List m.Block) → m.blocks old ≡ body ∷ later →
      (same : Account m.Item → m.Item → m.Item → Bool) × Compares k same
      × ReadsBlock m (entry_extent m.width k x).bytes (entry_more same) owned_entries []
      (λ es a. (vs : List (Value k × Value x)) (own : List Block) → EntriesStand take k x vs es own → m.stands take (pairs k x) vs a own) body os rs old new
