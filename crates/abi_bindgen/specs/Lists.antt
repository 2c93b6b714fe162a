-- What the instructions of lists do: of those that lie in memory as they are, and of those that are filled and read element by element.
use Rattle.std.specs.Prelude.{◌≡◌, ℕ, ◌*◌, ◌-◌, ◌%◌, ◌^◌, ◌||◌, Bool, true, not, nat_eq, nat_lt, if◌then◌else◌, find, List, [], ◌∷◌, ◌++◌, length, Option, None, Some}
use Rattle.std.specs.List.{flat_map}
use Rattle.wit_layout.specs.Extent.{Extent}
use Rattle.wit_layout.specs.Sizes.{elem_size, extent_of}
use Rattle.wrapper_data.specs.declared.block.Block.{Block}
use Rattle.wrapper_data.specs.declared.form.Form.{Form}
use Rattle.wrapper_data.specs.declared.run.TrapKind.TheVariants as trap
use Rattle.wrapper_data.specs.declared.word.Word.TheVariants as core
use Rattle.wrapper_meaning.specs.AsWords.{Says}
use Rattle.wrapper_meaning.specs.Direction.{take}
use Rattle.wrapper_meaning.specs.InMemory.{EachHolds, Holds}
use Rattle.wrapper_meaning.specs.Layout.{layout}
use Rattle.wrapper_meaning.specs.Shape.{Shape}
use Rattle.wrapper_meaning.specs.Shape.Shape.{list}
use Rattle.wrapper_meaning.specs.StandsFor.{EachStands}
use Rattle.wrapper_meaning.specs.Value.{Value}
use Rattle.abi_bindgen.specs.Account.{Act, Stuck, addresses, failing, gives, is_at, is_taken}
use Rattle.abi_bindgen.specs.Entries.{FillsBlock, ReadsBlock}
use Rattle.abi_bindgen.specs.Laws.{Data, Does, ofs}
use Rattle.abi_bindgen.specs.Leaves.{way}
use Rattle.abi_bindgen.specs.Meaning.{Meaning, item, word}
use Rattle.abi_bindgen.specs.Turns.{elements}

-- 1. A list that lies in memory as it is

abbrev pub read_over : {V : Type 0} → Form → (reads : Block → Bool) → Option Block → Act V (List Block)
read_over f reads None acc = failing f trap.Block acc
read_over f reads (Some b) acc = if reads b then gives (b ∷ []) (record acc { taken = acc.taken ++ b.address ∷ [] }) else failing f trap.Pointer acc

-- so many bytes at an address are taken over, where the block can be read. No bytes are no block
abbrev pub taking_over : {V : Type 0} → Form → (reads : Block → Bool) → Extent → (address n : ℕ) → Act V (List Block)
taking_over f reads e address n acc =
    if nat_lt (2 ^ 31 - 1) (n * e.bytes) then failing f trap.Size acc
    else (if nat_eq address 0 || not (nat_eq (address % 2 ^ e.grain) 0) then failing f trap.Pointer acc
    else (if nat_eq (n * e.bytes) 0 then gives [] acc
    else (if is_taken address acc.taken then failing f trap.Block acc
    else read_over f reads (find (is_at address (n * e.bytes)) acc.heap.blocks) acc)))

module _ {Self Operand : Type 0} (m : Meaning Self Operand) where
  -- an address and a length become the list that is taken over there. Its block can be read at least where it holds elements
  abbrev pub LiftsCanonical : Shape → (os rs : List Operand) → (old new : Self) → Type 0
  LiftsCanonical t os rs old new =
      let size = elem_size m.width (layout t) in
      (reads : Block → Bool) × ((b : Block) (vs : List (Value t)) → b.size ≡ length vs * size → EachHolds (Holds m.width take t) size vs b 0 [] → reads b ≡ true)
      × ((address n : ℕ) → Does m (List Block) old new (ofs m os (word (core.Pointer address) ∷ word (core.Length n) ∷ [])) (λ p. taking_over p.form reads (extent_of m.width (layout t)) address n)
      (λ own fs. (a : m.Item) × (fs ≡ ofs m rs (item a ∷ [])) × ((vs : List (Value t)) → Says m.width take (list t) vs (core.Pointer address ∷ core.Length n ∷ []) own → m.stands take (list t) vs a own))
      (λ own. addresses own) (λ own. []))

  -- 2. A list that is filled and read

  abbrev pub LowersList : (realloc : Bool) → Shape → (os rs : List Operand) → (old new : Self) → Type 0
  LowersList realloc t os rs old new =
      (body : m.Block) (later : List m.Block) → m.blocks old ≡ body ∷ later →
      (heap : List Block) (vs : List (Value t)) (a : m.Item) (own : List Block) → m.stands (way realloc heap) (list t) vs a own →
      (vals : List m.Item) × EachStands (m.stands (way realloc heap) t) vs vals own
      × FillsBlock m (not realloc) (extent_of m.width (layout t)) (length vs) (λ address. elements m (elem_size m.width (layout t)) address vals) a body os rs old new

  -- a turn gives one item
  abbrev pub one_more : Data m → List m.Item → Act m.Item (List m.Item)
  one_more (item a ∷ []) vals acc = gives (vals ++ a ∷ []) acc
  one_more _ vals acc = Stuck acc

  abbrev pub LiftsList : Shape → (os rs : List Operand) → (old new : Self) → Type 0
  LiftsList t os rs old new =
      (body : m.Block) (later : List m.Block) → m.blocks old ≡ body ∷ later →
      ReadsBlock m (elem_size m.width (layout t)) one_more (λ vals. flat_map m.owned vals) []
      (λ vals a. (vs : List (Value t)) (own : List Block) → EachStands (m.stands take t) vs vals own → m.stands take (list t) vs a own) body os rs old new
