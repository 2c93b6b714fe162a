-- What the instructions of lists of a fixed length do.
use Rattle.std.specs.Prelude.{◌≡◌, ◌⊎◌, ℕ, Bool, List, [], ◌∷◌, ◌++◌, length}
use Rattle.std.specs.List.{flat_map}
use Rattle.wit_layout.specs.Sizes.{elem_size}
use Rattle.wrapper_data.specs.declared.block.Block.{Block}
use Rattle.wrapper_data.specs.declared.form.Form.{Form}
use Rattle.wrapper_data.specs.declared.word.Word.TheVariants as core
use Rattle.wrapper_meaning.specs.Direction.{take}
use Rattle.wrapper_meaning.specs.Layout.{layout}
use Rattle.wrapper_meaning.specs.Shape.{Shape}
use Rattle.wrapper_meaning.specs.Shape.Shape.{fixed}
use Rattle.wrapper_meaning.specs.StandsFor.{EachStands}
use Rattle.wrapper_meaning.specs.Value.{Value}
use Rattle.abi_bindgen.specs.Account.{Done, Follows, Outcome, Peer, then_do}
use Rattle.abi_bindgen.specs.Entries.{IsIdle}
use Rattle.abi_bindgen.specs.Laws.{At, Facts, Stays, item_data, ofs}
use Rattle.abi_bindgen.specs.Leaves.{IsSide, way}
use Rattle.abi_bindgen.specs.Lists.{one_more}
use Rattle.abi_bindgen.specs.Meaning.{Bound, Meaning, item, word}
use Rattle.abi_bindgen.specs.Turns.{Arrives, Moved, Run, Sets, Went, elements, gathers, places, turns}

module _ {Self Operand : Type 0} (m : Meaning Self Operand) where
  -- a block is run with each of these in turn, and no more is done
  abbrev pub in_turn : Form → Run m → List (Bound m.Item) → m.State → Outcome m.Item (Went m (Unit {0}))
  in_turn f run bounds s = then_do (turns m f run bounds s) (λ u. Done (record { result = tt; state = u; account = m.account u }))

  abbrev pub TakesTurns : Facts m → (gone : List ℕ) → List (Bound m.Item) → m.Block → (old new : Self) → Type 0
  TakesTurns ins gone bounds body old new =
      (w : m.World) (p : Peer m.Item) (others : Facts m) (s0 s : m.State) → At m w p old new (ins ++ others) s0 s →
      (at : m.State) × Moved m w old ins gone s (m.account s) at
      × Follows m.account (in_turn p.form (m.runs w p body) bounds at) (m.does w p (m.code new) s0) (Arrives m w old new others (λ u fs. fs ≡ []) (λ u. []))

  -- a list becomes its elements. As lists are lent by imports and given away by exports, so are elements
  abbrev pub LowersFixed : Shape → (n : ℕ) → (os rs : List Operand) → (old new : Self) → Type 0
  LowersFixed t n os rs old new =
      (realloc : Bool) (heap : List Block) (vs : List (Value t)) (a : m.Item) (own : List Block) → IsSide m realloc old → length vs ≡ n → m.stands (way realloc heap) (fixed t n) vs a own →
      (vals : List m.Item) × EachStands (m.stands (way realloc heap) t) vs vals own × Stays m old new (ofs m os (item a ∷ [])) (λ fs. fs ≡ ofs m rs (item_data m vals))

  -- and elements become a list
  abbrev pub LiftsFixed : Shape → (n : ℕ) → (os rs : List Operand) → (old new : Self) → Type 0
  LiftsFixed t n os rs old new =
      (vals : List m.Item) → length vals ≡ n →
      Stays m old new (ofs m os (item_data m vals))
      (λ fs. (a : m.Item) × (fs ≡ ofs m rs (item a ∷ [])) × ((vs : List (Value t)) (own : List Block) → EachStands (m.stands take t) vs vals own → m.stands take (fixed t n) vs a own))

  -- the block is run with each element and its place, from an address on
  abbrev pub StoresFixed : Shape → (n : ℕ) → (os : List Operand) → (old new : Self) → Type 0
  StoresFixed t n os old new =
      (body : m.Block) (later : List m.Block) → m.blocks old ≡ body ∷ later →
      (realloc : Bool) (heap : List Block) (vs : List (Value t)) (a : m.Item) (own : List Block) (address : ℕ) → IsSide m realloc old → length vs ≡ n → m.stands (way realloc heap) (fixed t n) vs a own →
      (vals : List m.Item) × EachStands (m.stands (way realloc heap) t) vs vals own
      × TakesTurns (ofs m os (item a ∷ word (core.Pointer address) ∷ [])) (m.owned a) (elements m (elem_size m.width (layout t)) address vals) body old new

  -- the block is run at each place from an address on, and gives an element
  abbrev pub LoadsFixed : Shape → (n : ℕ) → (os rs : List Operand) → (old new : Self) → Type 0
  LoadsFixed t n os rs old new =
      (body : m.Block) (later : List m.Block) → m.blocks old ≡ body ∷ later → (address : ℕ) (w : m.World) (p : Peer m.Item) (others : Facts m) (s0 s : m.State)
      → At m w p old new (ofs m os (word (core.Pointer address) ∷ []) ++ others) s0 s
      → (begin : m.State) × Moved m w old (ofs m os (word (core.Pointer address) ∷ [])) [] s (m.account s) begin
      × (sets : Sets m (one_more m) w old)
      × Follows m.account (gathers m p.form (m.runs w p body) (one_more m) sets.set (places m (elem_size m.width (layout t)) address n) [] begin) (m.does w p (m.code new) s0)
      (Arrives m w old new others
      (λ vals fs. (a : m.Item) × (fs ≡ ofs m rs (item a ∷ [])) × ((vs : List (Value t)) (own : List Block) → EachStands (m.stands take t) vs vals own → m.stands take (fixed t n) vs a own))
      (λ vals. flat_map m.owned vals))

  -- the block is run at each place from an address on; an idle one need not be
  abbrev pub FreesFixed : Shape → (n : ℕ) → (os : List Operand) → (old new : Self) → Type 0
  FreesFixed t n os old new =
      (body : m.Block) (later : List m.Block) → m.blocks old ≡ body ∷ later → (address : ℕ) →
      TakesTurns (ofs m os (word (core.Pointer address) ∷ [])) [] (places m (elem_size m.width (layout t)) address n) body old new
      ⊎ (IsIdle m body × TakesTurns (ofs m os (word (core.Pointer address) ∷ [])) [] [] body old new)
