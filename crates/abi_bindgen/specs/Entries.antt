-- How a block is filled with the entries of a list or a map, read entry by entry, and freed.
use Rattle.std.specs.Prelude.{◌≡◌, ◌⊎◌, ℕ, ◌*◌, Bool, List, [], ◌∷◌, ◌++◌}
use Rattle.wit_layout.specs.Extent.{Extent}
use Rattle.wrapper_data.specs.declared.form.Form.{Form}
use Rattle.wrapper_data.specs.declared.word.Word.TheVariants as core
use Rattle.abi_bindgen.specs.Account.{Account, Act, Done, Follows, Got, Outcome, Peer, then_do}
use Rattle.abi_bindgen.specs.Laws.{At, Data, Facts, ofs}
use Rattle.abi_bindgen.specs.Meaning.{Bound, Ended, Meaning, at_place, item, word}
use Rattle.abi_bindgen.specs.Memory.{freeing}
use Rattle.abi_bindgen.specs.Requested.{allotting_for, rooming}
use Rattle.abi_bindgen.specs.Turns.{Arrives, Moved, Run, Sets, Went, gathers, places, turns}

module _ {Self Operand : Type 0} (m : Meaning Self Operand) where
  -- 1. It is filled

  -- a block is asked for, and then a block of code is run for each entry. The first begins in a state in which the address is known
  abbrev pub fills : Form → Run m → (kept : Bool) → Extent → (n : ℕ) → (ℕ → List (Bound m.Item)) → m.State → Account m.Item → Outcome m.Item (Went m ℕ)
  fills f run kept e n bounds begin acc =
      then_do (allotting_for kept n e acc) (λ x. then_do (turns m f run (bounds x.result) begin) (λ u. Done (record { result = x.result; state = u; account = m.account u })))

  -- an item is used up; its entries are put into a block, whose address and number of entries are the results
  abbrev pub FillsBlock : (kept : Bool) → Extent → (n : ℕ) → (ℕ → List (Bound m.Item)) → m.Item → m.Block → (os rs : List Operand) → (old new : Self) → Type 0
  FillsBlock kept e n bounds a body os rs old new =
      (w : m.World) (p : Peer m.Item) (others : Facts m) (s0 s : m.State) → At m w p old new (ofs m os (item a ∷ []) ++ others) s0 s →
      (begin : m.State) × ((x : Got m.Item ℕ) → allotting_for kept n e (m.account s) ≡ Done x → Moved m w old (ofs m os (item a ∷ [])) (m.owned a) s x.account begin)
      × Follows m.account (fills p.form (m.runs w p body) kept e n bounds begin (m.account s)) (m.does w p (m.code new) s0)
      (Arrives m w old new others (λ address fs. fs ≡ ofs m rs (word (core.Pointer address) ∷ word (core.Length n) ∷ [])) (λ address. []))

  -- 2. It is read

  -- room is asked for, the block is run at each place, and what the turns gave is added up. Then the bytes are freed
  abbrev pub reads_block : {R : Type 0} → Form → Run m → (Data m → R → Act m.Item R) → (Account m.Item → m.State → m.State) → (size address n : ℕ) → R → m.State → Account m.Item → Outcome m.Item (Went m R)
  reads_block f run add set size address n first begin acc =
      then_do (rooming n acc) (λ u. then_do (gathers m f run add set (places m size address n) first begin)
      (λ x. then_do (freeing f address (n * size) x.account) (λ y. Done (record x { account = y.account }))))

  -- the item that is made owns what was gathered
  abbrev pub ReadsBlock : {R : Type 0} → (size : ℕ) → (Data m → R → Act m.Item R) → (owned : R → List ℕ) → (first : R) → (R → m.Item → Type 0) → m.Block → (os rs : List Operand) → (old new : Self) → Type 0
  ReadsBlock size add owned first IsOf body os rs old new =
      (address n : ℕ) (w : m.World) (p : Peer m.Item) (others : Facts m) (s0 s : m.State) → At m w p old new (ofs m os (word (core.Pointer address) ∷ word (core.Length n) ∷ []) ++ others) s0 s →
      (begin : m.State) × ((u : Got m.Item (Unit {0})) → rooming n (m.account s) ≡ Done u → Moved m w old (ofs m os (word (core.Pointer address) ∷ word (core.Length n) ∷ [])) [] s u.account begin)
      × (sets : Sets m add w old)
      × Follows m.account (reads_block p.form (m.runs w p body) add sets.set size address n first begin (m.account s)) (m.does w p (m.code new) s0)
      (Arrives m w old new others (λ r fs. (a : m.Item) × (fs ≡ ofs m rs (item a ∷ [])) × IsOf r a) owned)

  -- 3. It is freed: what its entries own first, and then its bytes

  abbrev pub frees_bytes : Form → (size address n : ℕ) → m.State → Outcome m.Item (Went m (Unit {0}))
  frees_bytes f size address n s = then_do (freeing f address (n * size) (m.account s)) (λ y. Done (record { result = tt; state = s; account = y.account }))

  abbrev pub frees_entries : Form → Run m → (size address n : ℕ) → m.State → Outcome m.Item (Went m (Unit {0}))
  frees_entries f run size address n s = then_do (turns m f run (places m size address n) s) (frees_bytes f size address n)

  -- a block that is run at a place, and leaves the account as it was
  abbrev pub IsIdle : m.Block → Type 0
  IsIdle body = (w : m.World) (p : Peer m.Item) (address : ℕ) (s : m.State) → (e : Ended m.Item m.State) × (m.runs w p body (at_place address) s ≡ Done e) × (m.account e.state ≡ m.account s)

  -- an idle block need not be run
  abbrev pub FreesEntries : (size : ℕ) → (os : List Operand) → (old new : Self) → Type 0
  FreesEntries size os old new =
      (body : m.Block) (later : List m.Block) → m.blocks old ≡ body ∷ later → (address n : ℕ) (w : m.World) (p : Peer m.Item) (others : Facts m) (s0 s : m.State)
      → At m w p old new (ofs m os (word (core.Pointer address) ∷ word (core.Length n) ∷ []) ++ others) s0 s
      → (at : m.State) × Moved m w old (ofs m os (word (core.Pointer address) ∷ word (core.Length n) ∷ [])) [] s (m.account s) at
      × (Follows m.account (frees_entries p.form (m.runs w p body) size address n at) (m.does w p (m.code new) s0) (Arrives m w old new others (λ u fs. fs ≡ []) (λ u. []))
      ⊎ (IsIdle body × Follows m.account (frees_bytes p.form size address n at) (m.does w p (m.code new) s0) (Arrives m w old new others (λ u fs. fs ≡ []) (λ u. []))))
