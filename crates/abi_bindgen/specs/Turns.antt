-- How instructions run the blocks that they use up: where a block begins, what comes in turn, and what is known behind the last one.
use Rattle.std.specs.Prelude.{◌≡◌, ℕ, zero, suc, ◌+◌, ◌*◌, ◌^◌, nat_lt, if◌then◌else◌, List, [], ◌∷◌, ◌++◌}
use Rattle.wrapper_data.specs.declared.form.Form.{Form}
use Rattle.wrapper_data.specs.declared.run.TrapKind.TheVariants as trap
use Rattle.wrapper_meaning.specs.Items.{SameItems}
use Rattle.abi_bindgen.specs.Account.{Account, Act, Done, Got, Outcome, Peer, failing, stay, then_do}
use Rattle.abi_bindgen.specs.Laws.{Data, Facts}
use Rattle.abi_bindgen.specs.Meaning.{Bound, Ended, Meaning, at_place, with_element, with_entry, with_nothing, with_payload}

module _ {Self Operand : Type 0} (m : Meaning Self Operand) where
  -- 1. Where a block begins

  -- operands were used up that denoted such facts, and nothing else was done, but that the account is this one. There may be locals
  -- that no operand needs
  pub record Moved (w : m.World) (old : Self) (ins : Facts m) (gone : List ℕ) (s : m.State) (acc : Account m.Item) (t : m.State) : Type 0 where
    pub account : m.account t ≡ acc
    pub owns : SameItems (m.owns t ++ gone) (m.owns s)
    pub denotes : (others : Facts m) → m.denotes w old (ins ++ others) s → m.denotes w old others t

  -- what came of it: the state behind the last block, and the account then
  pub record Went (A : Type 0) : Type 0 where
    pub result : A
    pub state : m.State
    pub account : Account m.Item

  -- the code has come from there to a state in which such facts are new, and has made owners
  pub record Arrives {A : Type 0} (w : m.World) (old new : Self) (others : Facts m) (Outs : A → Facts m → Type 0) (made : A → List ℕ) (x : Went A) (t : m.State) : Type 0 where
    pub account : m.account t ≡ x.account
    pub owns : SameItems (m.owns t) (m.owns x.state ++ made x.result)
    pub denotes : m.denotes w old others x.state → (outs : Facts m) × Outs x.result outs × m.denotes w new (outs ++ others) t

  abbrev pub Run : Type 0
  Run = Bound m.Item → m.State → Outcome m.Item (Ended m.Item m.State)

  -- 2. Places one after another, so many bytes apart

  abbrev pub places : (size address n : ℕ) → List (Bound m.Item)
  places size address zero = []
  places size address (suc n) = at_place address ∷ places size (address + size) n

  abbrev pub elements : (size address : ℕ) → List m.Item → List (Bound m.Item)
  elements size address [] = []
  elements size address (a ∷ vals) = with_element a address ∷ elements size (address + size) vals

  abbrev pub entries : (size address : ℕ) → List (m.Item × m.Item) → List (Bound m.Item)
  entries size address [] = []
  entries size address (e ∷ es) = with_entry e.0 e.1 address ∷ entries size (address + size) es

  -- where a block is run, if that is at a place
  abbrev pub stand_of : Bound m.Item → ℕ
  stand_of with_nothing = 0
  stand_of (with_payload a) = 0
  stand_of (at_place address) = address
  stand_of (with_element a address) = address
  stand_of (with_entry k x address) = address

  -- behind the last address of a pointer there is no place
  abbrev pub reaching : Form → (address : ℕ) → Act m.Item (Unit {0})
  reaching f address acc = if nat_lt address (2 ^ (8 * 2 ^ m.width)) then stay acc else failing f trap.Pointer acc

  -- a block is run with each of these in turn, as long as there is such a place
  abbrev pub turns : Form → Run → List (Bound m.Item) → m.State → Outcome m.Item m.State
  turns f run [] s = Done s
  turns f run (with ∷ later) s = then_do (reaching f (stand_of with) (m.account s)) (λ u. then_do (run with s) (λ e. turns f run later e.state))

  -- 3. What the turns give is gathered. No state has it before the last turn is done

  -- an addition may free blocks of what was gathered; then the next turn begins in a state of the account that it left
  pub record Sets {R : Type 0} (add : Data m → R → Act m.Item R) (w : m.World) (old : Self) : Type 0 where
    pub set : Account m.Item → m.State → m.State
    pub account : (ds : Data m) (r : R) (s : m.State) (x : Got m.Item R) → add ds r (m.account s) ≡ Done x → m.account (set x.account s) ≡ x.account
    pub owns : (acc : Account m.Item) (s : m.State) → SameItems (m.owns (set acc s)) (m.owns s)
    pub denotes : (ds : Data m) (r : R) (s : m.State) (x : Got m.Item R) (facts : Facts m) → add ds r (m.account s) ≡ Done x → m.denotes w old facts s → m.denotes w old facts (set x.account s)

  -- the results of each turn are added to what was gathered
  abbrev pub gathers : {R : Type 0} → Form → Run → (Data m → R → Act m.Item R) → (Account m.Item → m.State → m.State) → List (Bound m.Item) → R → m.State → Outcome m.Item (Went R)
  gathers f run add set [] r s = Done (record { result = r; state = s; account = m.account s })
  gathers f run add set (with ∷ later) r s =
      then_do (reaching f (stand_of with) (m.account s))
      (λ u. then_do (run with s) (λ e. then_do (add e.results r (m.account e.state)) (λ x. gathers f run add set later x.result (set x.account e.state))))
