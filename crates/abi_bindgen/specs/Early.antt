-- How code may end that asks for memory, where its data is honest: done, or early, at a request that is due.
use Rattle.std.specs.Prelude.{◌≡◌, ◌≤◌, ◌⊎◌, ◌^◌, Bool, true, false, List, ◌∷◌, ◌++◌, Option, Some, drop, length}
use Rattle.wrapper_data.specs.Heap.{is_heap}
use Rattle.wrapper_data.specs.declared.choice.Choice.{Choice}
use Rattle.wrapper_data.specs.declared.choice.Choice.TheVariants as choice
use Rattle.wrapper_data.specs.declared.choice.Request.{Request}
use Rattle.wrapper_data.specs.declared.run.Stop.{Stop}
use Rattle.wrapper_data.specs.declared.run.Stop.TheVariants as stop
use Rattle.wrapper_meaning.specs.Ends.{Meets, Misfits}
use Rattle.abi_bindgen.specs.Account.{Account, Done, Outcome, Stopped, Stuck}

-- 1. Early ends

-- the next request that is due is for a block of more than 2^31 - 1 bytes. Room is never too large
abbrev pub IsLarge : (large : Bool) → (left : List Request) → Request → Type 0
IsLarge true (x ∷ left) r = (x ≡ r) × (2 ^ 31 ≤ r.size)
IsLarge _ _ r = ⊥

-- why it ended: the last request was refused, or the next is too large; or the last one met a choice that does not fit
abbrev pub IsLicensed : {V : Type 0} → (large : Bool) → (made left : List Request) → (before after : Account V) → Stop → Type 0
IsLicensed large made left before after (stop.Refused r) = Meets before.choices made r (Some choice.Refuse) ⊎ IsLarge large left r
IsLicensed large made left before after stop.BadChoice =
    (r : Request) × (met : Option Choice) × Meets before.choices made r met × Misfits false after.heap.blocks r met
IsLicensed large made left before after _ = ⊥

-- an early end: of the requests that are due the first were made, in this order, and no call. The heap is well formed
pub record Early {V : Type 0} (large : Bool) (due : List Request) (before : Account V) (e : Stop) (after : Account V) : Type 0 where
  pub made : List Request
  pub left : List Request
  pub all : due ≡ made ++ left
  pub requests : after.requests ≡ before.requests ++ made
  pub calls : after.calls ≡ before.calls
  pub formed : is_heap after.heap ≡ true
  pub licence : IsLicensed large made left before after e

-- 2. Outcomes

-- it is done, and this holds; or it ended early. It is never stuck
abbrev pub Comes : {V S : Type 0} → (large : Bool) → (due : List Request) → (before : Account V) → Outcome V S → (S → Type 0) → Type 0
Comes large due before (Done s) P = P s
Comes large due before (Stopped e acc) P = Early large due before e acc
Comes large due before (Stuck acc) P = ⊥

-- all that was due was asked for, each request took a choice, and no call was made
pub record HasAsked {V : Type 0} (due : List Request) (before after : Account V) : Type 0 where
  pub requests : after.requests ≡ before.requests ++ due
  pub choices : after.choices ≡ drop (length due) before.choices
  pub calls : after.calls ≡ before.calls
