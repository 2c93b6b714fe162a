-- How the run of a wrapper may end, where the other side is honest: done, refused for memory, or at a choice that does not fit.
use Rattle.std.specs.Prelude.{◌≡◌, ◌⊎◌, ◌≤◌, ◌<◌, ◌%◌, ◌^◌, ℕ, Bool, true, false, not, ◌&&◌, nat_eq, List, [], ◌∷◌, ◌++◌, length, Contains, Option, None, Some, IfSome, slice_get}
use Rattle.wrapper_data.specs.declared.block.Block.{Block}
use Rattle.wrapper_data.specs.declared.choice.Choice.{Choice}
use Rattle.wrapper_data.specs.declared.choice.Choice.TheVariants as choice
use Rattle.wrapper_data.specs.declared.choice.Request.{Request}
use Rattle.wrapper_data.specs.declared.run.CallPoint.{CallPoint}
use Rattle.wrapper_data.specs.declared.run.Run.{Run}
use Rattle.wrapper_data.specs.declared.run.Stop.{Stop}
use Rattle.wrapper_data.specs.declared.run.Stop.TheVariants as stop
use Rattle.wrapper_data.specs.Heap.{is_block, is_heap, overlaps_any}
use Rattle.wrapper_meaning.specs.Due.{Bill, due}
use Rattle.wrapper_meaning.specs.Items.{AtMost, SameItems}

-- 1. Requests and choices

-- the last of the requests that were made, and the choice that it met; each request takes the next choice
pub record Meets (choices : List Choice) (made : List Request) (request : Request) (met : Option Choice) : Type 0 where
  pub earlier : List Request
  pub last : made ≡ earlier ++ request ∷ []
  pub takes : slice_get choices (length earlier) ≡ met

-- the request behind so many others is that of the area
abbrev pub is_areas : List Request → (before place : ℕ) → Bool
is_areas [] before place = false
is_areas (_ ∷ _) before place = nat_eq place before

-- as far as the requests go, that of the area stands at its place
abbrev pub AreaInPlace : List Request → (before : ℕ) → List Request → Type 0
AreaInPlace [] before made = Unit {0}
AreaInPlace (area ∷ _) before made = IfSome (slice_get made before) (λ request. request ≡ area)

-- 2. Refused

-- a request met a refusal, and was due, and not for the area
pub record MeetsRefusal (b : Bill) (choices : List Choice) (made : List Request) (request : Request) : Type 0 where
  pub meets : Meets choices made request (Some choice.Refuse)
  pub due : Contains (b.lowered ++ b.rooms) request
  pub no_area : is_areas b.area b.before (length meets.earlier) ≡ false

-- or a block of more than 2^31 - 1 bytes is due for what is lowered
abbrev pub IsRefusable : Bill → List Choice → List Request → Request → Type 0
IsRefusable b choices made request = MeetsRefusal b choices made request ⊎ (Contains b.lowered request × (2 ^ 31 ≤ request.size))

-- 3. A choice that does not fit

-- a block of this size may stand at the address: aligned, and overlapping no other
abbrev pub fits : Request → ℕ → List Block → Bool
fits request address blocks =
    let b : Block = record { address = address; size = request.size; cells = [] } in
    is_block b && not (overlaps_any b blocks) && nat_eq (address % request.align) 0

-- no choice is left; or the area meets a refusal; or a block or an area, which have an alignment, can't stand at the address
abbrev pub Misfits : (area : Bool) → List Block → Request → Option Choice → Type 0
Misfits area blocks request None = Unit {0}
Misfits area blocks request (Some choice.Refuse) = area ≡ true
Misfits area blocks request (Some (choice.At address)) = (0 < request.align) × (fits request address blocks ≡ false)

pub record MeetsMisfit (b : Bill) (choices : List Choice) (run : Run) : Type 0 where
  pub request : Request
  pub met : Option Choice
  pub meets : Meets choices run.requests request met
  pub misfits : Misfits (is_areas b.area b.before (length meets.earlier)) run.heap.blocks request met

-- 4. The ends

-- a run that ends early made no more requests than are due, that of the area at its place, and gives nothing. Its heap
-- is well formed
pub record EndsEarly (b : Bill) (run : Run) : Type 0 where
  pub requests : AtMost run.requests (due b)
  pub area : AreaInPlace b.area b.before run.requests
  pub formed : is_heap run.heap ≡ true
  pub words : run.words ≡ []
  pub value : run.value ≡ None

-- a run that is done made one call, and the requests that are due, each as often as it is and that of the area at its place; and it
-- gives what it owes
pub record IsDone (b : Bill) (calls : List CallPoint) (Gives : Run → Type 0) (run : Run) : Type 0 where
  pub call : CallPoint
  pub once : calls ≡ call ∷ []
  pub requests : SameItems run.requests (due b)
  pub area : AreaInPlace b.area b.before run.requests
  pub gives : Gives run

-- it never traps, and never does what has no meaning
abbrev pub EndsBy : Stop → Bill → List Choice → List CallPoint → (Run → Type 0) → Run → Type 0
EndsBy stop.Done b choices calls Gives run = IsDone b calls Gives run
EndsBy (stop.Refused request) b choices calls Gives run = IsRefusable b choices run.requests request × EndsEarly b run
EndsBy stop.BadChoice b choices calls Gives run = MeetsMisfit b choices run × EndsEarly b run
EndsBy (stop.Trap kind) b choices calls Gives run = ⊥
EndsBy (stop.Stuck item) b choices calls Gives run = ⊥

-- the calls are those of the run, without the ones that drop a handle
abbrev pub Ends : Bill → List Choice → List CallPoint → (Run → Type 0) → Run → Type 0
Ends b choices calls Gives run = EndsBy run.stop b choices calls Gives run
