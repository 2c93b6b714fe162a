-- What the call of a method does: it is made, and what it answers comes in.
use Rattle.std.proofs.Common.{◌≡◌, ◌≤◌, ℕ, ◌+◌, Bool, true, false, not, ◌&&◌, nat_eq, nat_lt, if◌then◌else◌, find, is_some, List, [], ◌∷◌, ◌++◌, length, Option, None, Some, refl, ap, ◌∙◌, arith}
use Rattle.std.specs.Prelude.{option_to_list}
use Rattle.std.specs.List.{flat_map, list_all}
use Rattle.std.specs.Option.{option_map}
use Rattle.std.proofs.lemmas.Bool.{and_from, and_parts, lt-ltb}
use Rattle.wrapper_data.specs.Heap.{are_apart, is_block, is_heap}
use Rattle.wrapper_data.specs.declared.block.Block.{Block}
use Rattle.wrapper_data.specs.declared.heap.Heap.{Heap}
use Rattle.wrapper_data.specs.declared.run.Target.{Target}
use Rattle.wrapper_meaning.specs.Direction.{give}
use Rattle.wrapper_meaning.specs.Items.{SameItems, total}
use Rattle.wrapper_meaning.specs.Shape.{Shape}
use Rattle.wrapper_meaning.specs.Value.{Result}
use Rattle.wrapper_meaning.proofs.Lists.{some_same}
use Rattle.wrapper_meaning.proofs.HeapBlocks.{at_address, at_most_one, size_of_block}
use Rattle.abi_bindgen.specs.Account.{Account, Call, Crossing, Done, Got, Outcome, Reply, Stuck, account_in, addresses, gives, value, words}
use Rattle.abi_bindgen.specs.Calls.{are_live, begins_at, coming, handed_over, handing, left_by, method_point, recorded, returned_with}
use Rattle.abi_driver.specs.Imports.{ResultStands}
use Rattle.abi_bindgen.specs.Meaning.{Meaning}
use Rattle.abi_bindgen.proofs.Done.{is_it, same_is}
use Rattle.abi_driver.proofs.HonestAnswers.{not_taken}
use Rattle.abi_driver.proofs.ImportSteps.{if_calls}
use Rattle.wrapper_meaning.proofs.PostReturn.{total-append}
use Rattle.abi_driver.proofs.AreaHeaps.{address_weighs}

-- where values are passed as they are, the call was made, whatever is answered

left_calls : {V : Type 0} (owned : V → List ℕ) (heap : Heap) (vals : Option (List V)) (acc : Account V) → (account_in (λ (x : Got V (List V)). x.account) (left_by owned heap vals acc)).calls ≡ acc.calls
left_calls owned heap None acc = refl
left_calls owned heap (Some vals) acc = if_calls (λ x. x.account) (are_live (flat_map owned vals) heap.blocks) _ _ acc.calls refl refl

returned_calls : {V : Type 0} (owned : V → List ℕ) (receives : V → Option V) (due : ℕ) (reply : Reply V) (acc : Account V) → (account_in (λ (x : Got V (List V)). x.account) (returned_with owned receives due reply acc)).calls ≡ acc.calls
returned_calls owned receives due (words w writes blocks) acc = refl
returned_calls owned receives due (value v heap) acc = if_calls (λ x. x.account) (nat_eq (length (option_to_list v)) due) _ _ acc.calls (left_calls owned heap (coming receives v) acc) refl

pub handing_calls : {V : Type 0} (owned : V → List ℕ) (x : Crossing V) (target : Target) (vals : List V) (due : ℕ) (reply : Reply V) (acc : Account V) → x.passes vals ≡ Some vals
    → (account_in (λ (y : Got V (List V)). y.account) (handing owned x target vals due reply acc)).calls ≡ acc.calls ++ method_point target vals acc ∷ []
handing_calls owned x target vals due reply acc passes =
    ap (λ given. (account_in (λ (y : Got _ (List _)). y.account) (handed_over owned x.receives target due reply given acc)).calls) passes ∙ returned_calls owned x.receives due reply (recorded (method_point target vals acc) acc)

-- the account after an answer
abbrev pub after_answer : {V : Type 0} → (V → List ℕ) → Call V → Heap → List V → Account V → Account V
after_answer owned c heap back acc = record (recorded c acc) { heap = heap; taken = flat_map owned back }

pub handing_done : {V : Type 0} (owned : V → List ℕ) (x : Crossing V) (target : Target) (vals : List V) (due : ℕ) (reply : Reply V) (acc : Account V) (v : Option V) (heap : Heap) (back : List V)
    → x.passes vals ≡ Some vals → reply ≡ value v heap → nat_eq (length (option_to_list v)) due ≡ true → coming x.receives v ≡ Some back → are_live (flat_map owned back) heap.blocks ≡ true
    → handing owned x target vals due reply acc ≡ Done (record { result = back; account = after_answer owned (method_point target vals acc) heap back acc })
handing_done {V} owned x target vals due reply acc v heap back passes e h came live =
    let c = method_point target vals acc in
    let left : Option (List V) → Outcome V (Got V (List V)) = λ o. left_by owned heap o (recorded c acc) in
    ap (λ given. handed_over owned x.receives target due reply given acc) passes ∙ ap (λ r. returned_with owned x.receives due r (recorded c acc)) e
    ∙ ap (λ b. if b then left (coming x.receives v) else Stuck (recorded c acc)) h ∙ ap left came
    ∙ ap (λ b. if b then gives back (after_answer owned c heap back acc) else Stuck (recorded c acc)) live

-- addresses of blocks that stand apart are live in their heap

begin_there : (a : ℕ) (blocks : List Block) → list_all is_block blocks ≡ true → 1 ≤ total (at_address a) blocks → is_some (find (begins_at a) blocks) ≡ true
begin_there a [] good h = absurd (omega (arith, h))
begin_there a (b ∷ blocks) good h = by (nat_eq b.address a) (begin_there a blocks (and_parts (is_block b) (list_all is_block blocks) good).1) h
  where
    sized : nat_lt 0 b.size ≡ true
    sized = lt-ltb 0 b.size (size_of_block b (and_parts (is_block b) (list_all is_block blocks) good).0)

    by : (c : Bool) → (1 ≤ total (at_address a) blocks → is_some (find (begins_at a) blocks) ≡ true) → 1 ≤ (if c then 1 else 0) + total (at_address a) blocks → is_some (if c && nat_lt 0 b.size then Some b else find (begins_at a) blocks) ≡ true
    by true later h = ap (λ d. is_some (if d then Some b else find (begins_at a) blocks)) sized
    by false later h = later (omega (arith, h))

live_places : (places : List ℕ) (blocks : List Block) → list_all is_block blocks ≡ true → ((a : ℕ) → total (is_it a) places ≤ total (at_address a) blocks) → ((a : ℕ) → total (at_address a) blocks ≤ 1) → are_live places blocks ≡ true
live_places [] blocks good most one = refl
live_places (a ∷ places) blocks good most one =
    let alone = not_taken a places (omega (arith, most a, one a, same_is a)) in
    and_from _ _ (and_from _ _ (begin_there a blocks good (omega (arith, most a, same_is a))) (ap not alone))
    (live_places places blocks good (λ b. omega (arith, most b)) one)

pub live_owners : (places : List ℕ) (heap : Heap) (own others : List Block) → is_heap heap ≡ true → SameItems heap.blocks (own ++ others) → SameItems places (addresses own) → are_live places heap.blocks ≡ true
live_owners places heap own others formed all same =
    let parts = and_parts (list_all is_block heap.blocks) (are_apart heap.blocks) formed in
    live_places places heap.blocks parts.0 (λ a. omega (arith, same (is_it a), address_weighs a own, all (at_address a), total-append (at_address a) own others)) (λ a. at_most_one heap.blocks a parts.0 parts.1)

module _ {Self Operand : Type 0} (m : Meaning Self Operand) where
  -- what came in of an answer, which stands for the value with the same blocks
  pub record Came (r : Option Shape) (receives : m.Item → Option m.Item) (v : Result r) (a : Option m.Item) (own : List Block) : Type 0 where
    pub vals : List m.Item
    pub came : coming receives a ≡ Some vals
    pub stands : ResultStands m give r v vals own

  -- as many as were answered
  pub came_many : (receives : m.Item → Option m.Item) (a : Option m.Item) (vals : List m.Item) → coming receives a ≡ Some vals → length (option_to_list a) ≡ length vals
  came_many receives None vals e = ap length (some_same [] vals e)
  came_many receives (Some a) vals e = by (receives a) e
    where
      by : (o : Option m.Item) → option_map (λ b. b ∷ []) o ≡ Some vals → 1 ≡ length vals
      by None h = absurd cc
      by (Some b) h = ap length (some_same (b ∷ []) vals h)
