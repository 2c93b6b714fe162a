-- The answer of an export that passes by the area: the area is placed, and the answer is stored in it.
use Rattle.std.proofs.Common.{◌≡◌, ℕ, ◌+◌, ◌%◌, ◌^◌, ◌&&◌, ◌||◌, Bool, true, false, not, nat_eq, if◌then◌else◌, List, [], ◌∷◌, ◌++◌, Option, None, Some, Contains, refl, sym, ap, ap₂, ◌∙◌, subst, arith, append-nil}
use Rattle.std.proofs.lemmas.Bool.{and_parts, eqb-true, not-true}
use Rattle.wit_model.specs.Size.{alignment_at, bytes_at}
use Rattle.wit_layout.specs.Sizes.{alignment, elem_size}
use Rattle.wrapper_data.specs.Heap.{is_block, is_heap, overlaps_any}
use Rattle.wrapper_data.specs.declared.block.Block.{Block}
use Rattle.wrapper_data.specs.declared.choice.Choice.{Choice}
use Rattle.wrapper_data.specs.declared.choice.Choice.TheVariants as choice
use Rattle.wrapper_data.specs.declared.choice.Request.{Request}
use Rattle.wrapper_data.specs.declared.heap.Heap.{Heap}
use Rattle.wrapper_data.specs.declared.word.Word.TheVariants as core
use Rattle.wrapper_data.proofs.FormedHeaps.{formed, formed_added, is_formed}
use Rattle.wrapper_meaning.specs.Direction.{give}
use Rattle.wrapper_meaning.specs.Ends.{fits}
use Rattle.wrapper_meaning.specs.InRange.{IsListed}
use Rattle.wrapper_meaning.specs.Items.{SameItems, total}
use Rattle.wrapper_meaning.specs.Layout.{layout}
use Rattle.wrapper_meaning.specs.Represents.{Begins}
use Rattle.wrapper_meaning.specs.Shape.{Shape}
use Rattle.wrapper_meaning.specs.Value.{Value}
use Rattle.abi_bindgen.specs.declared.bindgen.Asked.{Asked}
use Rattle.abi_bindgen.specs.Account.{Account, Done, Follows, Got, Outcome, Peer, Stopped, Stuck, addresses, is_taken, without}
use Rattle.abi_bindgen.specs.Area.{HasRoomFor, HoldsRecord, NeedsArea, placed, placing, pointing}
use Rattle.abi_bindgen.specs.Frees.{nowhere}
use Rattle.abi_bindgen.specs.Laws.{At, Facts, Sound}
use Rattle.abi_bindgen.specs.Meaning.{Meaning, item, of, word}
use Rattle.abi_bindgen.specs.Places.{HasRoom, replaced}
use Rattle.abi_driver.specs.Stores.{LowersToMemory}
use Rattle.abi_bindgen.specs.Touches.{reached}
use Rattle.abi_driver.proofs.AreaHeaps.{contains_last, replaced_items}
use Rattle.abi_bindgen.proofs.Done.{is_it, is_there, same_is, without_one}
use Rattle.abi_driver.proofs.Replaced.{replaced_formed}
use Rattle.wrapper_meaning.proofs.PostReturn.{total-append}
use Rattle.abi_bindgen.specs.Lowering.{Releases}
use Rattle.abi_driver.proofs.PutSteps.{done_plainly}
use Rattle.wrapper_meaning.specs.Requests.{block_for, requests}
use Rattle.wrapper_meaning.specs.InMemory.{Holds}

-- 1. Where the area was placed

abbrev area_block : ℕ → Request → Block
area_block address area = record { address = address; size = area.size; cells = [] }

pub record Placed {V : Type 0} (area : Request) (acc : Account V) (x : Got V ℕ) : Type 0 where
  pub fit : fits area x.result acc.heap.blocks ≡ true
  pub heap : x.account.heap ≡ record { blocks = acc.heap.blocks ++ area_block x.result area ∷ [] }
  pub taken : x.account.taken ≡ acc.taken ++ x.result ∷ []

abbrev IsPlaced : {V : Type 0} → Request → Account V → Outcome V (Got V ℕ) → Type 0
IsPlaced area acc (Done x) = Placed area acc x
IsPlaced area acc (Stopped e end) = Unit {0}
IsPlaced area acc (Stuck end) = Unit {0}

if_placed : {V : Type 0} (area : Request) (acc : Account V) (b : Bool) (o q : Outcome V (Got V ℕ)) → (b ≡ true → IsPlaced area acc o) → (b ≡ false → IsPlaced area acc q) → IsPlaced area acc (if b then o else q)
if_placed area acc true o q h k = h refl
if_placed area acc false o q h k = k refl

placed_so : {V : Type 0} (area : Request) (choices : List Choice) (acc : Account V) → IsPlaced area acc (placed area choices acc)
placed_so area [] acc = tt
placed_so area (choice.Refuse ∷ later) acc = tt
placed_so area (choice.At address ∷ later) acc = if_placed area acc (fits area address acc.heap.blocks) _ _ (λ fit. record { fit = fit; heap = refl; taken = refl }) (λ e. tt)

asked_so : {V : Type 0} (area : Request) (acc : Account V) (o : Outcome V (Got V ℕ)) → IsPlaced area (record acc { requests = acc.requests ++ area ∷ [] }) o → IsPlaced area acc o
asked_so area acc (Done x) h = record { fit = h.fit; heap = h.heap; taken = h.taken }
asked_so area acc (Stopped e end) h = tt
asked_so area acc (Stuck end) h = tt

placing_so : {V : Type 0} (area : Request) (acc : Account V) → IsPlaced area acc (placing area acc)
placing_so area acc =
    if_placed area acc (nat_eq area.size 0 || nat_eq area.align 0) _ _ (λ e. tt) (λ e. asked_so area acc (placed area acc.choices (record acc { requests = acc.requests ++ area ∷ [] })) (placed_so area acc.choices (record acc { requests = acc.requests ++ area ∷ [] })))

pub placing_is : {V : Type 0} (area : Request) (acc : Account V) (x : Got V ℕ) → placing area acc ≡ Done x → Placed area acc x
placing_is area acc x e = subst (IsPlaced area acc) e (placing_so area acc)

-- what is known of an outcome that is followed
pub follows_known : {V A S : Type 0} (account : S → Account V) (o : Outcome V A) (q : Outcome V S) (P : A → S → Type 0) → Follows account o q P → Follows account o q (λ x t. (o ≡ Done x) × P x t)
follows_known account (Done x) q P h = (h.0, h.1, (refl, h.2))
follows_known account (Stopped e acc) q P h = h
follows_known account (Stuck acc) q P h = h

-- 2. Owners that are let go, and one that is left

releases_some : (places taken rest : List ℕ) → SameItems taken (places ++ rest) → (left : List ℕ) × Releases places taken left × SameItems left rest
releases_some [] taken rest h = (taken, refl, h)
releases_some (a ∷ places) taken rest h =
    let here : is_taken a taken ≡ true = is_there a taken (omega (arith, h (is_it a), same_is a)) in
    let later = releases_some places (without a taken) rest (λ g. omega (arith, h g, without_one g a taken here)) in
    (later.0, (here, later.1), later.2)

pub only_one : (left : List ℕ) (a : ℕ) → SameItems left (a ∷ []) → left ≡ a ∷ []
only_one [] a h = absurd (omega (arith, h (λ x. 1)))
only_one (x ∷ []) a h = by (nat_eq x a) refl
  where
    by : (t : Bool) → nat_eq x a ≡ t → x ∷ [] ≡ a ∷ []
    by true e = ap (λ n. n ∷ []) (eqb-true x a e)
    by false e = absurd (let count : is_it a x ≡ 0 = ap (λ t. if t then 1 else 0) e in omega (arith, h (is_it a), same_is a, count))
only_one (x ∷ y ∷ left) a h = absurd (omega (arith, h (λ n. 1)))

-- what an area that fits is
pub record Fitting (area : Request) (address : ℕ) (blocks : List Block) : Type 0 where
  pub good : is_block (area_block address area) ≡ true
  pub apart : overlaps_any (area_block address area) blocks ≡ false
  pub aligned : address % area.align ≡ 0

fitting : (area : Request) (address : ℕ) (blocks : List Block) → fits area address blocks ≡ true → Fitting area address blocks
fitting area address blocks h =
    let b = area_block address area in
    let outer = and_parts (is_block b && not (overlaps_any b blocks)) (nat_eq (address % area.align) 0) h in
    let inner = and_parts (is_block b) (not (overlaps_any b blocks)) outer.0 in
    record { good = inner.0; apart = not-true (overlaps_any b blocks) inner.1; aligned = eqb-true (address % area.align) 0 outer.1 }

pub record PlacedIn {V : Type 0} (area : Option Request) (acc : Account V) (x : Got V ℕ) : Type 0 where
  pub request : Request
  pub is : area ≡ Some request
  pub placed : Placed request acc x
  pub fit : Fitting request x.result acc.heap.blocks

pub pointing_is : {V : Type 0} (area : Option Request) (acc : Account V) (x : Got V ℕ) → pointing area None acc ≡ Done x → PlacedIn area acc x
pointing_is None acc x e = absurd (let h = e in cc)
pointing_is (Some area) acc x e = let p = placing_is area acc x e in record { request = area; is = refl; placed = p; fit = fitting area x.result acc.heap.blocks p.fit }

module _ {Self Operand : Type 0} (m : Meaning Self Operand) (sound : Sound m) where
  -- 3. The answer is stored there

  -- what stands in the area then, and in the heap besides it
  pub record StoredThere (t : Shape) (v : Value t) (own : List Block) (left : Heap) (area : Option Request) (address : Operand) (new : Self) (w : m.World) (p : Peer m.Item) (x : Got m.Item ℕ) (s0 s : m.State) : Type 0 where
    pub block : Block
    pub placed : NeedsArea true area (Some x.result) (block ∷ [])
    pub at : block.address ≡ x.result
    pub begins : Begins m.width give t v block own
    pub heap : Heap
    pub formed : is_heap heap ≡ true
    pub all : SameItems heap.blocks (left.blocks ++ block ∷ [])
    pub state : m.State
    pub done : m.does w p (m.code new) s0 ≡ Done state
    pub account : m.account state ≡ record x.account { heap = heap; taken = x.result ∷ [] }
    pub owns : SameItems (m.owns state ++ addresses own) (m.owns s)
    pub denotes : m.denotes w new (of address (word (core.Pointer x.result)) ∷ []) state

  needs_of : (area : Option Request) (request : Request) (b : Block) (q : ℕ) → area ≡ Some request → b.address ≡ q → b.size ≡ request.size → q % request.align ≡ 0 → NeedsArea true area (Some q) (b ∷ [])
  needs_of area request b q is at exact aligned =
      subst (λ r. NeedsArea true r (Some q) (b ∷ [])) (sym is) (record { block = b; is = refl; address = ap Some (sym at); aligned = subst (λ n. n % request.align ≡ 0) (sym at) aligned; exact = exact })

  module _ (t : Shape) (value address : Operand) (middle e : Self) (stores : LowersToMemory m true t value address nowhere middle e) (v : Value t) (a : m.Item) (own : List Block) (listed : IsListed t v) (stands : m.stands give t v a own)
      (w : m.World) (p : Peer m.Item) (s0 s3 : m.State) (asked : Asked) (holds : HoldsRecord m.width (m.area w) asked) (sized : bytes_at asked.size (2 ^ m.width) ≡ elem_size m.width (layout t))
      (grained : alignment_at asked.align (2 ^ m.width) ≡ alignment m.width (layout t)) (acc : Account m.Item) (good : is_heap acc.heap ≡ true) (owners : SameItems acc.taken (addresses own)) (x : Got m.Item ℕ) (here : PlacedIn (m.area w) acc x) (same : m.account s3 ≡ x.account)
      (serves : m.serves w e) (done : m.does w p (m.code middle) s0 ≡ Done s3) (denotes : m.denotes w middle (of address (word (core.Pointer x.result)) ∷ of value (item a) ∷ []) s3) where
    abbrev q : ℕ
    q = x.result

    abbrev blk : Block
    blk = area_block q here.request

    abbrev blocks3 : List Block
    blocks3 = acc.heap.blocks ++ blk ∷ []

    formed3 : is_heap (record { blocks = blocks3 }) ≡ true
    formed3 = is_formed (record { blocks = blocks3 }) (formed_added acc.heap.blocks blk (formed acc.heap good) here.fit.good here.fit.apart)

    room_for : HasRoomFor m.width here.request asked
    room_for = subst (λ r. HoldsRecord m.width r asked) here.is holds

    heap3 : (m.account s3).heap ≡ record { blocks = blocks3 }
    heap3 = ap (λ (z : Account m.Item). z.heap) same ∙ here.placed.heap

    there : Contains blocks3 blk
    there = contains_last acc.heap.blocks blk blocks3 (λ g. refl)

    room : HasRoom m.width t (reached m q nowhere) blk 0 (m.account s3).heap
    room = subst (HasRoom m.width t (reached m q nowhere) blk 0) (sym heap3) (record {
      formed = formed3;
      there = there;
      starts = omega arith;
      fits = let size = room_for.size in omega (size, sized, arith);
      aligned = subst (λ n. n % alignment m.width (layout t) ≡ 0) (let start : q ≡ reached m q nowhere = omega arith in start) (subst (λ n. q % n ≡ 0) grained (room_for.aligned q here.fit.aligned));
    })

    taken3 : SameItems (m.account s3).taken (addresses own ++ q ∷ [])
    taken3 g = ap (λ (z : Account m.Item). total g z.taken) same ∙ ap (total g) here.placed.taken ∙ total-append g acc.taken (q ∷ []) ∙ ap (λ n. n + total g (q ∷ [])) (owners g) ∙ sym (total-append g (addresses own) (q ∷ []))

    record LetGo : Type 0 where
      pub left : List ℕ
      pub goes : Releases (addresses own) (m.account s3).taken left
      pub only : left ≡ q ∷ []

    let_go : LetGo
    let_go = let r = releases_some (addresses own) (m.account s3).taken (q ∷ []) taken3 in record { left = r.0; goes = r.1; only = only_one r.0 q r.2 }

    pub stored_there : StoredThere t v own acc.heap (m.area w) address e w p x s0 s3
    stored_there =
        let pointer : Facts m = of address (word (core.Pointer q)) ∷ [] in
        let twice : m.denotes w middle ((pointer ++ pointer) ++ ((of value (item a) ∷ []) ++ [])) s3 = sound.again w middle address (core.Pointer q) (of value (item a) ∷ []) s3 denotes in
        let at3 : At m w p middle e (of value (item a) ∷ of address (word (core.Pointer q)) ∷ pointer) s0 s3 = record { serves = serves; done = done; holds = sound.swap w middle (pointer ++ pointer) (of value (item a) ∷ []) [] s3 twice } in
        let ran = done_plainly m true (Holds m.width give t v) 0 (elem_size m.width (layout t)) blk 0 own let_go.left e w p pointer s0 s3 (requests m.width block_for t v) (stores.asks_nothing v)
        (stores.row [] v a own listed stands w p pointer s0 s3 q 0 blk let_go.left at3 room let_go.goes) in
        let now = ran.1 in
        let put = ran.3 in
        let after = ran.4 in
        let written = replaced_formed blocks3 blk now 0 (elem_size m.width (layout t)) formed3 there put.written in
        let size = room_for.size in
        record {
          block = now;
          placed = needs_of (m.area w) here.request now q here.is put.written.same_address put.written.same_size here.fit.aligned;
          at = put.written.same_address;
          begins = record {
            aligned = subst (λ n. n % alignment m.width (layout t) ≡ 0) (sym put.written.same_address) (subst (λ n. q % n ≡ 0) grained (room_for.aligned q here.fit.aligned));
            room = omega (size, sized, put.written.same_size, arith);
            holds = put.holds;
          };
          heap = record { blocks = replaced now blocks3 };
          formed = written.0;
          all = replaced_items acc.heap.blocks blk now blocks3 formed3 put.written.same_address (λ g. refl);
          state = ran.0;
          done = ran.2;
          account = after.account ∙ ap₂ (λ (h : Heap) (ts : List ℕ). record (m.account s3) { heap = record { blocks = replaced now h.blocks }; taken = ts }) heap3 let_go.only ∙ ap (λ (z : Account m.Item). record z { heap = record { blocks = replaced now blocks3 }; taken = q ∷ [] }) same;
          owns = λ g. after.owns g ∙ ap (total g) (append-nil (m.owns s3));
          denotes = after.denotes;
        }
