-- The heap when one block of it was written, by the code or by a peer: what stands where, and what may be taken over.
use Rattle.std.proofs.Common.{◌≡◌, ◌≤◌, ◌<◌, ℕ, ◌+◌, true, if◌then◌else◌, List, [], ◌∷◌, ◌++◌, Contains, refl, sym, ap, ◌∙◌, subst, arith, append_assoc}
use Rattle.std.specs.List.{AllByRecursion}
use Rattle.std.proofs.lemmas.Bool.{eq-eqb}
use Rattle.wrapper_data.specs.Answered.{answered, with_writes, written_block, written_byte}
use Rattle.wrapper_data.specs.Heap.{is_heap}
use Rattle.wrapper_data.specs.declared.block.Block.{Block}
use Rattle.wrapper_data.specs.declared.heap.Heap.{Heap}
use Rattle.wrapper_data.proofs.FormedHeaps.{formed, formed_answered, formed_written, is_formed}
use Rattle.wrapper_meaning.specs.Honest.{are_new}
use Rattle.wrapper_meaning.specs.Items.{AllIn, AtMost, SameItems, total}
use Rattle.wrapper_meaning.proofs.HeapBlocks.{all_in_heap, at_address, at_most_one, still_there}
use Rattle.wrapper_meaning.proofs.NewBlocks.{new_blocks_behind}
use Rattle.abi_bindgen.specs.Account.{Account, addresses}
use Rattle.abi_bindgen.specs.Lifts.{MayTake}
use Rattle.abi_bindgen.specs.Places.{replaced}
use Rattle.abi_bindgen.proofs.Done.{is_it}
use Rattle.abi_driver.proofs.HonestAnswers.{free_once}
use Rattle.abi_driver.proofs.Replaced.{byte_there, replaced_others, replaced_same, replaced_there, replaced_twice, split, there_again}
use Rattle.wrapper_meaning.proofs.PostReturn.{total-append}

-- 1. One block among others

-- the blocks but for one, and then that
pub contains_last : (given : List Block) (b : Block) (blocks : List Block) → SameItems blocks (given ++ b ∷ []) → Contains blocks b
contains_last given b blocks same = still_there (given ++ b ∷ []) blocks (λ g. sym (same g)) b (there_again given [] b)

-- another stands in its place
pub replaced_items : (given : List Block) (b after : Block) (blocks : List Block) → is_heap (record { blocks = blocks }) ≡ true → after.address ≡ b.address → SameItems blocks (given ++ b ∷ []) → SameItems (replaced after blocks) (given ++ after ∷ [])
replaced_items given b after blocks formed same all g =
    let s = split blocks b formed (contains_last given b blocks all) in
    let now : total g (replaced after blocks) ≡ total g (s.before ++ after ∷ s.behind) = ap (total g) (replaced_there after b blocks s same) in
    let was : total g blocks ≡ total g (s.before ++ b ∷ s.behind) = ap (total g) s.all in
    omega (arith, now, was, all g, total-append g s.before (after ∷ s.behind), total-append g s.before (b ∷ s.behind), total-append g given (b ∷ []), total-append g given (after ∷ []))

-- 2. Bytes that are written in one block

pub record WrittenInside (writes : List (ℕ × ℕ)) (blocks : List Block) (b : Block) : Type 0 where
  pub after : Block
  pub now : with_writes blocks writes ≡ replaced after blocks
  pub same_address : after.address ≡ b.address
  pub same_size : after.size ≡ b.size

address_kept : (b : Block) (address x : ℕ) → (written_block b address x).address ≡ b.address
unfolding written_block
address_kept b address x = refl

size_kept : (b : Block) (address x : ℕ) → (written_block b address x).size ≡ b.size
unfolding written_block
size_kept b address x = refl

abbrev pub IsInside : Block → ℕ × ℕ → Type 0
IsInside b write = (b.address ≤ write.0) × (write.0 < b.address + b.size)

inside_same : (b c : Block) (writes : List (ℕ × ℕ)) → c.address ≡ b.address → c.size ≡ b.size → AllByRecursion (IsInside b) writes → AllByRecursion (IsInside c) writes
inside_same b c [] at size h = tt
inside_same b c (write ∷ writes) at size h = ((omega (arith, at, h.0.0), omega (arith, at, size, h.0.1)), inside_same b c writes at size h.1)

pub writes_inside : (writes : List (ℕ × ℕ)) (blocks : List Block) (b : Block) → is_heap (record { blocks = blocks }) ≡ true → Contains blocks b → AllByRecursion (IsInside b) writes → WrittenInside writes blocks b
writes_inside [] blocks b good there h = record { after = b; now = sym (replaced_same blocks b good there); same_address = refl; same_size = refl }
writes_inside (write ∷ writes) blocks b good there h =
    let c = written_block b write.0 write.1 in
    let at = address_kept b write.0 write.1 in
    let size = size_kept b write.0 write.1 in
    let one : written_byte blocks write.0 write.1 ≡ replaced c blocks = byte_there blocks b write.0 write.1 good there h.0.0 h.0.1 at in
    let good1 : is_heap (record { blocks = replaced c blocks }) ≡ true =
    subst (λ (bs : List Block). is_heap (record { blocks = bs }) ≡ true) one (is_formed (record { blocks = written_byte blocks write.0 write.1 }) (formed_written blocks (write ∷ []) (formed (record { blocks = blocks }) good))) in
    let s = split blocks b good there in
    let there1 : Contains (replaced c blocks) c = subst (λ bs. Contains bs c) (sym (replaced_there c b blocks s at)) (there_again s.before s.behind c) in
    let rest = writes_inside writes (replaced c blocks) c good1 there1 (inside_same b c writes at size h.1) in
    record {
      after = rest.after;
      now = ap (λ bs. with_writes bs writes) one ∙ rest.now ∙ replaced_twice c rest.after blocks (sym rest.same_address);
      same_address = rest.same_address ∙ at;
      same_size = rest.same_size ∙ size;
    }

-- 3. Blocks that a peer brings

pub address_weighs : (a : ℕ) (blocks : List Block) → total (is_it a) (addresses blocks) ≡ total (at_address a) blocks
address_weighs a [] = refl
address_weighs a (b ∷ blocks) = ap (λ n. at_address a b + n) (address_weighs a blocks)

once : (blocks : List Block) (a : ℕ) → is_heap (record { blocks = blocks }) ≡ true → total (at_address a) blocks ≤ 1
once blocks a good = let well = formed (record { blocks = blocks }) good in at_most_one blocks a well.each well.apart

with_new : (heap : Heap) (new : List Block) → is_heap heap ≡ true → are_new new heap ≡ true → is_heap (record { blocks = heap.blocks ++ new }) ≡ true
with_new heap new good fresh =
    subst (λ (bs : List Block). is_heap (record { blocks = bs }) ≡ true) (new_blocks_behind heap new fresh) (is_formed (answered new [] heap) (formed_answered heap new [] (formed heap good)))

-- they may be taken over in any order, where all that have owners are other blocks
pub may_take_answered : {V : Type 0} (heap : Heap) (new own : List Block) (writes : List (ℕ × ℕ)) (acc : Account V) → is_heap heap ≡ true → are_new new heap ≡ true → SameItems new own → acc.heap ≡ answered new writes heap
    → AtMost acc.taken (addresses heap.blocks) → AllIn (answered new writes heap).blocks own → MayTake own acc
may_take_answered heap new own writes acc good fresh brings is owners there =
    record {
      formed = ap is_heap is ∙ is_formed (answered new writes heap) (formed_answered heap new writes (formed heap good));
      there = subst (λ (h : Heap). AllIn h.blocks own) (sym is) there;
      free = free_once own acc.taken (λ a. omega (
        arith,
        once (heap.blocks ++ new) a (with_new heap new good fresh),
        total-append (at_address a) heap.blocks new,
        brings (at_address a),
        owners (is_it a),
        address_weighs a heap.blocks,
      ));
    }

new_there : (heap : Heap) (new own : List Block) → SameItems new own → AllIn (heap.blocks ++ new) own
new_there heap new own brings = all_in_heap (heap.blocks ++ new) own heap.blocks (λ g. omega (arith, total-append g heap.blocks new, total-append g own heap.blocks, brings g))

-- where nothing is written, they stand behind the others
pub silent_there : (heap : Heap) (new own : List Block) → are_new new heap ≡ true → SameItems new own → AllIn (answered new [] heap).blocks own
silent_there heap new own fresh brings = subst (λ bs. AllIn bs own) (sym (new_blocks_behind heap new fresh)) (new_there heap new own brings)

still_all : (blocks : List Block) (after : Block) (own : List Block) → AllIn blocks own → AllByRecursion (λ c. c.address ≡ after.address → ⊥) own → AllIn (replaced after blocks) own
still_all blocks after [] h k = tt
still_all blocks after (c ∷ own) h k = (replaced_others blocks after c h.0 k.0, still_all blocks after own h.1 k.1)

weighs_itself : (a : ℕ) (c : Block) (own : List Block) → c.address ≡ a → total (at_address a) (c ∷ own) ≡ 1 + total (at_address a) own
weighs_itself a c own e = ap (λ b. (if b then 1 else 0) + total (at_address a) own) (eq-eqb c.address a e)

pub none_at_address : (a : ℕ) (own : List Block) → total (at_address a) own ≡ 0 → AllByRecursion (λ c. c.address ≡ a → ⊥) own
none_at_address a [] h = tt
none_at_address a (c ∷ own) h = (λ e. let one = weighs_itself a c own e in omega (arith, h, one), none_at_address a own (omega (arith, h)))

has_one : (b : Block) (before behind : List Block) → 1 ≤ total (at_address b.address) (before ++ b ∷ behind)
has_one b before behind = let itself = weighs_itself b.address b behind refl in let sum = total-append (at_address b.address) before (b ∷ behind) in omega (arith, itself, sum)

-- none of them stands at the address of a block of the heap
pub none_new_at : (heap : Heap) (new own : List Block) (b : Block) → is_heap heap ≡ true → are_new new heap ≡ true → SameItems new own → Contains heap.blocks b → total (at_address b.address) own ≡ 0
none_new_at heap new own b good fresh brings there =
    let s = split heap.blocks b good there in
    omega (arith, once (heap.blocks ++ new) b.address (with_new heap new good fresh), total-append (at_address b.address) heap.blocks new, brings (at_address b.address), subst (λ bs. 1 ≤ total (at_address b.address) bs) (sym s.all) (has_one b s.before s.behind))

-- where bytes are written in one block of the heap, they are as they were
pub written_there : (heap : Heap) (new own : List Block) (writes : List (ℕ × ℕ)) (b : Block) → is_heap heap ≡ true → are_new new heap ≡ true → SameItems new own → Contains heap.blocks b → AllByRecursion (IsInside b) writes
    → AllIn (answered new writes heap).blocks own
written_there heap new own writes b good fresh brings there inside =
    let all = heap.blocks ++ new in
    let behind = new_blocks_behind heap new fresh in
    let good1 = with_new heap new good fresh in
    let s = split heap.blocks b good there in
    let whole : all ≡ s.before ++ b ∷ (s.behind ++ new) = ap (λ bs. bs ++ new) s.all ∙ append_assoc s.before (b ∷ s.behind) new in
    let there1 : Contains all b = subst (λ bs. Contains bs b) (sym whole) (there_again s.before (s.behind ++ new) b) in
    let w = writes_inside writes all b good1 there1 inside in
    let none = none_new_at heap new own b good fresh brings there in
    let away : AllByRecursion (λ c. c.address ≡ w.after.address → ⊥) own = subst (λ a. AllByRecursion (λ c. c.address ≡ a → ⊥) own) (sym w.same_address) (none_at_address b.address own none) in
    subst (λ bs. AllIn bs own) (sym (ap (λ bs. with_writes bs writes) behind ∙ w.now)) (still_all all w.after own (new_there heap new own brings) away)
