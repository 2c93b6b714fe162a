-- Blocks of a heap beside an area may be freed, and they are gone then.
use Rattle.std.proofs.Common.{◌≡◌, ◌≤◌, ℕ, ◌+◌, true, List, [], ◌∷◌, ◌++◌, Contains, refl, sym, ap, ◌∙◌, subst, arith, append-nil, if◌then◌else◌}
use Rattle.std.proofs.lemmas.Bool.{eq-eqb}
use Rattle.wrapper_data.specs.declared.block.Block.{Block}
use Rattle.wrapper_data.specs.Heap.{is_heap}
use Rattle.wrapper_data.proofs.FormedHeaps.{formed}
use Rattle.wrapper_meaning.specs.Items.{SameItems, total}
use Rattle.wrapper_meaning.proofs.HeapBlocks.{all_in_heap, at_address, at_most_one}
use Rattle.abi_bindgen.specs.Account.{Account, is_at}
use Rattle.abi_bindgen.specs.Frees.{MayFree, by_freeing}
use Rattle.abi_bindgen.specs.Lifts.{AreFree, MayTake}
use Rattle.abi_bindgen.specs.Memory.{except, without_blocks}
use Rattle.abi_driver.proofs.Freeing.{may_after}
use Rattle.abi_driver.proofs.HonestAnswers.{free_once}
use Rattle.abi_driver.proofs.Replaced.{block_formed}
use Rattle.func_gen.proofs.MemoryTies.{without_is}
use Rattle.wrapper_closing.proofs.AnswerHeap.{left_without}
use Rattle.wrapper_meaning.proofs.PostReturn.{total-append}
use Rattle.abi_driver.proofs.AreaHeaps.{none_at_address}

-- 1. They may be freed

is_there : (b : Block) → at_address b.address b ≡ 1
is_there b = ap {B = ℕ} (λ q. if q then 1 else 0) (eq-eqb b.address b.address refl)

-- blocks without owners, beside that of an area
pub may_free : {V : Type 0} (own others : List Block) (b : Block) (acc : Account V) → is_heap acc.heap ≡ true → acc.taken ≡ [] → SameItems acc.heap.blocks (own ++ b ∷ others) → MayFree own b acc
may_free own others b acc whole free all =
    let f = formed acc.heap whole in
    let one : (a : ℕ) → total (at_address a) own + total (at_address a) (b ∷ others) ≤ 1 = λ a. omega (arith, at_most_one acc.heap.blocks a f.each f.apart, all (at_address a), total-append (at_address a) own (b ∷ others)) in
    record {
      may = record {
        formed = whole;
        there = all_in_heap acc.heap.blocks own (b ∷ others) all;
        free = subst (AreFree own) (sym free) (free_once own [] (λ a. omega (arith, one a)));
      };
      others = none_at_address b.address own (omega (arith, one b.address, is_there b));
    }

-- 2. They are gone then

one_gone : (b : Block) (blocks : List Block) → is_heap (record { blocks = blocks }) ≡ true → Contains blocks b → SameItems (except (is_at b.address b.size) blocks ++ b ∷ []) blocks
one_gone b blocks whole there g = ap (λ bs. total g (bs ++ b ∷ [])) (without_is b.address b.size blocks) ∙ left_without blocks b whole there (block_formed blocks b whole there) g

pub freed_are_gone : {V : Type 0} (own : List Block) (acc : Account V) → MayTake own acc → SameItems (without_blocks own acc.heap.blocks ++ own) acc.heap.blocks
freed_are_gone [] acc may g = ap (total g) (append-nil acc.heap.blocks)
freed_are_gone (b ∷ own) acc may g =
    let left = except (is_at b.address b.size) acc.heap.blocks in
    let later = freed_are_gone own (by_freeing (b ∷ []) acc).account (may_after (b ∷ []) own acc may) g in
    let first = one_gone b acc.heap.blocks may.formed may.there.0 g in
    omega (arith, later, first, total-append g (without_blocks own left) (b ∷ own), total-append g (without_blocks own left) own, total-append g left (b ∷ []))
