-- The heap after an honest peer's answer: the blocks that were given, those that the peer brought, and the area, in which alone it wrote.
use Rattle.std.proofs.Common.{◌≡◌, ◌≤◌, ℕ, Bool, true, false, cond, nat_eq, nat_lt, List, [], ◌∷◌, ◌++◌, Some, Contains, refl, sym, ap, ◌∙◌, arith}
use Rattle.std.specs.List.{AllByRecursion}
use Rattle.std.proofs.lemmas.Bool.{and_from, and_parts, eq-eqb, eqb-true, lt-ltb}
use Rattle.wrapper_data.specs.Answered.{answered, with_blocks}
use Rattle.wrapper_data.specs.declared.block.Block.{Block}
use Rattle.wrapper_data.specs.declared.heap.Heap.{Heap}
use Rattle.wrapper_data.specs.Heap.{is_block, is_heap, overlaps}
use Rattle.wrapper_data.proofs.FormedHeaps.{formed, formed_answered, is_formed}
use Rattle.wrapper_meaning.specs.Honest.{WritesIn, are_new}
use Rattle.wrapper_meaning.specs.Items.{SameItems, total}
use Rattle.wrapper_meaning.proofs.Lists.{some_same}
use Rattle.wrapper_meaning.proofs.NewBlocks.{new_blocks_behind}
use Rattle.wrapper_run.specs.Memory.{begins_at, block_at, block_from, is_at, without}
use Rattle.abi_bindgen.specs.Account.{addresses}
use Rattle.abi_driver.proofs.AreaHeaps.{IsInside, contains_last, replaced_items, writes_inside}
use Rattle.abi_driver.proofs.Replaced.{find_there, is_sized, meet}
use Rattle.wrapper_meaning.proofs.PostReturn.{total-append}

-- 1. A block that is freed by its address

sized_at : (b c : Block) → is_block c ≡ true → is_block b ≡ true → c.address ≡ b.address → overlaps c b ≡ true
sized_at b c good_c good_b at =
    let one = is_sized c good_c in
    let two = is_sized b good_b in
    meet c b b.address (omega (arith, at)) (omega (arith, at, one.some)) (omega arith) (omega (arith, two.some))

tells_begin : (b c : Block) → is_block b ≡ true → is_block c ≡ true → begins_at b.address c ≡ true → overlaps c b ≡ true
tells_begin b c good_b good_c h = sized_at b c good_c good_b (eqb-true c.address b.address (and_parts (nat_eq c.address b.address) (nat_lt 0 c.size) h).0)

tells_at : (b c : Block) → is_block b ≡ true → is_block c ≡ true → is_at b.address b.size c ≡ true → overlaps c b ≡ true
tells_at b c good_b good_c h = sized_at b c good_c good_b (eqb-true c.address b.address (and_parts (nat_eq c.address b.address) (nat_eq c.size b.size) h).0)

pub begins_there : (blocks : List Block) (b : Block) → is_heap (record { blocks = blocks }) ≡ true → Contains blocks b → is_block b ≡ true → block_from b.address blocks ≡ Some b
begins_there blocks b whole there good =
    find_there (begins_at b.address) blocks b whole there (λ c good_c h. tells_begin b c good good_c h)
    (and_from (nat_eq b.address b.address) (nat_lt 0 b.size) (eq-eqb b.address b.address refl) (lt-ltb 0 b.size (is_sized b good).some))

-- what is left then

gone : (blocks : List Block) (b : Block) (p n : ℕ) → block_at p n blocks ≡ Some b → SameItems (without p n blocks ++ b ∷ []) blocks
gone [] b p n e = absurd (cc)
gone (c ∷ blocks) b p n e = by_test (is_at p n c) refl e (gone blocks b p n)
  where
    by_test : (q : Bool) → is_at p n c ≡ q → cond q (Some c) (block_at p n blocks) ≡ Some b → (block_at p n blocks ≡ Some b → SameItems (without p n blocks ++ b ∷ []) blocks)
        → SameItems (cond q blocks (c ∷ without p n blocks) ++ b ∷ []) (c ∷ blocks)
    by_test true t e later = λ weight. omega (total-append weight blocks (b ∷ []), ap weight (some_same c b e), arith)
    by_test false t e later = λ weight. omega (later e weight, arith)

pub left_without : (blocks : List Block) (b : Block) → is_heap (record { blocks = blocks }) ≡ true → Contains blocks b → is_block b ≡ true → SameItems (without b.address b.size blocks ++ b ∷ []) blocks
left_without blocks b whole there good =
    gone blocks b b.address b.size
    (find_there (is_at b.address b.size) blocks b whole there (λ c good_c h. tells_at b c good good_c h)
    (and_from (nat_eq b.address b.address) (nat_eq b.size b.size) (eq-eqb b.address b.address refl) (eq-eqb b.size b.size refl)))

-- 2. The heap after an answer

-- the area after the answer, beside the given blocks and the new ones
pub record AreaAfter (given area new : List Block) (writes : List (ℕ × ℕ)) (heap : Heap) : Type 0 where
  pub after : List Block
  pub all : SameItems (answered new writes heap).blocks ((given ++ new) ++ after)
  pub same : addresses after ≡ addresses area

module _ (given area new : List Block) (heap : Heap) (whole : is_heap heap ≡ true) (kept : SameItems heap.blocks (given ++ area)) (fresh : are_new new heap ≡ true) where
  with_new : SameItems (with_blocks heap.blocks new) ((given ++ new) ++ area)
  with_new g =
      let behind = ap (total g) (new_blocks_behind heap new fresh) in
      omega (arith, behind, kept g, total-append g heap.blocks new, total-append g given area, total-append g (given ++ new) area, total-append g given new)

  -- nothing was written
  pub silent : AreaAfter given area new [] heap
  silent = record { after = area; all = with_new; same = refl }

  -- all was written in the one block of the area
  pub spoken : (b : Block) → area ≡ b ∷ [] → (writes : List (ℕ × ℕ)) (address size : ℕ) → b.address ≡ address → size ≤ b.size → WritesIn address size writes → AreaAfter given area new writes heap
  spoken b is writes address size at fit inside =
      let blocks = with_blocks heap.blocks new in
      let there : Contains blocks b = contains_last (given ++ new) b blocks (λ g. with_new g ∙ ap (λ xs. total g ((given ++ new) ++ xs)) is) in
      let good : is_heap (record { blocks = blocks }) ≡ true = is_formed (answered new [] heap) (formed_answered heap new [] (formed heap whole)) in
      let done = writes_inside writes blocks b good there (in_block b address size at fit writes inside) in
      let items = replaced_items (given ++ new) b done.after blocks good done.same_address (λ g. with_new g ∙ ap (λ xs. total g ((given ++ new) ++ xs)) is) in
      record {
        after = done.after ∷ [];
        all = λ g. ap (total g) done.now ∙ items g;
        same = ap (λ a. a ∷ []) done.same_address ∙ sym (ap addresses is);
      }
    where
      in_block : (c : Block) (address size : ℕ) → c.address ≡ address → size ≤ c.size → (writes : List (ℕ × ℕ)) → WritesIn address size writes → AllByRecursion (IsInside c) writes
      in_block c address size at fit [] h = tt
      in_block c address size at fit (write ∷ writes) h = ((omega (arith, at, h.0.0), omega (arith, at, fit, h.0.1)), in_block c address size at fit writes h.1)
