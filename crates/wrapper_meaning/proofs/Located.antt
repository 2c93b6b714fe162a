-- Which block a buffer lies in: its own block is the first of its blocks, and bytes that are lent lie in one block of a well-formed heap.
use Rattle.std.proofs.Common.{◌≡◌, ◌⊎◌, ◌<◌, ◌≤◌, ◌+◌, ℕ, zero, suc, Bool, true, false, not, List, [], ◌∷◌, ◌++◌, length, slice_index_or, Contains, refl, sym, ap, subst, arith, ◌∙◌}
use Rattle.std.proofs.lemmas.Bool.{and_parts, and_from, lt-ltb, true≢false, not-true}
use mathlib.Core.Logic.{inl, inr}
use Rattle.wrapper_data.specs.declared.block.Block.{Block}
use Rattle.wrapper_data.specs.Heap.{are_apart, is_heap, overlaps, overlaps_any}
use Rattle.wrapper_meaning.specs.Direction.{Direction, IsHeld, IsOwn, LiesIn, give, lend, make, take}
use Rattle.wrapper_meaning.specs.Laws.{IsWellPlaced}
use Rattle.wrapper_meaning.proofs.Lists.{first_or, later, none_at}

-- two blocks have an address in common
record Meets (b c : Block) : Type 0 where
  pub address : ℕ
  pub from : b.address ≤ address
  pub below : address < b.address + b.size
  pub from' : c.address ≤ address
  pub below' : address < c.address + c.size

overlap : (b c : Block) → Meets b c → overlaps b c ≡ true
overlap b c m =
    and_from _ _ (lt-ltb b.address (c.address + c.size) (omega (m.from, m.below', arith))) (lt-ltb c.address (b.address + b.size) (omega (m.from', m.below, arith)))

-- and are one
one_block : (heap : List Block) → are_apart heap ≡ true → (b c : Block) → Contains heap b → Contains heap c → Meets b c → b ≡ c
one_block heap apart b c (i, inside, at) (j, inside', at') m = by_place heap i j apart inside inside' at at'
  where
    by_place : (heap : List Block) (i j : ℕ) → are_apart heap ≡ true → i < length heap → j < length heap → slice_index_or heap i b ≡ b → slice_index_or heap j c ≡ c → b ≡ c
    by_place [] i j apart inside inside' at at' = absurd (omega (inside, arith))
    by_place (d ∷ heap) zero zero apart inside inside' at at' = sym at ∙ at'
    by_place (d ∷ heap) zero (suc j) apart inside inside' at at' =
        let free = not-true _ (and_parts (not (overlaps_any d heap)) (are_apart heap) apart).0 in
        absurd (true≢false (sym (overlap b c m) ∙ subst (λ x. overlaps x c ≡ false) at (none_at (overlaps d) heap j c free (omega (inside', arith)) at')))
    by_place (d ∷ heap) (suc i) zero apart inside inside' at at' =
        let free = not-true _ (and_parts (not (overlaps_any d heap)) (are_apart heap) apart).0 in
        let turned : Meets c b = record { address = m.address; from = m.from'; below = m.below'; from' = m.from; below' = m.below } in
        absurd (true≢false (sym (overlap c b turned) ∙ subst (λ x. overlaps x b ≡ false) at' (none_at (overlaps d) heap i b free (omega (inside, arith)) at)))
    by_place (d ∷ heap) (suc i) (suc j) apart inside inside' at at' =
        by_place heap i j (and_parts (not (overlaps_any d heap)) (are_apart heap) apart).1 (omega (inside, arith)) (omega (inside', arith)) at at'

-- two blocks in which the same bytes lie are one, but where there are no bytes
pub record Located (size : ℕ) (b c : Block) (k l : ℕ) (own own' r s : List Block) : Type 0 where
  pub same : own ≡ own'
  pub rest : r ≡ s
  pub place : (size ≡ 0) ⊎ ((b ≡ c) × (k ≡ l))

lent : (heap : List Block) → are_apart heap ≡ true → (p size : ℕ) (b c : Block) (k l : ℕ) (own own' r s : List Block)
    → LiesIn heap p size b k own → LiesIn heap p size c l own' → own ++ r ≡ own' ++ s → Located size b c k l own own' r s
lent heap apart p size b c k l own own' r s h g e =
    record { same = h.none ∙ sym g.none; rest = ap (λ o. o ++ r) (sym h.none) ∙ e ∙ ap (λ o. o ++ s) g.none; place = by_size size h g }
  where
    by_size : (size : ℕ) → LiesIn heap p size b k own → LiesIn heap p size c l own' → (size ≡ 0) ⊎ ((b ≡ c) × (k ≡ l))
    by_size zero h g = inl refl
    by_size (suc n) h g =
        let same = one_block heap apart b c h.there g.there (record { address = p; from = omega (h.starts, arith); below = omega (h.starts, h.room, arith); from' = omega (g.starts, arith); below' = omega (g.starts, g.room, arith) }) in
        inr (same, omega (h.starts, g.starts, ap (λ x. x.address) same, arith))

owned : (p size : ℕ) (b c : Block) (k l : ℕ) (own own' r s : List Block) → IsOwn p size b k own → IsOwn p size c l own' → own ++ r ≡ own' ++ s → Located size b c k l own own' r s
owned p size b c k l own own' r s h g e =
    let whole : b ∷ r ≡ c ∷ s = ap (λ o. o ++ r) (sym h.itself) ∙ e ∙ ap (λ o. o ++ s) g.itself in
    let same = ap (first_or b) whole in
    record { same = h.itself ∙ ap (λ x. x ∷ []) same ∙ sym g.itself; rest = ap later whole; place = inr (same, h.whole ∙ sym g.whole) }

apart_in : (blocks : List Block) → is_heap (record { blocks = blocks }) ≡ true → are_apart blocks ≡ true
apart_in blocks h = (and_parts _ (are_apart blocks) h).1

pub located : (dir : Direction) → IsWellPlaced dir → (plain : Bool) (p size : ℕ) (b c : Block) (k l : ℕ) (own own' r s : List Block)
    → IsHeld dir plain p size b k own → IsHeld dir plain p size c l own' → own ++ r ≡ own' ++ s → Located size b c k l own own' r s
located (lend blocks) well plain p size b c k l own own' r s h g e = lent blocks (apart_in blocks well) p size b c k l own own' r s h g e
located give well plain p size b c k l own own' r s h g e = owned p size b c k l own own' r s h g e
located take well plain p size b c k l own own' r s h g e = owned p size b c k l own own' r s h g e
located (make blocks) well true p size b c k l own own' r s h g e = lent blocks (apart_in blocks well) p size b c k l own own' r s h g e
located (make blocks) well false p size b c k l own own' r s h g e = owned p size b c k l own own' r s h g e
