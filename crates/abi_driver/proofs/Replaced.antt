-- One block of a well-formed heap: it is the first that passes each test that no other passes, and it can be replaced by one that was written.
use Rattle.std.proofs.Common.{◌≡◌, ℕ, zero, suc, ◌+◌, ◌^◌, ◌<◌, ◌≤◌, Bool, true, false, not, ◌&&◌, ◌||◌, nat_eq, nat_lt, nat_le, if◌then◌else◌, List, [], ◌∷◌, ◌++◌, length, find, Some, Contains, refl, sym, ap, ap₂, ◌∙◌, subst, arith}
use Rattle.std.specs.List.{AllByRecursion, list_all, list_any, slice_index_or}
use Rattle.std.proofs.lemmas.Bool.{and_parts, and_from, cond-false, cond-true, eq-eqb, le-leb, leb-true, lt-ltb, ltb-true, ne_eqb, not-true, true≢false}
use Rattle.wrapper_data.specs.Answered.{written_block, written_byte}
use Rattle.wrapper_data.specs.Heap.{are_apart, are_cells, covers, is_block, is_heap, overlaps, overlaps_any}
use Rattle.wrapper_data.specs.declared.block.Block.{Block}
use Rattle.wrapper_meaning.proofs.Lists.{none_at}
use Rattle.abi_bindgen.specs.Places.{IsWritten, replaced}
use Rattle.wrapper_meaning.proofs.HeapBlocks.{behind_one}

-- 1. The blocks before and behind one

-- what is said of a block
pub record IsSized (b : Block) : Type 0 where
  pub some : 0 < b.size
  pub above : 0 < b.address
  pub below : b.address + b.size ≤ 2 ^ 32
  pub ordered : are_cells 0 b.size b.cells ≡ true

pub is_sized : (b : Block) → is_block b ≡ true → IsSized b
is_sized b good =
    let outer = and_parts (nat_lt 0 b.size && nat_lt 0 b.address && nat_le (b.address + b.size) (2 ^ 32)) (are_cells 0 b.size b.cells) good in
    let inner = and_parts (nat_lt 0 b.size && nat_lt 0 b.address) (nat_le (b.address + b.size) (2 ^ 32)) outer.0 in
    let both = and_parts (nat_lt 0 b.size) (nat_lt 0 b.address) inner.0 in
    record { some = ltb-true 0 b.size both.0; above = ltb-true 0 b.address both.1; below = leb-true (b.address + b.size) (2 ^ 32) inner.1; ordered = outer.1 }

pub block_from : (b : Block) → IsSized b → is_block b ≡ true
block_from b sized =
    and_from _ _ (and_from _ _ (and_from _ _ (lt-ltb 0 b.size sized.some) (lt-ltb 0 b.address sized.above)) (le-leb (b.address + b.size) (2 ^ 32) sized.below)) sized.ordered

abbrev IsAway : Block → Block → Type 0
IsAway b c = (is_block c ≡ true) × (overlaps c b ≡ false)

pub record Split (blocks : List Block) (b : Block) : Type 0 where
  pub before : List Block
  pub behind : List Block
  pub all : blocks ≡ before ++ b ∷ behind
  pub formed : is_block b ≡ true
  pub away : AllByRecursion (IsAway b) before

split_at : (blocks : List Block) (b : Block) → list_all is_block blocks ≡ true → are_apart blocks ≡ true → (k : ℕ) → k < length blocks → slice_index_or blocks k b ≡ b → Split blocks b
split_at [] b good apart k l e = absurd (omega (arith, l))
split_at (x ∷ blocks) b good apart zero l e =
    record { before = []; behind = blocks; all = ap (λ y. y ∷ blocks) e; formed = sym (ap is_block e) ∙ (and_parts (is_block x) (list_all is_block blocks) good).0; away = tt }
split_at (x ∷ blocks) b good apart (suc k) l e =
    let goods = and_parts (is_block x) (list_all is_block blocks) good in
    let parts = and_parts (not (overlaps_any x blocks)) (are_apart blocks) apart in
    let lower : k < length blocks = omega (arith, l) in
    let rest = split_at blocks b goods.1 parts.1 k lower e in
    record { before = x ∷ rest.before; behind = rest.behind; all = ap (λ bs. x ∷ bs) rest.all; formed = rest.formed; away = ((goods.0, none_at (overlaps x) blocks k b (not-true _ parts.0) lower e), rest.away) }

pub split : (blocks : List Block) (b : Block) → is_heap (record { blocks = blocks }) ≡ true → Contains blocks b → Split blocks b
split blocks b formed there =
    let heap = and_parts (list_all is_block blocks) (are_apart blocks) formed in
    split_at blocks b heap.0 heap.1 there.0 there.1 there.2

pub there_again : (before behind : List Block) (b : Block) → Contains (before ++ b ∷ behind) b
there_again [] behind b = (0, omega arith, refl)
there_again (x ∷ before) behind b =
    let rest = there_again before behind b in
    (suc rest.0, let l = rest.1 in omega arith, rest.2)

pub block_formed : (blocks : List Block) (b : Block) → is_heap (record { blocks = blocks }) ≡ true → Contains blocks b → is_block b ≡ true
block_formed blocks b formed there = (split blocks b formed there).formed

-- two blocks that have an address in common
pub meet : (c b : Block) (address : ℕ) → c.address ≤ address → address < c.address + c.size → b.address ≤ address → address < b.address + b.size → overlaps c b ≡ true
meet c b address l h l' h' =
    and_from _ _ (lt-ltb c.address (b.address + b.size) (omega (arith, l, h'))) (lt-ltb b.address (c.address + c.size) (omega (arith, l', h)))

-- 2. A test that no other block passes

-- whoever passes overlaps the block
abbrev pub Tells : (Block → Bool) → Block → Type 0
Tells passes b = (c : Block) → is_block c ≡ true → passes c ≡ true → overlaps c b ≡ true

fails : (passes : Block → Bool) (b c : Block) → Tells passes b → IsAway b c → passes c ≡ false
fails passes b c tells away = by (passes c) refl
  where
    by : (t : Bool) → passes c ≡ t → t ≡ false
    by false e = refl
    by true e = absurd (true≢false (sym (tells c away.0 e) ∙ away.1))

find_behind : (passes : Block → Bool) (b : Block) (before behind : List Block) → Tells passes b → passes b ≡ true → AllByRecursion (IsAway b) before → find passes (before ++ b ∷ behind) ≡ Some b
find_behind passes b [] behind tells yes_b away = cond-true (passes b) _ _ yes_b
find_behind passes b (x ∷ before) behind tells yes_b away =
    cond-false (passes x) _ _ (fails passes b x tells away.0) ∙ find_behind passes b before behind tells yes_b away.1

-- the block is the first that passes
pub find_there : (passes : Block → Bool) (blocks : List Block) (b : Block) → is_heap (record { blocks = blocks }) ≡ true → Contains blocks b → Tells passes b → passes b ≡ true → find passes blocks ≡ Some b
find_there passes blocks b formed there tells yes_b =
    let s = split blocks b formed there in
    ap (find passes) s.all ∙ find_behind passes b s.before s.behind tells yes_b s.away

-- 3. One block replaced

abbrev pub IsElsewhere : Block → Block → Type 0
IsElsewhere b c = c.address ≡ b.address → ⊥

replaced_behind : (after b : Block) (before behind : List Block) → after.address ≡ b.address → AllByRecursion (IsElsewhere b) before → replaced after (before ++ b ∷ behind) ≡ before ++ after ∷ behind
replaced_behind after b [] behind same away = cond-true (nat_eq b.address after.address) _ _ (eq-eqb b.address after.address (sym same))
replaced_behind after b (x ∷ before) behind same away =
    cond-false (nat_eq x.address after.address) _ _ (ne_eqb x.address after.address (λ e. away.0 (e ∙ same))) ∙ ap (λ bs. x ∷ bs) (replaced_behind after b before behind same away.1)

pub replaced_split : (after b : Block) (before behind blocks : List Block) → blocks ≡ before ++ b ∷ behind → after.address ≡ b.address → AllByRecursion (IsElsewhere b) before → replaced after blocks ≡ before ++ after ∷ behind
replaced_split after b before behind blocks all same away = ap (replaced after) all ∙ replaced_behind after b before behind same away

pub elsewhere : (b : Block) (before : List Block) → is_block b ≡ true → AllByRecursion (IsAway b) before → AllByRecursion (IsElsewhere b) before
elsewhere b [] good away = tt
elsewhere b (c ∷ before) good away =
    let sized = is_sized b good in
    let other = is_sized c away.0.0 in
    (λ e. true≢false (sym (meet c b b.address (omega (arith, e)) (omega (arith, e, other.some)) (omega arith) (omega (arith, sized.some))) ∙ away.0.1), elsewhere b before good away.1)

-- the block of a heap, replaced
pub replaced_there : (after b : Block) (blocks : List Block) (s : Split blocks b) → after.address ≡ b.address → replaced after blocks ≡ s.before ++ after ∷ s.behind
replaced_there after b blocks s same = replaced_split after b s.before s.behind blocks s.all same (elsewhere b s.before s.formed s.away)

pub replaced_same : (blocks : List Block) (b : Block) → is_heap (record { blocks = blocks }) ≡ true → Contains blocks b → replaced b blocks ≡ blocks
replaced_same blocks b formed there =
    let s = split blocks b formed there in
    replaced_there b b blocks s refl ∙ sym s.all

pub replaced_twice : (after later : Block) (blocks : List Block) → after.address ≡ later.address → replaced later (replaced after blocks) ≡ replaced later blocks
replaced_twice after later [] same = refl
replaced_twice after later (x ∷ blocks) same = by (nat_eq x.address after.address) refl (replaced_twice after later blocks same)
  where
    by : (t : Bool) → nat_eq x.address after.address ≡ t → replaced later (replaced after blocks) ≡ replaced later blocks → replaced later (if t then after ∷ blocks else x ∷ replaced after blocks) ≡ replaced later (x ∷ blocks)
    by true e rest =
        cond-true (nat_eq after.address later.address) _ _ (eq-eqb after.address later.address same)
        ∙ sym (cond-true (nat_eq x.address later.address) _ _ (ap (nat_eq x.address) (sym same) ∙ e))
    by false e rest =
        let other : nat_eq x.address later.address ≡ false = ap (nat_eq x.address) (sym same) ∙ e in
        cond-false (nat_eq x.address later.address) _ _ other ∙ ap (λ bs. x ∷ bs) rest ∙ sym (cond-false (nat_eq x.address later.address) _ _ other)

others_at : (after c : Block) (blocks : List Block) (k : ℕ) → k < length blocks → slice_index_or blocks k c ≡ c → (c.address ≡ after.address → ⊥) → Contains (replaced after blocks) c
others_at after c [] k l e other = absurd (omega (arith, l))
others_at after c (x ∷ blocks) zero l e other =
    let not_here : nat_eq x.address after.address ≡ false = ne_eqb x.address after.address (λ same. other (sym (ap (λ (y : Block). y.address) e) ∙ same)) in
    subst (λ bs. Contains bs c) (sym (cond-false (nat_eq x.address after.address) (after ∷ blocks) (x ∷ replaced after blocks) not_here)) (0, omega arith, e)
others_at after c (x ∷ blocks) (suc k) l e other = by (nat_eq x.address after.address) (others_at after c blocks k (omega (arith, l)) e other)
  where
    by : (t : Bool) → Contains (replaced after blocks) c → Contains (if t then after ∷ blocks else x ∷ replaced after blocks) c
    by true rest = (suc k, omega (arith, l), e)
    by false rest = behind_one x c (replaced after blocks) rest

pub replaced_others : (blocks : List Block) (after c : Block) → Contains blocks c → (c.address ≡ after.address → ⊥) → Contains (replaced after blocks) c
replaced_others blocks after c there other = others_at after c blocks there.0 there.1 there.2 other

-- 4. The heap stays well formed

module _ (b after : Block) (address : after.address ≡ b.address) (size : after.size ≡ b.size) where
  overlaps_same : (c : Block) → overlaps c after ≡ overlaps c b
  overlaps_same c = ap₂ (λ a s. nat_lt c.address (a + s) && nat_lt a (c.address + c.size)) address size

  overlaps_any_same : (c : Block) (before behind : List Block) → overlaps_any c (before ++ after ∷ behind) ≡ overlaps_any c (before ++ b ∷ behind)
  overlaps_any_same c [] behind = ap (λ t. t || overlaps_any c behind) (overlaps_same c)
  overlaps_any_same c (x ∷ before) behind = ap (λ t. overlaps c x || t) (overlaps_any_same c before behind)

  apart_same : (before behind : List Block) → are_apart (before ++ after ∷ behind) ≡ are_apart (before ++ b ∷ behind)
  apart_same [] behind = ap₂ (λ a s. not (list_any (λ d. nat_lt a (d.address + d.size) && nat_lt d.address (a + s)) behind) && are_apart behind) address size
  apart_same (x ∷ before) behind = ap₂ (λ p q. not p && q) (overlaps_any_same x before behind) (apart_same before behind)

  blocks_same : (before behind : List Block) → is_block after ≡ is_block b → list_all is_block (before ++ after ∷ behind) ≡ list_all is_block (before ++ b ∷ behind)
  blocks_same [] behind same = ap (λ t. t && list_all is_block behind) same
  blocks_same (x ∷ before) behind same = ap (λ t. is_block x && t) (blocks_same before behind same)

pub replaced_formed : (blocks : List Block) (b after : Block) (k n : ℕ) → is_heap (record { blocks = blocks }) ≡ true → Contains blocks b → IsWritten k n b after → (is_heap (record { blocks = replaced after blocks }) ≡ true) × Contains (replaced after blocks) after
replaced_formed blocks b after k n formed there written =
    let s = split blocks b formed there in
    let now = replaced_there after b blocks s written.same_address in
    let good = blocks_same b after written.same_address written.same_size s.before s.behind (written.formed ∙ sym s.formed) in
    let apart = apart_same b after written.same_address written.same_size s.before s.behind in (
      ap (λ bs. list_all is_block bs && are_apart bs) now ∙ ap₂ (λ p q. p && q) good apart ∙ sym (ap (λ bs. list_all is_block bs && are_apart bs) s.all) ∙ formed,
      subst (λ bs. Contains bs after) (sym now) (there_again s.before s.behind after),
    )

-- 5. A byte in it

byte_behind : (b : Block) (before behind : List Block) (address x : ℕ) → Tells (covers address) b → covers address b ≡ true → AllByRecursion (IsAway b) before → written_byte (before ++ b ∷ behind) address x ≡ before ++ written_block b address x ∷ behind
byte_behind b [] behind address x tells here away = cond-true (covers address b) _ _ here
byte_behind b (c ∷ before) behind address x tells here away =
    cond-false (covers address c) _ _ (fails (covers address) b c tells away.0) ∙ ap (λ bs. c ∷ bs) (byte_behind b before behind address x tells here away.1)

-- whoever covers an address of the block overlaps it
covers_tells : (b : Block) (address : ℕ) → b.address ≤ address → address < b.address + b.size → Tells (covers address) b
covers_tells b address l h c good passes =
    let both = and_parts (nat_le c.address address) (nat_lt address (c.address + c.size)) passes in
    meet c b address (leb-true c.address address both.0) (ltb-true address (c.address + c.size) both.1) l h

-- a byte at an address of the block is written there
pub byte_there : (blocks : List Block) (b : Block) (address x : ℕ) → is_heap (record { blocks = blocks }) ≡ true → Contains blocks b → b.address ≤ address → address < b.address + b.size → (written_block b address x).address ≡ b.address
    → written_byte blocks address x ≡ replaced (written_block b address x) blocks
byte_there blocks b address x formed there l h same =
    let s = split blocks b formed there in
    let here : covers address b ≡ true = and_from _ _ (le-leb b.address address l) (lt-ltb address (b.address + b.size) h) in
    ap (λ bs. written_byte bs address x) s.all ∙ byte_behind b s.before s.behind address x (covers_tells b address l h) here s.away ∙ sym (replaced_there (written_block b address x) b blocks s same)
