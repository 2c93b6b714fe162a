-- Blocks of a well-formed heap that nobody owns are freed, and the others stay.
use Rattle.std.proofs.Common.{◌≡◌, ℕ, zero, suc, ◌-◌, ◌*◌, ◌^◌, ◌<◌, Bool, true, false, not, ◌&&◌, ◌||◌, nat_eq, nat_lt, if◌then◌else◌, List, [], ◌∷◌, ◌++◌, length, find, Option, None, Contains, refl, sym, ap, ap₂, ◌∙◌, subst, arith}
use Rattle.std.specs.List.{AllByRecursion, list_all, list_any, slice_index_or}
use Rattle.std.proofs.lemmas.Bool.{and_parts, and_from, cond-false, le-ltb, ne_eqb, or_parts, or_from, true≢false, not-true}
use Rattle.std.proofs.lemmas.List.Folds.{list_any-append}
use Rattle.wrapper_data.specs.Heap.{are_apart, is_block, is_heap, overlaps, overlaps_any}
use Rattle.wrapper_data.specs.declared.block.Block.{Block}
use Rattle.wrapper_data.specs.declared.form.Form.{Form}
use Rattle.wrapper_meaning.specs.Buffer.{IsPlaced}
use Rattle.wrapper_meaning.specs.Direction.{give}
use Rattle.wrapper_meaning.specs.InMemory.{TextHolds}
use Rattle.wrapper_meaning.specs.Items.{AllIn}
use Rattle.abi_bindgen.specs.Account.{Account, Done, Got, Outcome, is_at, is_taken}
use Rattle.abi_bindgen.specs.Frees.{MayFree, by_freeing}
use Rattle.abi_bindgen.specs.Lifts.{AreFree, MayTake}
use Rattle.abi_bindgen.specs.Memory.{except, freed, freeing, without_blocks}
use Rattle.abi_bindgen.proofs.AllLemmas.{all_left, all_right}
use Rattle.abi_bindgen.proofs.Taken.{last_taken}
use Rattle.abi_driver.proofs.Storing.{find_block}
use Rattle.abi_driver.proofs.TakingOver.{may_first}
use Rattle.wrapper_meaning.proofs.HeapBlocks.{behind_one}

-- 1. The blocks without one that passes a test

except_all : (p q : Block → Bool) (blocks : List Block) → list_all p blocks ≡ true → list_all p (except q blocks) ≡ true
except_all p q [] h = refl
except_all p q (x ∷ blocks) h = let both = and_parts (p x) (list_all p blocks) h in by (q x) both.0 both.1 (except_all p q blocks both.1)
  where
    by : (t : Bool) → p x ≡ true → list_all p blocks ≡ true → list_all p (except q blocks) ≡ true → list_all p (if t then blocks else x ∷ except q blocks) ≡ true
    by true here all rest = all
    by false here all rest = and_from _ _ here rest

except_any : (p q : Block → Bool) (blocks : List Block) → list_any p blocks ≡ false → list_any p (except q blocks) ≡ false
except_any p q [] h = refl
except_any p q (x ∷ blocks) h = let both = or_parts (p x) (list_any p blocks) h in by (q x) both.0 both.1 (except_any p q blocks both.1)
  where
    by : (t : Bool) → p x ≡ false → list_any p blocks ≡ false → list_any p (except q blocks) ≡ false → list_any p (if t then blocks else x ∷ except q blocks) ≡ false
    by true here all rest = all
    by false here all rest = or_from _ _ here rest

except_apart : (q : Block → Bool) (blocks : List Block) → are_apart blocks ≡ true → are_apart (except q blocks) ≡ true
except_apart q [] h = refl
except_apart q (x ∷ blocks) h =
    let both = and_parts (not (overlaps_any x blocks)) (are_apart blocks) h in
    by (q x) both.1 (ap not (except_any (overlaps x) q blocks (not-true (overlaps_any x blocks) both.0))) (except_apart q blocks both.1)
  where
    by : (t : Bool) → are_apart blocks ≡ true → not (overlaps_any x (except q blocks)) ≡ true → are_apart (except q blocks) ≡ true → are_apart (if t then blocks else x ∷ except q blocks) ≡ true
    by true all away rest = all
    by false all away rest = and_from _ _ away rest

except_formed : (q : Block → Bool) (blocks : List Block) → is_heap (record { blocks = blocks }) ≡ true → is_heap (record { blocks = except q blocks }) ≡ true
except_formed q blocks formed =
    let heap = and_parts (list_all is_block blocks) (are_apart blocks) formed in
    and_from _ _ (except_all is_block q blocks heap.0) (except_apart q blocks heap.1)

except_at : (q : Block → Bool) (c : Block) (blocks : List Block) (k : ℕ) → k < length blocks → slice_index_or blocks k c ≡ c → q c ≡ false → Contains (except q blocks) c
except_at q c [] k l e fails = absurd (omega (arith, l))
except_at q c (x ∷ blocks) zero l e fails = subst (λ bs. Contains bs c) (sym (cond-false (q x) blocks (x ∷ except q blocks) (ap q e ∙ fails))) (0, omega arith, e)
except_at q c (x ∷ blocks) (suc k) l e fails = by (q x) (except_at q c blocks k (omega (arith, l)) e fails)
  where
    by : (t : Bool) → Contains (except q blocks) c → Contains (if t then blocks else x ∷ except q blocks) c
    by true rest = (k, omega (arith, l), e)
    by false rest = behind_one x c (except q blocks) rest

-- a block at another address stays
stays_there : (b c : Block) (blocks : List Block) → (c.address ≡ b.address → ⊥) → Contains blocks c → Contains (except (is_at b.address b.size) blocks) c
stays_there b c blocks other there =
    except_at (is_at b.address b.size) c blocks there.0 there.1 there.2 (ap (λ t. t && nat_eq c.size b.size) (ne_eqb c.address b.address other))

all_stay : (b : Block) (blocks others : List Block) → AllIn blocks others → AllByRecursion (λ c. c.address ≡ b.address → ⊥) others → AllIn (except (is_at b.address b.size) blocks) others
all_stay b blocks [] there away = tt
all_stay b blocks (c ∷ others) there away = (stays_there b c blocks away.0 there.0, all_stay b blocks others there.1 away.1)

-- 2. The blocks without some

pub without_formed : (own blocks : List Block) → is_heap (record { blocks = blocks }) ≡ true → is_heap (record { blocks = without_blocks own blocks }) ≡ true
without_formed [] blocks formed = formed
without_formed (b ∷ own) blocks formed = without_formed own (except (is_at b.address b.size) blocks) (except_formed (is_at b.address b.size) blocks formed)

pub without_there : (own blocks : List Block) (b : Block) → AllByRecursion (λ c. c.address ≡ b.address → ⊥) own → Contains blocks b → Contains (without_blocks own blocks) b
without_there [] blocks b away there = there
without_there (c ∷ own) blocks b away there = without_there own (except (is_at c.address c.size) blocks) b away.1 (stays_there c b blocks (λ e. away.0 (sym e)) there)

pub without_both : (xs ys blocks : List Block) → without_blocks (xs ++ ys) blocks ≡ without_blocks ys (without_blocks xs blocks)
without_both [] ys blocks = refl
without_both (x ∷ xs) ys blocks = without_both xs ys (except (is_at x.address x.size) blocks)

pub freed_both : {V : Type 0} (xs ys : List Block) (acc : Account V) → (by_freeing ys (by_freeing xs acc).account).account ≡ (by_freeing (xs ++ ys) acc).account
freed_both {V} xs ys acc =
    let finish : List Block → Account V = λ bs. record acc { heap = record { blocks = bs } } in
    ap finish (sym (without_both xs ys acc.heap.blocks))

-- 3. What may be freed after some was

-- whoever has no owner among some has none among fewer
abbrev pub IsFewer : (more less : List ℕ) → Type 0
IsFewer more less = (a : ℕ) → is_taken a more ≡ false → is_taken a less ≡ false

pub free_fewer : (blocks : List Block) (more less : List ℕ) → IsFewer more less → AreFree blocks more → AreFree blocks less
free_fewer [] more less fewer free = tt
free_fewer (b ∷ blocks) more less fewer free =
    let last : List ℕ = b.address ∷ [] in
    let still : IsFewer (more ++ last) (less ++ last) = λ a e.
    let both = or_parts (is_taken a more) (is_taken a last) (sym (list_any-append (λ t. nat_eq t a) more last) ∙ e) in
    list_any-append (λ t. nat_eq t a) less last ∙ or_from _ _ (fewer a both.0) both.1 in
    (fewer b.address free.0, free_fewer blocks (more ++ last) (less ++ last) still free.1)

-- blocks without owners are not at an address that has one
pub away_from : (blocks : List Block) (a : ℕ) (taken : List ℕ) → is_taken a taken ≡ true → AreFree blocks taken → AllByRecursion (λ c. c.address ≡ a → ⊥) blocks
away_from [] a taken has free = tt
away_from (c ∷ blocks) a taken has free =
    let still : is_taken a (taken ++ c.address ∷ []) ≡ true = list_any-append (λ t. nat_eq t a) taken (c.address ∷ []) ∙ ap (λ t. t || is_taken a (c.address ∷ [])) has in
    (λ e. true≢false (sym has ∙ ap (λ n. is_taken n taken) (sym e) ∙ free.0), away_from blocks a (taken ++ c.address ∷ []) still free.1)

after_one : {V : Type 0} (b : Block) (blocks : List Block) (acc : Account V) → MayTake (b ∷ blocks) acc → MayTake blocks (by_freeing (b ∷ []) acc).account
after_one b blocks acc may =
    let here : List ℕ = b.address ∷ [] in
    let fewer : IsFewer (acc.taken ++ here) acc.taken = λ a e. (or_parts (is_taken a acc.taken) (is_taken a here) (sym (list_any-append (λ t. nat_eq t a) acc.taken here) ∙ e)).0 in
    record {
      formed = except_formed (is_at b.address b.size) acc.heap.blocks may.formed;
      there = all_stay b acc.heap.blocks blocks may.there.1 (away_from blocks b.address (acc.taken ++ here) (last_taken b.address acc.taken) may.free.1);
      free = free_fewer blocks (acc.taken ++ here) acc.taken fewer may.free.1;
    }

pub may_after : {V : Type 0} (xs ys : List Block) (acc : Account V) → MayTake (xs ++ ys) acc → MayTake ys (by_freeing xs acc).account
may_after [] ys acc may = may
may_after (x ∷ xs) ys acc may = may_after xs ys (by_freeing (x ∷ []) acc).account (after_one x (xs ++ ys) acc may)

pub free_first : {V : Type 0} (xs ys : List Block) (b : Block) (acc : Account V) → MayFree (xs ++ ys) b acc → MayFree xs b acc
free_first xs ys b acc h = record { may = may_first xs ys acc h.may; others = all_left (λ (c : Block). c.address ≡ b.address → ⊥) xs ys h.others }

pub free_rest : {V : Type 0} (xs ys : List Block) (b : Block) (acc : Account V) → MayFree (xs ++ ys) b acc → MayFree ys b (by_freeing xs acc).account
free_rest xs ys b acc h = record { may = may_after xs ys acc h.may; others = all_right (λ (c : Block). c.address ≡ b.address → ⊥) xs ys h.others }

-- 4. Texts

freed_block : {V : Type 0} (f : Form) (b : Block) (n : ℕ) (acc : Account V) → b.size ≡ suc n → b.size < 2 ^ 31 → MayTake (b ∷ []) acc → freeing f b.address (suc n) acc ≡ Done (by_freeing (b ∷ []) acc)
freed_block {V} f b n acc size bounded may =
    let there : Option Block = find (is_at b.address (suc n)) acc.heap.blocks in
    let look : Option Block → Outcome V (Got V (Unit {0})) = λ o. freed f b.address (suc n) o acc in
    let finish : ℕ → Outcome V (Got V (Unit {0})) = λ k. Done (record { result = tt; account = record acc { heap = record { blocks = except (is_at b.address k) acc.heap.blocks } } }) in
    cond-false (nat_lt (2 ^ 31 - 1) (suc n)) _ _ (le-ltb (2 ^ 31 - 1) (suc n) (omega (arith, bounded, size)))
    ∙ ap look (cond-false (is_taken b.address acc.taken) None there may.free.0 ∙ ap (λ k. find (is_at b.address k) acc.heap.blocks) (sym size) ∙ find_block acc.heap.blocks b may.formed may.there.0)
    ∙ ap finish (sym size)

-- the block of a text that is given, if it has one
pub frees_text : {V : Type 0} (f : Form) (address : ℕ) (bytes : List ℕ) (own : List Block) (acc : Account V) → length bytes * 1 < 2 ^ 31
    → IsPlaced give true address (length bytes) 1 (TextHolds bytes) own → MayTake own acc → freeing f address (length bytes) acc ≡ Done (by_freeing own acc)
frees_text {V} f address [] own acc bounded placed may = ap (λ (bs : List Block). Done (by_freeing bs acc)) (sym placed.1)
frees_text {V} f address (x ∷ xs) own acc bounded placed may =
    let b = placed.block in
    let bytes : List ℕ = x ∷ xs in
    let is : own ≡ b ∷ [] = placed.all ∙ ap₂ (λ p q. p ++ q) placed.held.itself placed.holds.1 in
    let size : b.size ≡ length bytes = placed.held.exact ∙ omega arith in
    ap (λ p. freeing f p (length bytes) acc) (sym placed.held.starts) ∙ freed_block f b (length xs) acc size (omega (arith, size, bounded)) (subst (λ bs. MayTake bs acc) is may)
    ∙ ap (λ (bs : List Block). Done (by_freeing bs acc)) (sym is)
