-- What storing and loading a word do in a block of a well-formed heap.
use Rattle.std.proofs.Common.{◌≡◌, ◌⊎◌, ℕ, suc, ◌+◌, ◌-◌, ◌*◌, ◌%◌, ◌^◌, ◌<◌, ◌≤◌, true, ◌&&◌, nat_eq, nat_le, nat_lt, List, [], ◌∷◌, length, find, Option, Some, option_map, option_and_then, is_some, Contains, refl, sym, ap, ◌∙◌, subst, arith, pow_pos}
use Rattle.std.proofs.lemmas.Bool.{and_parts, and_from, cond-true, eq-eqb, eqb-true, le-leb, leb-true, lt-ltb}
use Rattle.std.proofs.lemmas.Nat.{mod_below}
use Rattle.std.proofs.Math.Nat.{pow-le-pow_right}
use mathlib.Core.Logic.{inl, inr}
use Rattle.wrapper_data.specs.Answered.{with_cell, with_writes, written_block}
use Rattle.wrapper_data.specs.Heap.{is_block, is_heap}
use Rattle.wrapper_data.specs.declared.block.Block.{Block}
use Rattle.wrapper_data.specs.declared.form.Form.{Form}
use Rattle.wrapper_data.specs.declared.word.Word.{Word}
use Rattle.wrapper_meaning.specs.Cells.{HasNumber, bytes_from, little}
use Rattle.wrapper_meaning.specs.Words.{bits_of}
use Rattle.abi_bindgen.specs.Account.{Account, Done, Got, Outcome, has_type, is_at}
use Rattle.abi_bindgen.specs.Memory.{Access, bytes_at, bytes_on, is_aligned, is_inside, is_ranged, is_reached, little_bytes, loaded, loading, storing, word_read}
use Rattle.abi_bindgen.specs.Places.{IsWritten, SameOutside, replaced}
use Rattle.abi_driver.proofs.Bytes.{length-little_bytes, little-little_bytes, some_numbers}
use Rattle.abi_driver.proofs.CellWrites.{none_read, put, put_before, put_behind, put_here, put_in_order, read_both, with_cell_is_put}
use Rattle.abi_driver.proofs.Replaced.{Tells, block_formed, block_from, byte_there, find_there, is_sized, meet, replaced_formed, replaced_same, replaced_twice}

-- 1. What is written twice

apart_more : (k n k1 n1 i m : ℕ) → k ≤ k1 → k1 + n1 ≤ k + n → (i + m ≤ k) ⊎ (k + n ≤ i) → (i + m ≤ k1) ⊎ (k1 + n1 ≤ i)
apart_more k n k1 n1 i m low high (inl before) = inl (omega (arith, low, before))
apart_more k n k1 n1 i m low high (inr behind) = inr (omega (arith, high, behind))

pub written_both : (b mid after : Block) (k n k1 n1 k2 n2 : ℕ) → IsWritten k1 n1 b mid → IsWritten k2 n2 mid after → k ≤ k1 → k1 + n1 ≤ k + n → k ≤ k2 → k2 + n2 ≤ k + n → IsWritten k n b after
written_both b mid after k n k1 n1 k2 n2 one two l1 h1 l2 h2 = record {
  formed = two.formed;
  same_address = two.same_address ∙ one.same_address;
  same_size = two.same_size ∙ one.same_size;
  outside = λ i m apart. two.outside i m (apart_more k n k2 n2 i m l2 h2 apart) ∙ one.outside i m (apart_more k n k1 n1 i m l1 h1 apart);
}

-- more bytes were written at most
pub written_in : (b after : Block) (k1 n1 k n : ℕ) → IsWritten k1 n1 b after → k ≤ k1 → k1 + n1 ≤ k + n → IsWritten k n b after
written_in b after k1 n1 k n one low high = record {
  formed = one.formed;
  same_address = one.same_address;
  same_size = one.same_size;
  outside = λ i m apart. one.outside i m (apart_more k n k1 n1 i m low high apart);
}

pub written_none : (k : ℕ) (b : Block) → is_block b ≡ true → IsWritten k 0 b b
written_none k b good = record { formed = good; same_address = refl; same_size = refl; outside = λ i m apart. refl }

-- 2. Bytes in a block

abbrev with_byte : Block → ℕ → ℕ → Block
with_byte b k x = record b { cells = put b.cells k x }

byte_outside : (b : Block) (k x : ℕ) → SameOutside k 1 b (with_byte b k x)
byte_outside b k x i n (inl before) = put_before b.cells k x i n before
byte_outside b k x i n (inr behind) = put_behind b.cells k x i n (omega (arith, behind))

byte_written : (b : Block) (k x : ℕ) → is_block b ≡ true → k < b.size → IsWritten k 1 b (with_byte b k x)
byte_written b k x good room =
    let sized = is_sized b good in
    let ordered = put_in_order b.cells 0 b.size k x sized.ordered (omega arith) room in
    record { formed = block_from (with_byte b k x) (record { some = sized.some; above = sized.above; below = sized.below; ordered = ordered }); same_address = refl; same_size = refl; outside = byte_outside b k x }

written_is : (b : Block) (k x : ℕ) → is_block b ≡ true → written_block b (b.address + k) x ≡ with_byte b k x
unfolding written_block
written_is b k x good =
    let offset : b.address + k - b.address ≡ k = omega arith in
    ap (λ cells. record b { cells = cells }) (ap (λ j. with_cell b.cells j x) offset ∙ with_cell_is_put b.cells 0 b.size k x (is_sized b good).ordered)

-- what a block is after bytes were written into it
pub record BytesWritten (bytes : List ℕ) (blocks : List Block) (b : Block) (k : ℕ) : Type 0 where
  pub after : Block
  pub now : with_writes blocks (bytes_on (b.address + k) bytes) ≡ replaced after blocks
  pub written : IsWritten k (length bytes) b after
  pub read : bytes_from after.cells k (length bytes) ≡ Some bytes

-- byte for byte: each write is one in the first block that covers its address, which is this one
pub bytes_written : (bytes : List ℕ) (blocks : List Block) (b : Block) (k : ℕ) → is_heap (record { blocks = blocks }) ≡ true → Contains blocks b → k + length bytes ≤ b.size → BytesWritten bytes blocks b k
bytes_written [] blocks b k formed there room =
    record { after = b; now = sym (replaced_same blocks b formed there); written = written_none k b (block_formed blocks b formed there); read = none_read b.cells k }
bytes_written (x ∷ bytes) blocks b k formed there room =
    let good = block_formed blocks b formed there in
    let mid = with_byte b k x in
    let one = byte_written b k x good (omega (arith, room)) in
    let is = written_is b k x good in
    let first : with_writes blocks ((b.address + k, x) ∷ []) ≡ replaced mid blocks =
    byte_there blocks b (b.address + k) x formed there (omega arith) (omega (arith, room)) (ap (λ (c : Block). c.address) is) ∙ ap (λ c. replaced c blocks) is in
    let still = replaced_formed blocks b mid k 1 formed there one in
    let rest = bytes_written bytes (replaced mid blocks) mid (k + 1) still.0 still.1 (omega (arith, room)) in
    let next : b.address + k + 1 ≡ b.address + (k + 1) = omega arith in
    let here : bytes_from rest.after.cells k 1 ≡ Some (x ∷ []) =
    rest.written.outside k 1 (inl (omega arith)) ∙ put_here b.cells k x 0 ∙ ap (λ o. option_map (λ bytes. x ∷ bytes) o) (none_read b.cells (k + 1)) in
    record {
      after = rest.after;
      now =
          ap (λ bs. with_writes bs (bytes_on (b.address + k + 1) bytes)) first ∙ ap (λ p. with_writes (replaced mid blocks) (bytes_on p bytes)) next
          ∙ rest.now ∙ replaced_twice mid rest.after blocks (sym rest.written.same_address);
      written = written_both b mid rest.after k (suc (length bytes)) k 1 (k + 1) (length bytes) one rest.written (omega arith) (omega arith) (omega arith) (omega arith);
      read = read_both rest.after.cells k (length bytes) x bytes here rest.read;
    }

-- 3. Where a word lies

inside_tells : (b : Block) (address size : ℕ) → 0 < size → is_inside address size b ≡ true → Tells (is_inside address size) b
inside_tells b address size some inside c good passes =
    let one = and_parts (nat_le b.address address) (nat_le (address + size) (b.address + b.size)) inside in
    let two = and_parts (nat_le c.address address) (nat_le (address + size) (c.address + c.size)) passes in
    let end_b = leb-true (address + size) (b.address + b.size) one.1 in
    let end_c = leb-true (address + size) (c.address + c.size) two.1 in
    meet c b address (leb-true c.address address two.0) (omega arith) (leb-true b.address address one.0) (omega arith)

pub find_inside : (blocks : List Block) (b : Block) (k size : ℕ) → is_heap (record { blocks = blocks }) ≡ true → Contains blocks b → 0 < size → k + size ≤ b.size → find (is_inside (b.address + k) size) blocks ≡ Some b
find_inside blocks b k size formed there some room =
    let inside : is_inside (b.address + k) size b ≡ true = and_from _ _ (le-leb b.address (b.address + k) (omega arith)) (le-leb (b.address + k + size) (b.address + b.size) (omega (arith, room))) in
    find_there (is_inside (b.address + k) size) blocks b formed there (inside_tells b (b.address + k) size some inside) inside

at_tells : (b : Block) → 0 < b.size → Tells (is_at b.address b.size) b
at_tells b some c good passes =
    let two = and_parts (nat_eq c.address b.address) (nat_eq c.size b.size) passes in
    let place = eqb-true c.address b.address two.0 in
    let other = is_sized c good in
    meet c b b.address (omega (arith, place)) (omega (arith, place, other.some)) (omega arith) (omega (arith, some))

-- the block at an address, of exactly its size
pub find_block : (blocks : List Block) (b : Block) → is_heap (record { blocks = blocks }) ≡ true → Contains blocks b → find (is_at b.address b.size) blocks ≡ Some b
find_block blocks b formed there =
    let sized = is_sized b (block_formed blocks b formed there) in
    find_there (is_at b.address b.size) blocks b formed there (at_tells b sized.some) (and_from _ _ (eq-eqb b.address b.address refl) (eq-eqb b.size b.size refl))

-- each address of a block can be reached, since a pointer has four bytes at least
pub in_reach : (w : ℕ) (a : Access) (b : Block) (k : ℕ) → is_block b ≡ true → k + 2 ^ a.grain ≤ b.size → (b.address + k) % 2 ^ a.grain ≡ 0 → 2 ≤ w → is_reached w a (b.address + k) ≡ true
in_reach w a b k good room aligned wide =
    let sized = is_sized b good in
    let pointer : 2 ^ 2 ≤ 2 ^ w = pow-le-pow_right {n = 2} (omega arith) wide in
    let many : 32 ≤ 8 * 2 ^ w = omega (arith, pointer) in
    let bits : 2 ^ 32 ≤ 2 ^ (8 * 2 ^ w) = pow-le-pow_right {n = 2} (omega arith) many in
    and_from _ _ (eq-eqb ((b.address + k) % 2 ^ a.grain) 0 aligned) (le-leb (b.address + k + 2 ^ a.grain) (2 ^ (8 * 2 ^ w)) (omega (arith, bits, room, sized.below)))

-- 4. A word is stored, and loaded

-- the state after a word was stored
abbrev pub stored_in : {V : Type 0} → Block → Account V → Account V
stored_in after acc = record acc { heap = record { blocks = replaced after acc.heap.blocks } }

-- the account after a block was written from another account, and after it was written twice. An account of a state is a long term: here it
-- is a variable
pub stored_later : {V : Type 0} (acc one two : Account V) (after : Block) → one ≡ acc → two ≡ stored_in after one → two ≡ stored_in after acc
stored_later acc one two after same is = is ∙ ap (stored_in after) same

pub stored_again : {V : Type 0} (acc one two : Account V) (mid after : Block) → one ≡ stored_in mid acc → two ≡ stored_in after one → after.address ≡ mid.address → two ≡ stored_in after acc
stored_again {V} acc one two mid after first later same =
    later ∙ ap (stored_in after) first ∙ ap (λ (bs : List Block). record acc { heap = record { blocks = bs } }) (replaced_twice mid after acc.heap.blocks (sym same))

abbrev pub StoresIn : {V : Type 0} (w : ℕ) (a : Access) (address : ℕ) (x : Word) (b : Block) (k : ℕ) → Account V → Type 0
StoresIn w a address x b k acc =
    (after : Block) × (storing w a address x acc ≡ Done (record { result = tt; account = stored_in after acc })) × IsWritten k (2 ^ a.grain) b after × HasNumber after k (2 ^ a.grain) (bits_of x % 256 ^ (2 ^ a.grain))

-- by the place in the block
stores_here : {V : Type 0} (w : ℕ) (a : Access) (x : Word) (b : Block) (k : ℕ) (acc : Account V) → is_heap acc.heap ≡ true → Contains acc.heap.blocks b → k + 2 ^ a.grain ≤ b.size → (b.address + k) % 2 ^ a.grain ≡ 0 → 2 ≤ w → has_type a.word x ≡ true → is_ranged x ≡ true
    → StoresIn w a (b.address + k) x b k acc
stores_here {V} w a x b k acc formed there room aligned wide typed ranged =
    let n = 2 ^ a.grain in
    let blocks = acc.heap.blocks in
    let bytes = little_bytes n (bits_of x) in
    let many : length bytes ≡ n = length-little_bytes n (bits_of x) in
    let all = bytes_written bytes blocks b k formed there (omega (arith, many, room)) in
    let good = block_formed blocks b formed there in
    let there_found : is_some (find (is_inside (b.address + k) n) blocks) ≡ true = ap is_some (find_inside blocks b k n formed there (pow_pos a.grain) room) in
    let may : (has_type a.word x && is_ranged x && is_reached w a (b.address + k) && is_some (find (is_inside (b.address + k) n) blocks)) ≡ true = and_from _ _ (and_from _ _ (and_from _ _ typed ranged) (in_reach w a b k good room aligned wide)) there_found in
    let finish : List Block → Outcome V (Got V (Unit {0})) = λ bs. Done (record { result = tt; account = record acc { heap = record { blocks = bs } } }) in
    let read : bytes_from all.after.cells k n ≡ Some bytes = ap (bytes_from all.after.cells k) (sym many) ∙ all.read in (
      all.after,
      cond-true (has_type a.word x && is_ranged x && is_reached w a (b.address + k) && is_some (find (is_inside (b.address + k) n) blocks)) _ _ may ∙ ap finish all.now,
      subst (λ m. IsWritten k m b all.after) many all.written,
      (mod_below (bits_of x) (256 ^ n) (some_numbers n), ap (λ o. option_map little o) read ∙ ap Some (little-little_bytes n (bits_of x))),
    )

pub stores_in : {V : Type 0} (w : ℕ) (a : Access) (address : ℕ) (x : Word) (b : Block) (k : ℕ) (acc : Account V) → is_heap acc.heap ≡ true → Contains acc.heap.blocks b → address ≡ b.address + k → k + 2 ^ a.grain ≤ b.size → address % 2 ^ a.grain ≡ 0 → 2 ≤ w → has_type a.word x ≡ true → is_ranged x ≡ true
    → StoresIn w a address x b k acc
stores_in w a address x b k acc formed there at room aligned wide typed ranged =
    subst (λ p. StoresIn w a p x b k acc) (sym at) (stores_here w a x b k acc formed there room (ap (λ p. p % 2 ^ a.grain) (sym at) ∙ aligned) wide typed ranged)

pub loads_from : {V : Type 0} (w : ℕ) (f : Form) (a : Access) (address x : ℕ) (b : Block) (k : ℕ) (acc : Account V) → is_heap acc.heap ≡ true → Contains acc.heap.blocks b → address ≡ b.address + k → k + 2 ^ a.grain ≤ b.size → address % 2 ^ a.grain ≡ 0 → 2 ≤ w → HasNumber b k (2 ^ a.grain) x
    → loading w f a address acc ≡ Done (record { result = word_read w a x; account = acc })
loads_from {V} w f a address x b k acc formed there at room aligned wide number =
    let n = 2 ^ a.grain in
    let blocks = acc.heap.blocks in
    let may : is_aligned a (b.address + k) ≡ true = eq-eqb ((b.address + k) % n) 0 (ap (λ p. p % n) (sym at) ∙ aligned) in
    let offset : b.address + k - b.address ≡ k = omega arith in
    let read : bytes_at (b.address + k) n blocks ≡ bytes_from b.cells k n = ap (λ o. option_and_then (λ c. bytes_from c.cells (b.address + k - c.address) n) o) (find_inside blocks b k n formed there (pow_pos a.grain) room) ∙ ap (λ j. bytes_from b.cells j n) offset in
    let finish : Option ℕ → Outcome V (Got V Word) = λ o. loaded w f a o acc in
    ap (λ p. loading w f a p acc) at ∙ ap finish (cond-true (is_aligned a (b.address + k)) _ _ may ∙ ap (option_map little) read ∙ number.1)
    ∙ cond-true (nat_lt x (256 ^ n)) _ _ (lt-ltb x (256 ^ n) number.0)
