-- When honest words are read: a scalar meets its test, and a text is found and taken over.
use Rattle.std.proofs.Common.{◌≡◌, ℕ, zero, suc, ◌+◌, ◌-◌, ◌*◌, ◌^◌, ◌<◌, Bool, true, false, ◌||◌, not, ◌&&◌, nat_eq, nat_lt, nat_le, ⊎_elim, if◌then◌else◌, List, [], ◌∷◌, ◌++◌, length, find, Some, refl, sym, ap, ap₂, ◌∙◌, subst, arith, append_assoc, append-nil}
use Rattle.std.specs.List.{list_all, slice_index_or}
use Rattle.std.specs.Str.{is_utf8}
use Rattle.std.proofs.lemmas.Bool.{and_parts, le-ltb, lt-ltb, ltb-true, ne_eqb}
use Rattle.std.proofs.lemmas.Bool.Decides.{eqb_tells}
use Rattle.wit_layout.specs.Tree.{Scalar}
use Rattle.wrapper_data.specs.Heap.{are_apart, are_cells, is_block, overlaps, overlaps_any}
use Rattle.wrapper_data.specs.declared.block.Block.{Block}
use Rattle.wrapper_data.specs.declared.form.Form.{Form}
use Rattle.wrapper_data.specs.declared.run.TrapKind.TheVariants as trap
use Rattle.wrapper_data.specs.declared.word.Word.{Word}
use Rattle.wrapper_meaning.specs.AsWords.{IsTaken}
use Rattle.wrapper_meaning.specs.Buffer.{IsPlaced}
use Rattle.wrapper_meaning.specs.Cells.{bytes_from}
use Rattle.wrapper_meaning.specs.Direction.{take}
use Rattle.wrapper_meaning.specs.InMemory.{TextHolds}
use Rattle.wrapper_meaning.specs.InRange.{IsScalar}
use Rattle.wrapper_meaning.specs.Items.{AllIn}
use Rattle.wrapper_meaning.specs.Numbers.{bit, is_scalar_value, is_signed, low_bits}
use Rattle.wrapper_meaning.specs.Value.{ScalarValue}
use Rattle.wrapper_meaning.proofs.Lists.{none_at}
use Rattle.abi_bindgen.proofs.AllLemmas.{in_left, in_right}
use Rattle.abi_bindgen.specs.Account.{Account, Done, Got, Outcome, Stuck, Taken, addresses, failing, found, gives, is_at, is_taken, reading, stay, taking, tested}
use Rattle.abi_bindgen.specs.Lifts.{AreFree, MayTake, took}

-- 1. Scalars

bit_small : (b : Bool) → nat_lt (bit b) 2 ≡ true
bit_small true = refl
bit_small false = refl

if_true : {A : Type 0} (b : Bool) (x y : A) → b ≡ true → (if b then x else y) ≡ x
if_true b x y e = ap (λ c. if c then x else y) e

if_false : {A : Type 0} (b : Bool) (x y : A) → b ≡ false → (if b then x else y) ≡ y
if_false b x y e = ap (λ c. if c then x else y) e

pub reads : {V : Type 0} (s : Scalar) (f : Form) (v : ScalarValue s) (x : Word) (acc : Account V) → IsScalar s v → IsTaken s v x → reading s f x acc ≡ stay acc
reads Scalar.bool f v x acc hv (z, e, h) = ap (λ y. reading Scalar.bool f y acc) e ∙ if_true (nat_lt (low_bits 8 z) 2) (stay acc) (failing f trap.Bool acc) (ap (λ n. nat_lt n 2) (sym h) ∙ bit_small v)
reads Scalar.char f v x acc hv (z, e, h) = ap (λ y. reading Scalar.char f y acc) e ∙ if_true (is_scalar_value (low_bits 32 z)) (stay acc) (failing f trap.Char acc) (ap is_scalar_value (sym h) ∙ hv)
reads Scalar.f32 f v x acc hv e = ap (λ y. reading Scalar.f32 f y acc) e
reads Scalar.f64 f v x acc hv e = ap (λ y. reading Scalar.f64 f y acc) e
reads Scalar.s32 f v x acc hv e = ap (λ y. reading Scalar.s32 f y acc) e ∙ if_true (is_signed 31 v) (stay acc) (Stuck acc) hv
reads Scalar.s64 f v x acc hv e = ap (λ y. reading Scalar.s64 f y acc) e ∙ if_true (is_signed 63 v) (stay acc) (Stuck acc) hv
reads Scalar.u64 f v x acc hv (z, e, h) = ap (λ y. reading Scalar.u64 f y acc) e
reads Scalar.u8 f v x acc hv (z, e, h) = ap (λ y. reading Scalar.u8 f y acc) e
reads Scalar.u16 f v x acc hv (z, e, h) = ap (λ y. reading Scalar.u16 f y acc) e
reads Scalar.u32 f v x acc hv (z, e, h) = ap (λ y. reading Scalar.u32 f y acc) e
reads Scalar.s8 f v x acc hv (z, e, h) = ap (λ y. reading Scalar.s8 f y acc) e
reads Scalar.s16 f v x acc hv (z, e, h) = ap (λ y. reading Scalar.s16 f y acc) e
reads Scalar.handle f v x acc hv e = elim v [ ]

-- 2. Blocks that are taken over one after another

pub took_none : {V : Type 0} (acc : Account V) → took [] acc ≡ acc
took_none acc = ap (λ t. record acc { taken = t }) (append-nil acc.taken)

pub took_both : {V : Type 0} (xs ys : List Block) (acc : Account V) → took ys (took xs acc) ≡ took (xs ++ ys) acc
took_both xs ys acc = ap (λ t. record acc { taken = t }) (append_assoc acc.taken (addresses xs) (addresses ys) ∙ ap (λ zs. acc.taken ++ zs) (sym (both xs ys)))
  where
    both : (xs ys : List Block) → addresses (xs ++ ys) ≡ addresses xs ++ addresses ys
    both [] ys = refl
    both (x ∷ xs) ys = ap (λ zs. x.address ∷ zs) (both xs ys)

free_first : (xs ys : List Block) (taken : List ℕ) → AreFree (xs ++ ys) taken → AreFree xs taken
free_first [] ys taken h = tt
free_first (x ∷ xs) ys taken h = (h.0, free_first xs ys (taken ++ x.address ∷ []) h.1)

free_rest : (xs ys : List Block) (taken : List ℕ) → AreFree (xs ++ ys) taken → AreFree ys (taken ++ addresses xs)
free_rest [] ys taken h = subst (AreFree ys) (sym (append-nil taken)) h
free_rest (x ∷ xs) ys taken h = subst (AreFree ys) (append_assoc taken (x.address ∷ []) (addresses xs)) (free_rest xs ys (taken ++ x.address ∷ []) h.1)

pub may_first : {V : Type 0} (xs ys : List Block) (acc : Account V) → MayTake (xs ++ ys) acc → MayTake xs acc
may_first xs ys acc h = record { formed = h.formed; there = in_left acc.heap.blocks xs ys h.there; free = free_first xs ys acc.taken h.free }

pub may_rest : {V : Type 0} (xs ys : List Block) (acc : Account V) → MayTake (xs ++ ys) acc → MayTake ys (took xs acc)
may_rest xs ys acc h = record { formed = h.formed; there = in_right acc.heap.blocks xs ys h.there; free = free_rest xs ys acc.taken h.free }

-- 3. Texts

same_is : (n : ℕ) → nat_eq n n ≡ true
same_is n = ⊎_elim (λ p. p.0) (λ p. absurd (p.1 refl)) (eqb_tells n n)

-- a block is not empty, and begins above 0
block_parts : (b : Block) → is_block b ≡ true → (0 < b.size) × (0 < b.address)
block_parts b good =
    let outer = and_parts (nat_lt 0 b.size && nat_lt 0 b.address && nat_le (b.address + b.size) (2 ^ 32)) (are_cells 0 b.size b.cells) good in
    let inner = and_parts (nat_lt 0 b.size && nat_lt 0 b.address) (nat_le (b.address + b.size) (2 ^ 32)) outer.0 in
    let both = and_parts (nat_lt 0 b.size) (nat_lt 0 b.address) inner.0 in
    (ltb-true 0 b.size both.0, ltb-true 0 b.address both.1)

-- two blocks at one address overlap
at_one_address : (x b : Block) → 0 < x.size → 0 < b.size → x.address ≡ b.address → overlaps x b ≡ true
at_one_address x b hx hb e =
    ap₂ (λ p q. p && q) (lt-ltb x.address (b.address + b.size) (omega (arith, hb, e))) (lt-ltb b.address (x.address + x.size) (omega (arith, hx, e)))

-- of blocks that are apart, the first at an address is the one there
find_at : (blocks : List Block) (b : Block) (k : ℕ) → list_all is_block blocks ≡ true → are_apart blocks ≡ true → 0 < b.size → k < length blocks → slice_index_or blocks k b ≡ b → find (is_at b.address b.size) blocks ≡ Some b
find_at [] b k good apart hb l e = absurd (omega (arith, l))
find_at (x ∷ blocks) b zero good apart hb l e =
    ap (λ c. if c then Some x else find (is_at b.address b.size) blocks) (ap (λ (y : Block). is_at b.address b.size y) e ∙ ap₂ (λ p q. p && q) (same_is b.address) (same_is b.size)) ∙ ap Some e
find_at (x ∷ blocks) b (suc k) good apart hb l e =
    let parts = and_parts (not (overlaps_any x blocks)) (are_apart blocks) apart in
    let goods = and_parts (is_block x) (list_all is_block blocks) good in
    let lower : k < length blocks = omega (arith, l) in
    let away : overlaps x b ≡ false = none_at (overlaps x) blocks k b (not_true (overlaps_any x blocks) parts.0) lower e in
    let size : 0 < x.size = (block_parts x goods.0).0 in
    let other : nat_eq x.address b.address ≡ false = ne_eqb x.address b.address (λ same. true_false (sym (at_one_address x b size hb same) ∙ away)) in
    ap (λ c. if c && nat_eq x.size b.size then Some x else find (is_at b.address b.size) blocks) other ∙ find_at blocks b k goods.1 parts.1 hb lower e
  where
    not_true : (c : Bool) → not c ≡ true → c ≡ false
    not_true true h = absurd (let e = h in cc)
    not_true false h = refl

    true_false : true ≡ false → ⊥
    true_false h = let e = h in cc

good_at : (blocks : List Block) (b : Block) (k : ℕ) → list_all is_block blocks ≡ true → k < length blocks → slice_index_or blocks k b ≡ b → is_block b ≡ true
good_at [] b k good l e = absurd (omega (arith, l))
good_at (x ∷ blocks) b zero good l e = sym (ap is_block e) ∙ (and_parts _ _ good).0
good_at (x ∷ blocks) b (suc k) good l e = good_at blocks b k (and_parts _ _ good).1 (omega (arith, l)) e

-- what is UTF-8 passes, tested or not
passes : (tests b : Bool) → b ≡ true → (not tests || b) ≡ true
passes false b h = refl
passes true b h = h

-- a text in one block
block_taken : {V : Type 0} (tests : Bool) (f : Form) (b : Block) (bytes : List ℕ) (acc : Account V) → is_utf8 bytes ≡ true → 0 < b.size → b.size < 2 ^ 31 → bytes_from b.cells 0 b.size ≡ Some bytes → MayTake (b ∷ []) acc
    → taking tests f b.address b.size acc ≡ Done (record { result = record { bytes = bytes; blocks = b ∷ [] }; account = took (b ∷ []) acc })
block_taken {V} tests f b bytes acc utf8 some bounded read may =
    let heap = and_parts (list_all is_block acc.heap.blocks) (are_apart acc.heap.blocks) may.formed in
    let there = may.there.0 in
    let good = good_at acc.heap.blocks b there.0 heap.0 there.1 there.2 in
    let above : 0 < b.address = (block_parts b good).1 in
    let o4 : Outcome V (Got V Taken) = found tests f b.size (find (is_at b.address b.size) acc.heap.blocks) acc in
    let o3 : Outcome V (Got V Taken) = if is_taken b.address acc.taken then failing f trap.Block acc else o4 in
    let o2 : Outcome V (Got V Taken) = if nat_eq b.size 0 then gives (record { bytes = []; blocks = [] }) acc else o3 in
    let o1 : Outcome V (Got V Taken) = if nat_eq b.address 0 then failing f trap.Pointer acc else o2 in
    if_false (nat_lt (2 ^ 31 - 1) b.size) (failing f trap.Size acc) o1 (le-ltb (2 ^ 31 - 1) b.size (omega (arith, bounded)))
    ∙ if_false (nat_eq b.address 0) (failing f trap.Pointer acc) o2 (ne_eqb b.address 0 (λ e. omega (arith, above, e)))
    ∙ if_false (nat_eq b.size 0) (gives (record { bytes = []; blocks = [] }) acc) o3 (ne_eqb b.size 0 (λ e. omega (arith, some, e)))
    ∙ if_false (is_taken b.address acc.taken) (failing f trap.Block acc) o4 may.free.0
    ∙ ap (λ x. found tests f b.size x acc) (find_at acc.heap.blocks b there.0 heap.0 heap.1 some there.1 there.2)
    ∙ ap (λ x. tested tests f b x acc) read
    ∙ if_true (not tests || is_utf8 bytes) (gives (record { bytes = bytes; blocks = b ∷ [] }) (took (b ∷ []) acc)) (failing f trap.Utf8 (took (b ∷ []) acc)) (passes tests (is_utf8 bytes) utf8)

pub taking_text : {V : Type 0} (tests : Bool) (f : Form) (address : ℕ) (bytes : List ℕ) (own : List Block) (acc : Account V) → is_utf8 bytes ≡ true → length bytes * 1 < 2 ^ 31
    → IsPlaced take true address (length bytes) 1 (TextHolds bytes) own → MayTake own acc → taking tests f address (length bytes) acc ≡ Done (record { result = record { bytes = bytes; blocks = own }; account = took own acc })
taking_text tests f address [] own acc utf8 bounded placed may =
    if_false (nat_eq address 0) (failing f trap.Pointer acc) (gives (record { bytes = []; blocks = [] }) acc) (ne_eqb address 0 (λ e. omega (arith, placed.0, e)))
    ∙ ap₂ (λ (blocks : List Block) (a : Account _). Done (record { result = record { bytes = []; blocks = blocks }; account = a })) (sym placed.1) (sym (ap (λ xs. took xs acc) placed.1 ∙ took_none acc))
taking_text tests f address (x ∷ xs) own acc utf8 bounded placed may =
    let b = placed.block in
    let bytes : List ℕ = x ∷ xs in
    let is : own ≡ b ∷ [] = placed.all ∙ ap₂ (λ p q. p ++ q) placed.held.itself placed.holds.1 in
    let size : b.size ≡ length bytes = placed.held.exact ∙ omega arith in
    let read : bytes_from b.cells 0 b.size ≡ Some bytes = ap (bytes_from b.cells 0) size ∙ ap (λ k. bytes_from b.cells k (length bytes)) (sym placed.held.whole) ∙ placed.holds.0 in
    let here = block_taken tests f b bytes acc utf8 (omega (arith, size)) (omega (arith, size, bounded)) read (subst (λ bs. MayTake bs acc) is may) in
    ap₂ (λ p n. taking tests f p n acc) (sym placed.held.starts) (sym size) ∙ here ∙ ap (λ (blocks : List Block). Done (record { result = record { bytes = bytes; blocks = blocks }; account = took blocks acc })) (sym is)
