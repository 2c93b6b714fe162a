-- What the machine stores, loads and frees is what the laws say, where a pointer has four bytes.
use Rattle.std.proofs.Common.{◌≡◌, ℕ, zero, suc, ◌+◌, ◌*◌, ◌/◌, ◌%◌, ◌^◌, ℤ, pos, negsuc, Bool, true, false, ◌&&◌, nat_eq, nat_le, if◌then◌else◌, List, [], ◌∷◌, Option, None, Some, find, is_some, refl, sym, ap, ap₂, ◌∙◌, arith}
use Rattle.std.specs.Int.{byte_at, bytes_low_first, cast_unsigned, to_le_bytes, w32, w64}
use Rattle.std.proofs.lemmas.Int.{ints}
use native.Mathlib.Nat.{div-div-eq-div-mul, pow-suc}
use Rattle.wit_model.specs.declared.wasm_type.WasmType.{WasmType}
use Rattle.wit_model.specs.declared.wasm_type.WasmType.TheVariants as wasm
use Rattle.rust_tree.specs.declared.expr.SmallType.{SmallType}
use Rattle.rust_tree.specs.declared.expr.SmallType.TheVariants as small
use Rattle.wrapper_data.specs.Answered.{with_writes}
use Rattle.wrapper_data.specs.declared.block.Block.{Block}
use Rattle.wrapper_data.specs.declared.word.Word.{Word}
use Rattle.wrapper_data.specs.declared.word.Word.TheVariants as core
use Rattle.wrapper_meaning.specs.Numbers.{is_signed, low_bits}
use Rattle.wrapper_values.specs.Effect.{is_word_of}
use Rattle.wrapper_run.specs.Memory.{low_bytes, stored, stored_small, without, writes_from}
use Rattle.wrapper_run.specs.Memory as machine
use Rattle.abi_bindgen.specs.Account.{Account, Act, Got, Outcome, Stuck, is_at, stay}
use Rattle.abi_bindgen.specs.Memory.{access, bytes_on, except, is_inside, is_ranged, little_bytes, storing}

-- 1. Bytes

-- the laws take bytes from a number that gets smaller, and the machine by their places
div_again : (n p : ℕ) → n / p / 256 ≡ n / (p * 256)
div_again n p = div-div-eq-div-mul n p 256

little_from : (i k n : ℕ) → little_bytes k (n / 256 ^ i) ≡ bytes_low_first i k n
little_from i zero n = refl
little_from i (suc k) n = ap₂ (λ (b : ℕ) bs. b ∷ bs) (here i) (ap (little_bytes k) (div_again n (256 ^ i) ∙ ap (λ p. n / p) (sym (pow-suc 256 i))) ∙ little_from (suc i) k n)
  where
    here : (i : ℕ) → n / 256 ^ i % 256 ≡ byte_at i n
    here zero = omega arith
    here (suc i) = refl

low_first : (k n : ℕ) → little_bytes k n ≡ bytes_low_first 0 k n
low_first k n = ap (little_bytes k) (let e : n ≡ n / 1 = omega arith in e) ∙ little_from 0 k n

on_is : (address : ℕ) (bytes : List ℕ) → bytes_on address bytes ≡ writes_from address bytes
on_is address [] = refl
on_is address (b ∷ bytes) = ap (λ xs. (address, b) ∷ xs) (on_is (address + 1) bytes)

-- 2. Stores

-- blocks that are left, or no meaning
abbrev pub by_blocks : {V : Type 0} → Option (List Block) → Act V (Unit {0})
by_blocks None acc = Stuck acc
by_blocks (Some blocks) acc = stay (record acc { heap = record { blocks = blocks } })

-- and a word out of its range has none
abbrev pub ranged_blocks : {V : Type 0} → Bool → Option (List Block) → Act V (Unit {0})
ranged_blocks true o acc = by_blocks o acc
ranged_blocks false o acc = Stuck acc

never : {V : Type 0} (b : Bool) (acc : Account V) → Stuck acc ≡ ranged_blocks b None acc
never true acc = refl
never false acc = refl

by_range : {V : Type 0} (acc : Account V) (b reached inside : Bool) (end : Outcome V (Got V (Unit {0}))) (o : Option (List Block)) → (b ≡ true → (if reached && inside then end else Stuck acc) ≡ by_blocks o acc)
    → (if (b && reached) && inside then end else Stuck acc) ≡ ranged_blocks b o acc
by_range acc true reached inside end o h = h refl
by_range acc false reached inside end o h = refl

-- the laws test whether a word lies where addresses end beside whether it is aligned, and the machine beside whether it lies in a block
tested : {V : Type 0} (acc : Account V) (blocks : List Block) (a b c : Bool)
    → (if (a && b) && c then stay (record acc { heap = record { blocks = blocks } }) else Stuck acc) ≡ by_blocks (if a && (b && c) then Some blocks else None) acc
tested acc blocks true true true = refl
tested acc blocks true true false = refl
tested acc blocks true false c = refl
tested acc blocks false b c = refl

module _ {V : Type 0} (acc : Account V) (k address : ℕ) where
  abbrev By : List (ℕ × ℕ) → Outcome V (Got V (Unit {0}))
  By writes =
      by_blocks (if nat_eq (address % k) 0 && (nat_le (address + k) (2 ^ 32) && is_some (find (machine.holds address k) acc.heap.blocks)) then Some (with_writes acc.heap.blocks writes) else None) acc

  stored_by : (bytes others : List ℕ) → bytes ≡ others
      → (if (nat_eq (address % k) 0 && nat_le (address + k) (2 ^ 32)) && is_some (find (is_inside address k) acc.heap.blocks) then stay (record acc { heap = record { blocks = with_writes acc.heap.blocks (bytes_on address bytes) } }) else Stuck acc)
      ≡ By (writes_from address others)
  stored_by bytes others e =
      tested acc (with_writes acc.heap.blocks (bytes_on address bytes)) (nat_eq (address % k) 0) (nat_le (address + k) (2 ^ 32)) (is_some (find (is_inside address k) acc.heap.blocks)) ∙ ap By (on_is address bytes ∙ ap (writes_from address) e)

abbrev pub stored_word : WasmType → ℕ → Word → List Block → Option (List Block)
stored_word ty address x blocks = if is_word_of ty x then stored ty address x blocks else None

-- a whole number in its range
module _ {V : Type 0} (acc : Account V) (k address : ℕ) where
  ranged_by : (ranged : Bool) (bytes others : List ℕ) → (ranged ≡ true → bytes ≡ others)
      → (if (ranged && (nat_eq (address % k) 0 && nat_le (address + k) (2 ^ 32))) && is_some (find (is_inside address k) acc.heap.blocks) then stay (record acc { heap = record { blocks = with_writes acc.heap.blocks (bytes_on address bytes) } }) else Stuck acc)
      ≡ ranged_blocks ranged (if nat_eq (address % k) 0 && (nat_le (address + k) (2 ^ 32) && is_some (find (machine.holds address k) acc.heap.blocks)) then Some (with_writes acc.heap.blocks (writes_from address others)) else None) acc
  ranged_by ranged bytes others e = by_range acc ranged _ _ _ _ (λ h. stored_by acc k address bytes others (e h))

word_bits : (z : ℤ) → is_signed 31 z ≡ true → low_bits 32 z ≡ cast_unsigned w32 z
word_bits z h = grind (arith, ints)

wide_bits : (z : ℤ) → is_signed 63 z ≡ true → low_bits 64 z ≡ cast_unsigned w64 z
wide_bits z h = grind (arith, ints)

pub i32_stored : {V : Type 0} (address : ℕ) (x : Word) (acc : Account V) → storing 2 (access wasm.I32 2) address x acc ≡ ranged_blocks (is_ranged x) (stored_word wasm.I32 address x acc.heap.blocks) acc
unfolding stored
i32_stored address (core.I32 z) acc = ranged_by acc 4 address (is_signed 31 z) (little_bytes 4 (low_bits 32 z)) (to_le_bytes w32 (cast_unsigned w32 z)) (λ h. low_first 4 (low_bits 32 z) ∙ ap (bytes_low_first 0 4) (word_bits z h))
i32_stored address x acc = never (is_ranged x) acc

pub i64_stored : {V : Type 0} (address : ℕ) (x : Word) (acc : Account V) → storing 2 (access wasm.I64 3) address x acc ≡ ranged_blocks (is_ranged x) (stored_word wasm.I64 address x acc.heap.blocks) acc
unfolding stored
i64_stored address (core.I64 z) acc = ranged_by acc 8 address (is_signed 63 z) (little_bytes 8 (low_bits 64 z)) (to_le_bytes w64 (cast_unsigned w64 z)) (λ h. low_first 8 (low_bits 64 z) ∙ ap (bytes_low_first 0 8) (wide_bits z h))
i64_stored address x acc = never (is_ranged x) acc

pub f32_stored : {V : Type 0} (address : ℕ) (x : Word) (acc : Account V) → storing 2 (access wasm.F32 2) address x acc ≡ ranged_blocks (is_ranged x) (stored_word wasm.F32 address x acc.heap.blocks) acc
unfolding stored
f32_stored address (core.F32 x) acc = stored_by acc 4 address (little_bytes 4 x) (to_le_bytes w32 x) (low_first 4 x)
f32_stored address x acc = never (is_ranged x) acc

pub f64_stored : {V : Type 0} (address : ℕ) (x : Word) (acc : Account V) → storing 2 (access wasm.F64 3) address x acc ≡ ranged_blocks (is_ranged x) (stored_word wasm.F64 address x acc.heap.blocks) acc
unfolding stored
f64_stored address (core.F64 x) acc = stored_by acc 8 address (little_bytes 8 x) (to_le_bytes w64 x) (low_first 8 x)
f64_stored address x acc = never (is_ranged x) acc

pub pointer_stored : {V : Type 0} (address : ℕ) (x : Word) (acc : Account V) → storing 2 (access wasm.Pointer 2) address x acc ≡ ranged_blocks (is_ranged x) (stored_word wasm.Pointer address x acc.heap.blocks) acc
unfolding stored
pointer_stored address (core.Pointer x) acc = stored_by acc 4 address (little_bytes 4 x) (to_le_bytes w32 x) (low_first 4 x)
pointer_stored address x acc = never (is_ranged x) acc

pub length_stored : {V : Type 0} (address : ℕ) (x : Word) (acc : Account V) → storing 2 (access wasm.Length 2) address x acc ≡ ranged_blocks (is_ranged x) (stored_word wasm.Length address x acc.heap.blocks) acc
unfolding stored
length_stored address (core.Length x) acc = stored_by acc 4 address (little_bytes 4 x) (to_le_bytes w32 x) (low_first 4 x)
length_stored address x acc = never (is_ranged x) acc

-- 3. Small stores: the low bytes of a word

abbrev pub stored_low : SmallType → ℕ → Word → List Block → Option (List Block)
stored_low ty address (core.I32 z) blocks = stored_small ty address z blocks
stored_low ty address _ blocks = None

low_byte : (z : ℤ) → little_bytes 1 (low_bits 32 z) ≡ low_bytes small.U8 z
low_byte (pos n) = ap (λ (b : ℕ). b ∷ []) (omega arith)
low_byte (negsuc n) = ap (λ (b : ℕ). b ∷ []) (omega arith)

low_half : (z : ℤ) → little_bytes 2 (low_bits 32 z) ≡ low_bytes small.U16 z
low_half (pos n) = ap₂ (λ (b c : ℕ). b ∷ c ∷ []) (omega arith) (omega arith)
low_half (negsuc n) = ap₂ (λ (b c : ℕ). b ∷ c ∷ []) (omega arith) (omega arith)

pub byte_stored : {V : Type 0} (address : ℕ) (x : Word) (acc : Account V) → storing 2 (access wasm.I32 0) address x acc ≡ ranged_blocks (is_ranged x) (stored_low small.U8 address x acc.heap.blocks) acc
unfolding stored_small
byte_stored address (core.I32 z) acc = ranged_by acc 1 address (is_signed 31 z) (little_bytes 1 (low_bits 32 z)) (low_bytes small.U8 z) (λ h. low_byte z)
byte_stored address x acc = never (is_ranged x) acc

pub half_stored : {V : Type 0} (address : ℕ) (x : Word) (acc : Account V) → storing 2 (access wasm.I32 1) address x acc ≡ ranged_blocks (is_ranged x) (stored_low small.U16 address x acc.heap.blocks) acc
unfolding stored_small
half_stored address (core.I32 z) acc = ranged_by acc 2 address (is_signed 31 z) (little_bytes 2 (low_bits 32 z)) (low_bytes small.U16 z) (λ h. low_half z)
half_stored address x acc = never (is_ranged x) acc

-- 4. What is freed

pub without_is : (address size : ℕ) (blocks : List Block) → except (is_at address size) blocks ≡ without address size blocks
without_is address size [] = refl
without_is address size (b ∷ blocks) = ap (λ later. if is_at address size b then blocks else b ∷ later) (without_is address size blocks)
