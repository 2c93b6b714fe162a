-- What the machine loads is what the laws say, where a pointer has four bytes.
use Rattle.std.proofs.Common.{◌≡◌, ℕ, zero, suc, ◌+◌, ◌-◌, ◌%◌, ◌^◌, ◌<◌, pos, Bool, true, false, nat_eq, nat_lt, if◌then◌else◌, List, [], ◌∷◌, length, find, Option, None, Some, option_map, refl, ap, ◌∙◌, arith}
use Rattle.std.specs.Prelude.{option_and_then}
use Rattle.std.specs.Int.{cast_signed, from_le_bytes, w8, w16, w32, w64}
use Rattle.std.proofs.lemmas.Int.{ints}
use Rattle.wit_model.specs.declared.wasm_type.WasmType.TheVariants as wasm
use Rattle.rust_tree.specs.declared.expr.SmallType.{SmallType}
use Rattle.rust_tree.specs.declared.expr.SmallType.TheVariants as small
use Rattle.wrapper_data.specs.declared.block.Block.{Block}
use Rattle.wrapper_data.specs.declared.word.Word.{Word}
use Rattle.wrapper_data.specs.declared.word.Word.TheVariants as core
use Rattle.wrapper_meaning.specs.Cells.{bytes_from, little}
use Rattle.wrapper_run.specs.Memory.{number_from, word_from}
use Rattle.wrapper_run.specs.Memory as machine
use Rattle.abi_bindgen.specs.Memory.{Access, access, bytes_at, signed_access, word_read}

-- 1. The same bytes, and so many

pub same_bytes : (cells : List (ℕ × ℕ)) (offset n : ℕ) → bytes_from cells offset n ≡ machine.bytes_from cells offset n
same_bytes cells offset zero = refl
same_bytes [] offset (suc n) = refl
same_bytes (cell ∷ cells) offset (suc n) = grind (arith, same_bytes cells offset (suc n), same_bytes cells (offset + 1) n)

pub same_found : (address size : ℕ) (blocks : List Block) → bytes_at address size blocks ≡ machine.bytes_at address size blocks
same_found address size blocks = go (find (machine.holds address size) blocks)
  where
    go : (o : Option Block) → option_and_then (λ (b : Block). bytes_from b.cells (address - b.address) size) o ≡ option_and_then (λ (b : Block). machine.bytes_from b.cells (address - b.address) size) o
    go None = refl
    go (Some b) = same_bytes b.cells (address - b.address) size

abbrev pub HasLength : ℕ → Option (List ℕ) → Type 0
HasLength n None = Unit {0}
HasLength n (Some bytes) = length bytes ≡ n

one_longer : (n x : ℕ) (o : Option (List ℕ)) → HasLength n o → HasLength (suc n) (option_map (λ bytes. x ∷ bytes) o)
one_longer n x None h = tt
one_longer n x (Some bytes) h = ap suc h

many_from : (cells : List (ℕ × ℕ)) (offset n : ℕ) → HasLength n (bytes_from cells offset n)
many_from [] offset zero = refl
many_from (c ∷ cells) offset zero = refl
many_from [] offset (suc n) = tt
many_from (c ∷ cells) offset (suc n) = go (many_from cells offset (suc n)) (many_from cells (offset + 1) n) (nat_lt c.0 offset) (nat_eq c.0 offset)
  where
    go : HasLength (suc n) (bytes_from cells offset (suc n)) → HasLength n (bytes_from cells (offset + 1) n) → (b d : Bool)
        → HasLength (suc n) (if b then bytes_from cells offset (suc n) else (if d then option_map (λ bytes. c.1 ∷ bytes) (bytes_from cells (offset + 1) n) else None))
    go later next true d = later
    go later next false true = one_longer n c.1 (bytes_from cells (offset + 1) n) next
    go later next false false = tt

pub many_at : (address size : ℕ) (blocks : List Block) → HasLength size (bytes_at address size blocks)
many_at address size blocks = go (find (machine.holds address size) blocks)
  where
    go : (o : Option Block) → HasLength size (option_and_then (λ (b : Block). bytes_from b.cells (address - b.address) size) o)
    go None = tt
    go (Some b) = many_from b.cells (address - b.address) size

-- 2. Their number

one_byte : (bytes : List ℕ) → length bytes ≡ 1 → little bytes ≡ from_le_bytes w8 bytes
one_byte (a ∷ []) h = omega arith
one_byte [] h = absurd (omega (arith, h))
one_byte (a ∷ b ∷ bytes) h = absurd (omega (arith, h))

two_bytes : (bytes : List ℕ) → length bytes ≡ 2 → little bytes ≡ from_le_bytes w16 bytes
two_bytes (a ∷ b ∷ []) h = omega arith
two_bytes [] h = absurd (omega (arith, h))
two_bytes (a ∷ []) h = absurd (omega (arith, h))
two_bytes (a ∷ b ∷ c ∷ bytes) h = absurd (omega (arith, h))

four_bytes : (bytes : List ℕ) → length bytes ≡ 4 → little bytes ≡ from_le_bytes w32 bytes
four_bytes (a ∷ b ∷ c ∷ d ∷ []) h = omega arith
four_bytes [] h = absurd (omega (arith, h))
four_bytes (a ∷ []) h = absurd (omega (arith, h))
four_bytes (a ∷ b ∷ []) h = absurd (omega (arith, h))
four_bytes (a ∷ b ∷ c ∷ []) h = absurd (omega (arith, h))
four_bytes (a ∷ b ∷ c ∷ d ∷ e ∷ bytes) h = absurd (omega (arith, h))

eight_bytes : (bytes : List ℕ) → length bytes ≡ 8 → little bytes ≡ from_le_bytes w64 bytes
eight_bytes (a ∷ b ∷ c ∷ d ∷ e ∷ f ∷ g ∷ h ∷ []) many = omega arith
eight_bytes [] many = absurd (omega (arith, many))
eight_bytes (a ∷ []) many = absurd (omega (arith, many))
eight_bytes (a ∷ b ∷ []) many = absurd (omega (arith, many))
eight_bytes (a ∷ b ∷ c ∷ []) many = absurd (omega (arith, many))
eight_bytes (a ∷ b ∷ c ∷ d ∷ []) many = absurd (omega (arith, many))
eight_bytes (a ∷ b ∷ c ∷ d ∷ e ∷ []) many = absurd (omega (arith, many))
eight_bytes (a ∷ b ∷ c ∷ d ∷ e ∷ f ∷ []) many = absurd (omega (arith, many))
eight_bytes (a ∷ b ∷ c ∷ d ∷ e ∷ f ∷ g ∷ []) many = absurd (omega (arith, many))
eight_bytes (a ∷ b ∷ c ∷ d ∷ e ∷ f ∷ g ∷ h ∷ i ∷ bytes) many = absurd (omega (arith, many))

-- 3. The word that is read

-- bytes of a number in its range are the word that the machine reads
abbrev pub Reads : Access → ℕ → (List ℕ → Word) → Type 0
Reads a k told = (bytes : List ℕ) → length bytes ≡ k → little bytes < 256 ^ k → word_read 2 a (little bytes) ≡ told bytes

four_whole : (bytes : List ℕ) → length bytes ≡ 4 → little bytes < 256 ^ 4 → little bytes % 2 ^ 32 ≡ from_le_bytes w32 bytes
four_whole bytes many below = let same = four_bytes bytes many in omega (arith, same, below)

eight_whole : (bytes : List ℕ) → length bytes ≡ 8 → little bytes < 256 ^ 8 → little bytes % 2 ^ 64 ≡ from_le_bytes w64 bytes
eight_whole bytes many below = let same = eight_bytes bytes many in omega (arith, same, below)

pub i32_read : Reads (access wasm.I32 2) 4 (word_from wasm.I32)
i32_read bytes many below = ap (λ n. core.I32 (cast_signed w32 n)) (four_whole bytes many below)

pub i64_read : Reads (access wasm.I64 3) 8 (word_from wasm.I64)
i64_read bytes many below = ap (λ n. core.I64 (cast_signed w64 n)) (eight_whole bytes many below)

pub f32_read : Reads (access wasm.F32 2) 4 (word_from wasm.F32)
f32_read bytes many below = ap core.F32 (four_whole bytes many below)

pub f64_read : Reads (access wasm.F64 3) 8 (word_from wasm.F64)
f64_read bytes many below = ap core.F64 (eight_whole bytes many below)

pub pointer_read : Reads (access wasm.Pointer 2) 4 (word_from wasm.Pointer)
pointer_read bytes many below = ap core.Pointer (four_whole bytes many below)

pub length_read : Reads (access wasm.Length 2) 4 (word_from wasm.Length)
length_read bytes many below = ap core.Length (four_whole bytes many below)

small_byte : (n : ℕ) → n < 256 → cast_signed w32 (n % 2 ^ 32) ≡ pos n
small_byte n h = grind (arith, ints)

small_half : (n : ℕ) → n < 256 ^ 2 → cast_signed w32 (n % 2 ^ 32) ≡ pos n
small_half n h = grind (arith, ints)

-- a small number as the word of it
abbrev pub small_from : SmallType → List ℕ → Word
small_from ty bytes = core.I32 (number_from ty bytes)

pub byte_read : Reads (access wasm.I32 0) 1 (small_from small.U8)
byte_read bytes many below = ap core.I32 (small_byte (little bytes) (omega (arith, below)) ∙ ap pos (one_byte bytes many))

pub signed_byte_read : Reads (signed_access wasm.I32 0) 1 (small_from small.I8)
signed_byte_read bytes many below = ap (λ n. core.I32 (cast_signed w8 n)) (one_byte bytes many)

pub half_read : Reads (access wasm.I32 1) 2 (small_from small.U16)
half_read bytes many below = ap core.I32 (small_half (little bytes) below ∙ ap pos (two_bytes bytes many))

pub signed_half_read : Reads (signed_access wasm.I32 1) 2 (small_from small.I16)
signed_half_read bytes many below = ap (λ n. core.I32 (cast_signed w16 n)) (two_bytes bytes many)
