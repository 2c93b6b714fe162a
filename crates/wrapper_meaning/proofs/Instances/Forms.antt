-- How instances are written: blocks by their bytes, and texts that lie in them.
use Rattle.std.proofs.Common.{◌≡◌, ◌<◌, ◌≤◌, ◌+◌, ◌/◌, ◌%◌, ◌^◌, ℕ, zero, suc, true, List, [], ◌∷◌, ◌++◌, length, Option, Some, slice_index_or, refl, arith}
use Rattle.std.specs.List.{enumerate_from, list_all}
use Rattle.std.specs.Prelude.{nat_lt, slice_index}
use Rattle.std.specs.Str.{is_utf8}
use Rattle.std.proofs.lemmas.Bool.{and_parts, ltb-true}
use Rattle.std.proofs.lemmas.Str.{IsUtf8-from_ascii, is_utf8-from_IsUtf8}
use Rattle.wrapper_data.specs.declared.block.Block.{Block}
use Rattle.wrapper_data.specs.declared.choice.Choice.{Choice}
use Rattle.wrapper_data.specs.declared.choice.Choice.TheVariants as choice
use Rattle.wrapper_data.specs.declared.run.Target.{Target}
use Rattle.wrapper_data.specs.declared.run.Target.TheVariants as target
use Rattle.wrapper_data.specs.declared.word.Word.{Word}
use Rattle.wrapper_data.specs.declared.word.Word.TheVariants as word
use Rattle.wrapper_meaning.specs.Buffer.{IsBuffer}
use Rattle.wrapper_meaning.specs.Cells.{HasBytes}
use Rattle.wrapper_meaning.specs.Direction.{give, lend, take}
use Rattle.wrapper_meaning.specs.InMemory.{TextHolds, text_extent}

-- a block of these bytes, all of them written
abbrev pub block_at : ℕ → List ℕ → Block
block_at address bytes = record { address = address; size = length bytes; cells = enumerate_from 0 bytes }

-- the four bytes of a number, the low byte first
abbrev pub four : ℕ → List ℕ
four n = n % 256 ∷ n / 256 % 256 ∷ n / 65536 % 256 ∷ n / 16777216 ∷ []

-- an address and a length
abbrev pub pair : ℕ → ℕ → List ℕ
pair address n = four address ++ four n

abbrev pub pair_words : ℕ → ℕ → List Word
pair_words address n = word.Pointer address ∷ word.Length n ∷ []

-- what tells two words, two choices or two targets apart

abbrev pub address_in : Word → ℕ
address_in (word.Pointer address) = address
address_in _ = 0

abbrev pub chosen : Option Choice → ℕ
chosen (Some (choice.At address)) = address
chosen _ = 0

abbrev pub name_of : Target → List ℕ
name_of (target.Core place name) = name
name_of (target.Method place name) = name

-- texts of ASCII are UTF-8

each_ascii : (bytes : List ℕ) → list_all (λ b. nat_lt b 128) bytes ≡ true → (i : ℕ) → slice_index bytes i < 128
each_ascii [] h i = omega (arith)
each_ascii (b ∷ bytes) h zero = ltb-true b 128 (and_parts (nat_lt b 128) (list_all (λ c. nat_lt c 128) bytes) h).0
each_ascii (b ∷ bytes) h (suc i) = each_ascii bytes (and_parts (nat_lt b 128) (list_all (λ c. nat_lt c 128) bytes) h).1 i

pub ascii : (bytes : List ℕ) → list_all (λ b. nat_lt b 128) bytes ≡ true → is_utf8 bytes ≡ true
ascii bytes h = is_utf8-from_IsUtf8 bytes (IsUtf8-from_ascii bytes (each_ascii bytes h))

-- a text is lent in the block at a place of the heap
pub text_lent : (heap : List Block) (at : ℕ) (b : Block) (offset c : ℕ) (bytes : List ℕ) → at < length heap → slice_index_or heap at b ≡ b → offset + suc (length bytes) ≤ b.size → suc (length bytes) < 2 ^ 31
    → HasBytes b offset (suc (length bytes)) (c ∷ bytes) → IsBuffer (lend heap) true (b.address + offset) (suc (length bytes)) text_extent (TextHolds (c ∷ bytes)) []
text_lent heap at b offset c bytes inside is room bounded has = record {
  aligned = omega (arith);
  bounded = omega (bounded, arith);
  placed = record { block = b; offset = offset; own = []; inner = []; held = record { there = (at, inside, is); starts = refl; room = omega (room, arith); none = refl }; holds = (has, refl); all = refl };
}

-- a text has a block of its own, which is taken, or given

pub text_taken : (b : Block) (c : ℕ) (bytes : List ℕ) → b.size ≡ suc (length bytes) → suc (length bytes) < 2 ^ 31 → HasBytes b 0 (suc (length bytes)) (c ∷ bytes)
    → IsBuffer take true b.address (suc (length bytes)) text_extent (TextHolds (c ∷ bytes)) (b ∷ [])
text_taken b c bytes exact bounded has = record {
  aligned = omega (arith);
  bounded = omega (bounded, arith);
  placed = record { block = b; offset = 0; own = b ∷ []; inner = []; held = record { starts = refl; exact = omega (exact, arith); whole = refl; itself = refl }; holds = (has, refl); all = refl };
}

pub text_given : (b : Block) (c : ℕ) (bytes : List ℕ) → b.size ≡ suc (length bytes) → suc (length bytes) < 2 ^ 31 → HasBytes b 0 (suc (length bytes)) (c ∷ bytes)
    → IsBuffer give true b.address (suc (length bytes)) text_extent (TextHolds (c ∷ bytes)) (b ∷ [])
text_given b c bytes exact bounded has = record {
  aligned = omega (arith);
  bounded = omega (bounded, arith);
  placed = record { block = b; offset = 0; own = b ∷ []; inner = []; held = record { starts = refl; exact = omega (exact, arith); whole = refl; itself = refl }; holds = (has, refl); all = refl };
}
