-- A map that lists a key twice, as an argument of an export: `a` to `x`, and `a` to `y`. What is handed on, which blocks its words have, and
-- which room is due.
use Rattle.std.proofs.Common.{true, ◌≡◌, ◌++◌, ℕ, [], ◌∷◌, None, codes, length, refl, ap, arith}
use Rattle.wrapper_data.specs.declared.block.Block.{Block}
use Rattle.wrapper_data.specs.declared.value.RustValue.TheVariants as value
use Rattle.wrapper_meaning.specs.Direction.{take}
use Rattle.wrapper_meaning.specs.Due.{due, export_bill}
use Rattle.wrapper_meaning.specs.InMemory.{Holds}
use Rattle.wrapper_meaning.specs.Represents.{TakesArguments}
use Rattle.wrapper_meaning.specs.Settled.{IsValue, settled}
use Rattle.wrapper_meaning.specs.Shape.Shape.{text, pairs}
use Rattle.wrapper_meaning.specs.Shape.Shapes.{none, more}
use Rattle.wrapper_meaning.specs.StandsFor.{PartsStand}
use Rattle.wrapper_meaning.specs.Value.{Value}
use Rattle.wrapper_meaning.proofs.Instances.Forms.{block_at, pair, pair_words, text_taken}

abbrev listed : Value (pairs text text)
listed = (codes "a", codes "x") ∷ (codes "a", codes "y") ∷ []

handed_on : settled (pairs text text) listed ≡ (codes "a", codes "y") ∷ []
handed_on = refl

-- four texts of one byte, and their entries
abbrev entries : Block
entries = block_at 256 (pair 1 1 ++ pair 2 1 ++ pair 3 1 ++ pair 4 1)

abbrev byte : ℕ → ℕ → Block
byte address b = block_at address (b ∷ [])

first_key : Holds 2 take text (codes "a") entries 0 (byte 1 97 ∷ [])
first_key = record { address = 1; pointer = (omega (arith), refl); counted = (omega (arith), refl); buffer = text_taken (byte 1 97) 97 [] refl (omega (arith)) refl }

first_value : Holds 2 take text (codes "x") entries 8 (byte 2 120 ∷ [])
first_value = record { address = 2; pointer = (omega (arith), refl); counted = (omega (arith), refl); buffer = text_taken (byte 2 120) 120 [] refl (omega (arith)) refl }

second_key : Holds 2 take text (codes "a") entries 16 (byte 3 97 ∷ [])
second_key = record { address = 3; pointer = (omega (arith), refl); counted = (omega (arith), refl); buffer = text_taken (byte 3 97) 97 [] refl (omega (arith)) refl }

second_value : Holds 2 take text (codes "y") entries 24 (byte 4 121 ∷ [])
second_value = record { address = 4; pointer = (omega (arith), refl); counted = (omega (arith), refl); buffer = text_taken (byte 4 121) 121 [] refl (omega (arith)) refl }

-- the words have the block of 32 bytes, and one for each key and each value
as_words : TakesArguments 2 (more (pairs text text) none) (listed, tt) (pair_words 256 2) (entries ∷ byte 1 97 ∷ byte 2 120 ∷ byte 3 97 ∷ byte 4 121 ∷ [])
as_words = (
  pair_words 256 2,
  [],
  entries ∷ byte 1 97 ∷ byte 2 120 ∷ byte 3 97 ∷ byte 4 121 ∷ [],
  [],
  record {
    address = 256;
    pair = refl;
    range = omega (arith);
    buffer = record {
      aligned = refl;
      bounded = omega (arith);
      placed = record {
        block = entries;
        offset = 0;
        own = entries ∷ [];
        inner = byte 1 97 ∷ byte 2 120 ∷ byte 3 97 ∷ byte 4 121 ∷ [];
        held = record { starts = refl; exact = refl; whole = refl; itself = refl };
        holds = (
          byte 1 97 ∷ byte 2 120 ∷ [],
          byte 3 97 ∷ byte 4 121 ∷ [],
          (byte 1 97 ∷ [], byte 2 120 ∷ [], first_key, first_value, refl),
          (byte 3 97 ∷ byte 4 121 ∷ [], [], (byte 3 97 ∷ [], byte 4 121 ∷ [], second_key, second_value, refl), refl, refl),
          refl,
        );
        all = refl;
      };
    };
  },
  (refl, refl),
  refl,
  refl,
)

-- the implementation gets one entry, with the first key and the later value: so the block of the entries is gone, and those of the other
-- key and of the first value
as_value : PartsStand 2 take (more (pairs text text) none) (settled (pairs text text) listed, tt) (value.Map ((value.Buffer 1 1 true, value.Buffer 4 1 true) ∷ []) ∷ []) (byte 1 97 ∷ byte 4 121 ∷ [])
as_value = (
  value.Map ((value.Buffer 1 1 true, value.Buffer 4 1 true) ∷ []),
  [],
  byte 1 97 ∷ byte 4 121 ∷ [],
  [],
  refl,
  (
    (value.Buffer 1 1 true, value.Buffer 4 1 true) ∷ [],
    refl,
    (
      (value.Buffer 1 1 true, value.Buffer 4 1 true),
      [],
      byte 1 97 ∷ byte 4 121 ∷ [],
      [],
      refl,
      (
        byte 1 97 ∷ [],
        byte 4 121 ∷ [],
        record { address = 1; nonzero = omega (arith); range = omega (arith); owned = true; flag = refl; is = refl; buffer = text_taken (byte 1 97) 97 [] refl (omega (arith)) refl },
        record { address = 4; nonzero = omega (arith); range = omega (arith); owned = true; flag = refl; is = refl; buffer = text_taken (byte 4 121) 121 [] refl (omega (arith)) refl },
        refl,
      ),
      (refl, refl),
      refl,
    ),
  ),
  (refl, refl),
  refl,
)

-- room for both entries is due
is_due : due (export_bill 2 [] (more (pairs text text) none) (listed, tt) None tt) ≡ record { size = 2; align = 0 } ∷ []
is_due = refl

-- with both entries it is no value
no_value : IsValue (pairs text text) listed → ⊥
no_value good = omega (ap length good.1, arith)
