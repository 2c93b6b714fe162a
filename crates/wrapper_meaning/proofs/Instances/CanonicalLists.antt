-- A list of two records of a byte and a number of 16 bits, which lies in memory as it is, with a byte between the two that need not be written;
-- and the same list of tuples, which does not.
use Rattle.std.proofs.Common.{◌≡◌, ◌%◌, true, false, pos, [], ◌∷◌, None, refl, ap, arith}
use Rattle.wit_layout.specs.Extent.{extent}
use Rattle.wit_layout.specs.Tree.{Scalar}
use Rattle.wrapper_data.specs.declared.block.Block.{Block}
use Rattle.wrapper_data.specs.declared.value.RustValue.TheVariants as value
use Rattle.wrapper_data.specs.declared.word.Word.TheVariants as word
use Rattle.wrapper_meaning.specs.AsWords.{Says}
use Rattle.wrapper_meaning.specs.Buffer.{IsBuffer}
use Rattle.wrapper_meaning.specs.Direction.{give, lend}
use Rattle.wrapper_meaning.specs.Due.{due, import_bill}
use Rattle.wrapper_meaning.specs.InMemory.{EachHolds, Holds}
use Rattle.wrapper_meaning.specs.Shape.{Shapes}
use Rattle.wrapper_meaning.specs.Shape.Shape.{scalar, list, fields, tuple}
use Rattle.wrapper_meaning.specs.Shape.Shapes.{none, more}
use Rattle.wrapper_meaning.specs.StandsFor.{Stands}
use Rattle.wrapper_meaning.specs.Value.{Value}
use Rattle.wrapper_meaning.proofs.Instances.Forms.{address_in, pair_words}
use Rattle.wrapper_meaning.proofs.Lists.{first_or}

abbrev parts : Shapes
parts = more (scalar Scalar.u8) (more (scalar Scalar.u16) none)

abbrev two : Value (list (fields parts))
two = (pos 1, (pos 2, tt)) ∷ (pos 3, (pos 4, tt)) ∷ []

abbrev records : Block
records = record { address = 64; size = 8; cells = (0, 1) ∷ (2, 2) ∷ (3, 0) ∷ (4, 3) ∷ (6, 4) ∷ (7, 0) ∷ [] }

lent : IsBuffer (lend (records ∷ [])) true 64 2 (extent 1 4) (EachHolds (Holds 2 (lend (records ∷ [])) (fields parts)) 4 two) []
lent = record {
  aligned = refl;
  bounded = omega (arith);
  placed = record {
    block = records;
    offset = 0;
    own = [];
    inner = [];
    held = record { there = (0, omega (arith), refl); starts = refl; room = omega (arith); none = refl };
    holds = (
      [],
      [],
      ([], [], ((omega (arith), refl), refl), ([], [], ((omega (arith), refl), refl), refl, refl), refl),
      ([], [], ([], [], ((omega (arith), refl), refl), ([], [], ((omega (arith), refl), refl), refl, refl), refl), refl, refl),
      refl,
    );
    all = refl;
  };
}

as_words : Says 2 (lend (records ∷ [])) (list (fields parts)) two (pair_words 64 2) []
as_words = record { address = 64; pair = refl; range = omega (arith); buffer = lent }

as_value : Stands 2 (lend (records ∷ [])) (list (fields parts)) two (value.Buffer 64 2 false) []
as_value = record { address = 64; nonzero = omega (arith); range = omega (arith); owned = false; flag = refl; is = refl; buffer = lent }

nothing_due : due (import_bill 2 (more (list (fields parts)) none) (two, tt) None tt) ≡ []
nothing_due = refl

-- of tuples it is lowered, into a block
block_due : due (import_bill 2 (more (list (tuple parts)) none) (two, tt) None tt) ≡ record { size = 8; align = 2 } ∷ []
block_due = refl

-- at an odd address

misaligned : Says 2 give (list (fields parts)) [] (pair_words 65 0) [] → ⊥
misaligned says =
    let place : 65 ≡ says.address = ap (λ ws. address_in (first_or (word.Pointer 0) ws)) says.pair in
    omega (ap (λ a. a % 2) place, says.buffer.aligned, arith)
