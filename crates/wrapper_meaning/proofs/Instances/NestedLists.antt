-- A list of lists of texts, as an import's wrapper lowers it: its words and blocks represent it where they are lent, also as what was made.
use Rattle.std.proofs.Common.{◌≡◌, ◌∙◌, ◌<◌, ◌≤◌, ◌+◌, ◌++◌, ℕ, zero, suc, [], ◌∷◌, None, codes, slice_index_or, refl, ap, arith}
use Rattle.wrapper_data.specs.declared.block.Block.{Block}
use Rattle.wrapper_meaning.specs.Direction.{lend}
use Rattle.wrapper_meaning.specs.Due.{due, import_bill}
use Rattle.wrapper_meaning.specs.InMemory.{Holds}
use Rattle.wrapper_meaning.specs.Represents.{LendsArguments}
use Rattle.wrapper_meaning.specs.Shape.{Shapes}
use Rattle.wrapper_meaning.specs.Shape.Shape.{text, list}
use Rattle.wrapper_meaning.specs.Shape.Shapes.{none, more}
use Rattle.wrapper_meaning.specs.Value.{Parts}
use Rattle.wrapper_meaning.proofs.Instances.Forms.{block_at, pair, pair_words, text_lent}
use Rattle.wrapper_meaning.proofs.Lists.{some_same}

-- a list that has the text `a`, and an empty list

abbrev lists : Shapes
lists = more (list (list text)) none

abbrev values : Parts lists
values = ((codes "a" ∷ []) ∷ [] ∷ [], tt)

is_due : due (import_bill 2 lists values None tt) ≡ record { size = 16; align = 4 } ∷ record { size = 8; align = 4 } ∷ []
is_due = refl

-- the text was given, and the blocks of the lists are made

abbrev given : Block
given = block_at 512 (codes "a")

abbrev outer : Block
outer = block_at 4096 (pair 8192 1 ++ pair 0 0)

abbrev inner : Block
inner = block_at 8192 (pair 512 1)

text_held : Holds 2 (lend (given ∷ outer ∷ inner ∷ [])) text (codes "a") inner 0 []
text_held = record { address = 512; pointer = (omega (arith), refl); counted = (omega (arith), refl); buffer = text_lent (given ∷ outer ∷ inner ∷ []) 0 given 0 97 [] (omega (arith)) refl (omega (arith)) (omega (arith)) refl }

inner_held : Holds 2 (lend (given ∷ outer ∷ inner ∷ [])) (list text) (codes "a" ∷ []) outer 0 []
inner_held = record {
  address = 8192;
  pointer = (omega (arith), refl);
  counted = (omega (arith), refl);
  buffer = record {
    aligned = refl;
    bounded = omega (arith);
    placed = record { block = inner; offset = 0; own = []; inner = []; held = record { there = (2, omega (arith), refl); starts = refl; room = omega (arith); none = refl }; holds = ([], [], text_held, refl, refl); all = refl };
  };
}

-- an empty list may stand at address 0 where it is lent
empty_held : Holds 2 (lend (given ∷ outer ∷ inner ∷ [])) (list text) [] outer 8 []
empty_held = record { address = 0; pointer = (omega (arith), refl); counted = (omega (arith), refl); buffer = record { aligned = refl; bounded = omega (arith); placed = (tt, refl) } }

as_words : LendsArguments 2 (given ∷ outer ∷ inner ∷ []) [] lists values (pair_words 4096 2)
as_words = (
  pair_words 4096 2,
  [],
  [],
  [],
  record {
    address = 4096;
    pair = refl;
    range = omega (arith);
    buffer = record {
      aligned = refl;
      bounded = omega (arith);
      placed = record {
        block = outer;
        offset = 0;
        own = [];
        inner = [];
        held = record { there = (1, omega (arith), refl); starts = refl; room = omega (arith); none = refl };
        holds = ([], [], inner_held, ([], [], empty_held, refl, refl), refl);
        all = refl;
      };
    };
  },
  (refl, refl),
  refl,
  refl,
)

-- where the guard of the inner list was dropped before the call: its bytes lie in none of the blocks that are left

in_neither : (at : ℕ) (b : Block) (offset : ℕ) → at < 2 → slice_index_or (given ∷ outer ∷ []) at b ≡ b → 8192 ≡ b.address + offset → offset + 8 ≤ b.size → ⊥
in_neither zero b offset inside is starts room = omega (ap (λ x. x.address) is, ap (λ x. x.size) is, starts, room, arith)
in_neither (suc zero) b offset inside is starts room = omega (ap (λ x. x.address) is, ap (λ x. x.size) is, starts, room, arith)
in_neither (suc (suc at)) b offset inside is starts room = omega (inside, arith)

dropped : Holds 2 (lend (given ∷ outer ∷ [])) (list text) (codes "a" ∷ []) outer 0 [] → ⊥
dropped holds =
    let held = holds.buffer.placed.held in
    let (at, inside, is) = held.there in
    let place : 8192 ≡ holds.address = some_same 8192 holds.address holds.pointer.1 in
    in_neither at holds.buffer.placed.block holds.buffer.placed.offset inside is (place ∙ held.starts) held.room
