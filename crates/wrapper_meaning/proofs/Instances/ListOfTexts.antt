-- A list of two texts, `ann` and an empty one, as the result of an export: its words, its blocks, its requests, and what its post-return
-- function leaves.
use Rattle.std.proofs.Common.{◌≡◌, [], ◌∷◌, ◌++◌, Some, None, codes, length, refl, ap, arith, ◌∙◌}
use Rattle.wrapper_data.specs.declared.block.Block.{Block}
use Rattle.wrapper_data.specs.declared.run.CallPoint.{CallPoint}
use Rattle.wrapper_data.specs.declared.run.Run.{Run}
use Rattle.wrapper_data.specs.declared.run.Stop.TheVariants as stop
use Rattle.wrapper_data.specs.declared.word.Word.TheVariants as word
use Rattle.wrapper_meaning.specs.Areas.{export_area}
use Rattle.wrapper_meaning.specs.Direction.{give}
use Rattle.wrapper_meaning.specs.Due.{Bill, due, export_bill}
use Rattle.wrapper_meaning.specs.Gives.{FreesWords}
use Rattle.wrapper_meaning.specs.InMemory.{Holds}
use Rattle.wrapper_meaning.specs.Represents.{GivesResult}
use Rattle.wrapper_meaning.specs.Shape.Shape.{text, list, tuple}
use Rattle.wrapper_meaning.specs.Shape.Shapes.{none, more}
use Rattle.wrapper_meaning.proofs.Instances.Forms.{block_at, pair, text_given}
use Rattle.wrapper_meaning.proofs.Lists.{first_or}

-- `ann` stands at 4096, the list at 8192, and the area at 512

abbrev ann : Block
ann = block_at 4096 (codes "ann")

abbrev pub names : Block
names = block_at 8192 (pair 4096 3 ++ pair 1 0)

abbrev area : Block
area = block_at 512 (pair 8192 2)

ann_held : Holds 2 give text (codes "ann") names 0 (ann ∷ [])
ann_held = record { address = 4096; pointer = (omega (arith), refl); counted = (omega (arith), refl); buffer = text_given ann 97 (110 ∷ 110 ∷ []) refl (omega (arith)) refl }

empty_held : Holds 2 give text [] names 8 []
empty_held = record { address = 1; pointer = (omega (arith), refl); counted = (omega (arith), refl); buffer = record { aligned = refl; bounded = omega (arith); placed = (tt, refl) } }

as_words : GivesResult 2 (Some (list text)) (codes "ann" ∷ [] ∷ []) (word.Pointer 512 ∷ []) (names ∷ ann ∷ []) (area ∷ [])
as_words = record {
  block = area;
  is_area = refl;
  named = refl;
  stands = record {
    aligned = refl;
    room = omega (arith);
    holds = record {
      address = 8192;
      pointer = (omega (arith), refl);
      counted = (omega (arith), refl);
      buffer = record {
        aligned = refl;
        bounded = omega (arith);
        placed = record {
          block = names;
          offset = 0;
          own = names ∷ [];
          inner = ann ∷ [];
          held = record { starts = refl; exact = refl; whole = refl; itself = refl };
          holds = (ann ∷ [], [], ann_held, ([], [], empty_held, refl, refl), refl);
          all = refl;
        };
      };
    };
  };
}

-- the area first, and a block for the list; of an empty list the area alone

abbrev bill : Bill
bill = export_bill 2 (Some (list text) ∷ []) none tt (Some (list text)) (codes "ann" ∷ [] ∷ [])

is_due : due bill ≡ record { size = 8; align = 4 } ∷ record { size = 16; align = 4 } ∷ []
is_due = refl

is_first : bill.before ≡ 0
is_first = refl

of_none : due (export_bill 2 (Some (list text) ∷ []) none tt (Some (list text)) []) ≡ record { size = 8; align = 4 } ∷ []
of_none = refl

-- the area of a module is the greatest of its results'
shared : export_area 2 (Some (list text) ∷ None ∷ Some (tuple (more text (more text none))) ∷ []) (Some (list text)) ≡ record { size = 16; align = 4 } ∷ []
shared = refl

-- the post-return function frees the blocks of the words, and leaves the area

abbrev after : Run
after = record { stop = stop.Done; calls = []; requests = []; heap = record { blocks = area ∷ [] }; words = []; value = None }

frees : FreesWords (names ∷ ann ∷ []) (record { blocks = area ∷ names ∷ ann ∷ [] }) after
frees = record { done = refl; formed = refl; account = λ weight. omega (arith); words = refl; value = refl; calls = refl; requests = refl }

-- a text with a block of another size
abbrev wrong : Block
wrong = record { address = 4096; size = 4; cells = (0, 97) ∷ (1, 110) ∷ (2, 110) ∷ [] }

of_another_size : Holds 2 give text (codes "ann") names 0 (wrong ∷ []) → ⊥
of_another_size holds =
    let inside = holds.buffer.placed in
    let same : wrong ≡ inside.block = ap (first_or wrong) (inside.all ∙ ap (λ o. o ++ inside.inner) inside.held.itself) in
    omega (ap (λ x. x.size) same, inside.held.exact, arith)

-- a post-return function that frees the outer block alone
abbrev kept : Run
kept = record { stop = stop.Done; calls = []; requests = []; heap = record { blocks = area ∷ ann ∷ [] }; words = []; value = None }

of_the_outer_block_alone : FreesWords (names ∷ ann ∷ []) (record { blocks = area ∷ names ∷ ann ∷ [] }) kept → ⊥
of_the_outer_block_alone frees = omega (frees.account (λ b. 1), arith)

-- one that frees the area too
of_the_area_too : FreesWords (names ∷ ann ∷ []) (record { blocks = area ∷ names ∷ ann ∷ [] }) (record after { heap = record { blocks = [] } }) → ⊥
of_the_area_too frees = omega (frees.account (λ b. 1), arith)

-- one that stops before its end (`done`)
stuck : FreesWords (names ∷ ann ∷ []) (record { blocks = area ∷ names ∷ ann ∷ [] }) (record after { stop = stop.Stuck 0 }) → ⊥
stuck frees = let stops : stop.Stuck 0 ≡ stop.Done = frees.done in absurd (cc)

-- one that asks for memory (`requests`)
asks : FreesWords (names ∷ ann ∷ []) (record { blocks = area ∷ names ∷ ann ∷ [] }) (record after { requests = record { size = 8; align = 4 } ∷ [] }) → ⊥
asks frees = omega (ap length frees.requests, arith)

-- one that gives a word (`words`)
gives_a_word : FreesWords (names ∷ ann ∷ []) (record { blocks = area ∷ names ∷ ann ∷ [] }) (record after { words = word.Pointer 512 ∷ [] }) → ⊥
gives_a_word frees = omega (ap length frees.words, arith)

-- one that calls (`calls`)
calls : (c : CallPoint) → FreesWords (names ∷ ann ∷ []) (record { blocks = area ∷ names ∷ ann ∷ [] }) (record after { calls = c ∷ [] }) → ⊥
calls c frees = omega (ap length frees.calls, arith)
