-- A peer, an implementation and a caller that are honest, and some that are not.
use Rattle.std.proofs.Common.{ℕ, true, false, List, [], ◌∷◌, ◌++◌, Some, None, codes, pos, refl, sym, ap, arith, ◌∙◌}
use Rattle.std.proofs.lemmas.Bool.{true≢false}
use Rattle.wit_layout.specs.Tree.{Scalar}
use Rattle.wrapper_data.specs.declared.answer.Answer.{Answer}
use Rattle.wrapper_data.specs.declared.answer.Answer.TheVariants as answer
use Rattle.wrapper_data.specs.declared.block.Block.{Block}
use Rattle.wrapper_data.specs.declared.run.CallPoint.{CallPoint}
use Rattle.wrapper_data.specs.declared.run.Target.TheVariants as target
use Rattle.wrapper_data.specs.declared.value.RustValue.TheVariants as value
use Rattle.wrapper_data.specs.declared.word.Word.{Word}
use Rattle.wrapper_data.specs.declared.word.Word.TheVariants as word
use Rattle.wrapper_data.specs.Answered.{with_block, written_block}
use Rattle.wrapper_meaning.specs.AsWords.{Says}
use Rattle.wrapper_meaning.specs.Direction.{take}
use Rattle.wrapper_meaning.specs.Honest.{HonestCaller, HonestImplementation, HonestPeer}
use Rattle.wrapper_meaning.specs.Items.{total}
use Rattle.wrapper_meaning.specs.Shape.Shape.{scalar, text}
use Rattle.wrapper_meaning.specs.Shape.Shapes.{none, more}
use Rattle.wrapper_meaning.specs.StandsFor.{Stands}
use Rattle.wrapper_meaning.proofs.Instances.Forms.{address_in, ascii, block_at, pair_words, text_taken}
use Rattle.wrapper_meaning.proofs.Instances.OkAnswer.{area_of, lies_inside, names_ok, ok, ok_begins, ok_taken, written}
use Rattle.wrapper_meaning.proofs.Lists.{first_or}
use Rattle.wrapper_meaning.proofs.PostReturn.{total-append}
use Rattle.wrapper_meaning.proofs.RustValues.{owned_same}

-- 1. A peer that answers `ok`: it writes an address and a length to the area of 68 bytes, and brings the block

abbrev call : CallPoint
call = record { target = target.Core [] []; words = word.Pointer 4096 ∷ word.Pointer 4096 ∷ []; values = []; heap = record { blocks = area_of 68 [] ∷ [] } }

peer : HonestPeer 2 (Some text) (codes "ok") (answer.Words None (written names_ok) (ok ∷ [])) call
unfolding with_block written_block
peer = record {
  good = ascii (codes "ok") refl;
  result = None;
  writes = written names_ok;
  new = ok ∷ [];
  answers = refl;
  represents = record {
    words = word.Pointer 4096 ∷ [];
    blocks = ok ∷ [];
    area = area_of 68 names_ok ∷ [];
    takes = record { block = area_of 68 names_ok; is_area = refl; named = refl; stands = ok_begins 68 (omega (arith)) };
    placed = record {
      block = area_of 68 names_ok;
      is_area = refl;
      before = word.Pointer 4096 ∷ [];
      last = refl;
      silent = refl;
      live = (0, omega (arith), refl);
      inside = lies_inside 8 names_ok (omega (arith));
    };
    fresh = refl;
    brings = λ weight. refl;
  };
}

-- one that gives a word besides
result_of : Answer → List Word
result_of (answer.Words (Some x) writes blocks) = x ∷ []
result_of _ = []

with_a_word : HonestPeer 2 (Some text) (codes "ok") (answer.Words (Some (word.Pointer 4096)) (written names_ok) (ok ∷ [])) call → ⊥
unfolding result_of
with_a_word p = omega (ap (λ a. total (λ x. 1) (result_of a)) (p.answers ∙ ap (λ r. answer.Words r p.writes p.new) p.represents.placed.silent), arith)

-- one that brings a block that is none of its text's

new_of : Answer → List Block
new_of (answer.Words result writes blocks) = blocks
new_of _ = []

with_another_block : HonestPeer 2 (Some text) (codes "ok") (answer.Words None (written names_ok) (ok ∷ record { address = 64; size = 4; cells = [] } ∷ [])) call → ⊥
unfolding new_of
with_another_block p =
    let held = p.represents.takes.stands.holds.buffer.placed in
    let one : List Block → ℕ = total (λ b. 1) in
    omega (
      p.represents.brings (λ b. 1),
      ap (λ a. one (new_of a)) p.answers,
      ap one held.all,
      total-append (λ b. 1) held.own held.inner,
      ap one held.held.itself,
      ap one held.holds.1,
      arith,
    )

-- one that answers a number in a word, and one that writes besides

abbrev answers_seven : List (ℕ × ℕ) → Answer
answers_seven writes = answer.Words (Some (word.I32 (pos 7))) writes []

peer_of_a_number : HonestPeer 2 (Some (scalar Scalar.u32)) (pos 7) (answers_seven []) call
peer_of_a_number = record {
  good = refl;
  result = Some (word.I32 (pos 7));
  writes = [];
  new = [];
  answers = refl;
  represents = record {
    words = word.I32 (pos 7) ∷ [];
    blocks = [];
    area = [];
    takes = ((word.I32 (pos 7), refl, (pos 7, refl, refl), refl), refl);
    placed = (refl, refl);
    fresh = refl;
    brings = λ weight. refl;
  };
}

writes_of : Answer → List (ℕ × ℕ)
writes_of (answer.Words result writes blocks) = writes
writes_of _ = []

writes_besides : HonestPeer 2 (Some (scalar Scalar.u32)) (pos 7) (answers_seven ((4096, 0) ∷ [])) call → ⊥
unfolding writes_of
writes_besides p = omega (ap (λ a. total (λ x. 1) (writes_of a)) p.answers, ap (total (λ x. 1)) p.represents.placed.1, arith)

-- 2. An implementation that answers `abc`, and leaves another block too

abbrev abc : Block
abc = block_at 8192 (codes "abc")

abbrev kept : Block
kept = record { address = 64; size = 4; cells = [] }

implementation : HonestImplementation 2 (Some text) (codes "abc") (answer.Value (Some (value.Buffer 8192 3 true)) (record { blocks = kept ∷ abc ∷ [] }))
implementation = record {
  good = (ascii (codes "abc") refl, refl);
  value = Some (value.Buffer 8192 3 true);
  heap = record { blocks = kept ∷ abc ∷ [] };
  answers = refl;
  formed = refl;
  own = abc ∷ [];
  others = kept ∷ [];
  stands = (value.Buffer 8192 3 true, refl, record { address = 8192; nonzero = omega (arith); range = omega (arith); owned = true; flag = refl; is = refl; buffer = text_taken abc 97 (98 ∷ 99 ∷ []) refl (omega (arith)) refl });
  live = λ weight. omega (arith);
}

-- an empty text may have either flag

empty_owned : Stands 2 take text [] (value.Buffer 1 0 true) []
empty_owned = record { address = 1; nonzero = omega (arith); range = omega (arith); owned = true; flag = tt; is = refl; buffer = record { aligned = refl; bounded = omega (arith); placed = (omega (arith), refl) } }

empty_unowned : Stands 2 take text [] (value.Buffer 1 0 false) []
empty_unowned = record { address = 1; nonzero = omega (arith); range = omega (arith); owned = false; flag = tt; is = refl; buffer = record { aligned = refl; bounded = omega (arith); placed = (omega (arith), refl) } }

-- any other is owned
unowned : (blocks : List Block) → Stands 2 take text (codes "abc") (value.Buffer 8192 3 false) blocks → ⊥
unowned blocks stands = true≢false (sym (owned_same _ _ _ _ false stands.owned stands.is ∙ stands.flag))

-- 3. A caller whose words name the block `ok`, beside which another one is there

caller : HonestCaller 2 (more text none) (codes "ok", tt) (pair_words 8192 2) (record { blocks = kept ∷ ok ∷ [] })
caller = record {
  good = (ascii (codes "ok") refl, tt);
  formed = refl;
  blocks = ok ∷ [];
  others = kept ∷ [];
  takes = (pair_words 8192 2, [], ok ∷ [], [], record { address = 8192; pair = refl; range = omega (arith); buffer = ok_taken }, (refl, refl), refl, refl);
  live = λ weight. omega (arith);
}

-- one that passes two texts in one block
in_one_block : HonestCaller 2 (more text (more text none)) (codes "ok", (codes "ok", tt)) (pair_words 8192 2 ++ pair_words 8192 2) (record { blocks = ok ∷ [] }) → ⊥
in_one_block dishonest =
    let (front, back, first, rest, says, (front', back', second, rest', says', end, words', all'), words, all) = dishonest.takes in
    let here = says.buffer.placed in
    let there = says'.buffer.placed in
    let one : List Block → ℕ = total (λ b. 1) in
    omega (
      dishonest.live (λ b. 1),
      total-append (λ b. 1) dishonest.blocks dishonest.others,
      ap one all,
      total-append (λ b. 1) first rest,
      ap one here.all,
      total-append (λ b. 1) here.own here.inner,
      ap one here.held.itself,
      ap one all',
      total-append (λ b. 1) second rest',
      ap one there.all,
      total-append (λ b. 1) there.own there.inner,
      ap one there.held.itself,
      arith,
    )

-- an empty text at address 0
at_zero : Says 2 take text [] (word.Pointer 0 ∷ word.Length 0 ∷ []) [] → ⊥
at_zero says = omega (ap (λ ws. address_in (first_or (word.Pointer 0) ws)) says.pair, says.buffer.placed.0, arith)
