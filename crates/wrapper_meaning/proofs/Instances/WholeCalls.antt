-- Whole calls: an export that takes the text `ok` and gives the text `abc`, and an import that gives the text `ok`; and wrappers that drop,
-- leak or misdirect.
use Rattle.std.proofs.Common.{◌≡◌, ℕ, true, false, List, [], ◌∷◌, Some, None, codes, pos, refl, sym, ap, arith, ◌∙◌}
use Rattle.std.proofs.lemmas.Bool.{true≢false}
use Rattle.wrapper_data.specs.declared.block.Block.{Block}
use Rattle.wrapper_data.specs.declared.choice.Choice.TheVariants as choice
use Rattle.wrapper_data.specs.declared.run.CallPoint.{CallPoint}
use Rattle.wrapper_data.specs.declared.run.Run.{Run}
use Rattle.wrapper_data.specs.declared.run.Stop.TheVariants as stop
use Rattle.wrapper_data.specs.declared.run.Target.{Target}
use Rattle.wrapper_data.specs.declared.run.Target.TheVariants as target
use Rattle.wrapper_data.specs.declared.value.RustValue.TheVariants as value
use Rattle.wrapper_data.specs.declared.word.Word.{Word}
use Rattle.wrapper_data.specs.declared.word.Word.TheVariants as word
use Rattle.wrapper_data.specs.Heap.{is_heap}
use Rattle.wrapper_meaning.specs.Calls.{CallsExport, CallsImport}
use Rattle.wrapper_meaning.specs.Due.{Bill, export_bill}
use Rattle.wrapper_meaning.specs.Ends.{Ends}
use Rattle.wrapper_meaning.specs.Gives.{GivesExport, GivesImport}
use Rattle.wrapper_meaning.specs.Items.{total}
use Rattle.wrapper_meaning.specs.Shape.Shape.{text}
use Rattle.wrapper_meaning.specs.Shape.Shapes.{none, more}
use Rattle.wrapper_meaning.proofs.Instances.Forms.{address_in, block_at, chosen, name_of, pair, text_given}
use Rattle.wrapper_meaning.proofs.Instances.OkAnswer.{ok, ok_taken}
use Rattle.wrapper_meaning.proofs.Lists.{first_or, some_same}
use Rattle.wrapper_meaning.proofs.PostReturn.{total-append}
use Rattle.wrapper_meaning.proofs.RustValues.{buffer_same}

abbrev abc : Block
abc = block_at 4096 (codes "abc")

abbrev kept : Block
kept = record { address = 64; size = 4; cells = [] }

abbrev method : Target
method = target.Method (codes "Guest") (codes "f")

-- 1. The export's call, with the text as the implementation's own

abbrev call : CallPoint
call = record { target = method; words = []; values = value.Buffer 8192 2 true ∷ []; heap = record { blocks = kept ∷ ok ∷ [] } }

calls : CallsExport 2 method (more text none) (codes "ok", tt) (record { blocks = kept ∷ ok ∷ [] }) (ok ∷ []) call
calls = record {
  aimed = refl;
  words = refl;
  own = ok ∷ [];
  stands = (value.Buffer 8192 2 true, [], ok ∷ [], [], refl, record { address = 8192; nonzero = omega (arith); range = omega (arith); owned = true; flag = refl; is = refl; buffer = ok_taken }, (refl, refl), refl);
  formed = refl;
  account = λ weight. refl;
}

-- 2. What it gives: the text as the implementation left it, in an area at 512

abbrev area : Block
area = block_at 512 (pair 4096 3)

abbrev bill : Bill
bill = export_bill 2 (Some text ∷ []) (more text none) (codes "ok", tt) (Some text) (codes "abc")

abbrev run : Run
run = record { stop = stop.Done; calls = call ∷ []; requests = record { size = 8; align = 4 } ∷ []; heap = record { blocks = kept ∷ abc ∷ area ∷ [] }; words = word.Pointer 512 ∷ []; value = None }

gives : GivesExport 2 bill (choice.At 512 ∷ []) (Some text) (codes "abc") (record { blocks = kept ∷ abc ∷ [] }) (abc ∷ []) run
gives = record {
  blocks = abc ∷ [];
  area = area ∷ [];
  represents = record {
    block = area;
    is_area = refl;
    named = refl;
    stands = record {
      aligned = refl;
      room = omega (arith);
      holds = record { address = 4096; pointer = (omega (arith), refl); counted = (omega (arith), refl); buffer = text_given abc 97 (98 ∷ 99 ∷ []) refl (omega (arith)) refl };
    };
  };
  stands = record { block = area; is = refl; chosen = refl; aligned = refl; exact = refl };
  value = refl;
  formed = refl;
  account = λ weight. omega (arith);
}

ends : Ends bill (choice.At 512 ∷ []) (call ∷ []) (GivesExport 2 bill (choice.At 512 ∷ []) (Some text) (codes "abc") (record { blocks = kept ∷ abc ∷ [] }) (abc ∷ [])) run
ends = record { call = call; once = refl; requests = λ weight. refl; area = refl; gives = gives }

-- 3. An import that gives `ok`, from an empty heap

abbrev import_run : List Block → Run
import_run blocks = record { stop = stop.Done; calls = []; requests = []; heap = record { blocks = blocks }; words = []; value = Some (value.Buffer 8192 2 true) }

imports : GivesImport 2 false (Some text) (codes "ok") [] (record { blocks = [] }) [] (import_run (ok ∷ []))
imports = record {
  blocks = ok ∷ [];
  answers = (value.Buffer 8192 2 true, refl, record { address = 8192; nonzero = omega (arith); range = omega (arith); owned = true; flag = refl; is = refl; buffer = ok_taken });
  words = refl;
  formed = refl;
  account = λ weight. refl;
}

-- 4. Wrappers that are not

-- one that leaves a block besides
leaks : GivesImport 2 false (Some text) (codes "ok") [] (record { blocks = [] }) [] (import_run (ok ∷ kept ∷ [])) → ⊥
leaks wrong =
    let (r, is, stands) = wrong.answers in
    let held = stands.buffer.placed in
    let one : List Block → ℕ = total (λ b. 1) in
    omega (wrong.account (λ b. 1), ap one held.all, total-append (λ b. 1) held.own held.inner, ap one held.held.itself, ap one held.holds.1, arith)

-- one that frees a given block before the call
frees : (ws : CallPoint) → ws.heap ≡ record { blocks = [] } → CallsImport 2 method none tt None (record { blocks = kept ∷ [] }) [] ws → ⊥
frees c empty wrong =
    let one : List Block → ℕ = total (λ b. 1) in
    omega (
      wrong.kept (λ b. 1),
      ap (λ h. one h.blocks) empty,
      total-append (λ b. 1) (kept ∷ wrong.area) wrong.made,
      total-append (λ b. 1) (kept ∷ []) wrong.area,
      arith,
    )

-- one that calls another method

misdirects : CallsExport 2 (target.Method (codes "Guest") (codes "g")) (more text none) (codes "ok", tt) (record { blocks = kept ∷ ok ∷ [] }) (ok ∷ []) call → ⊥
misdirects wrong = omega (ap (λ t. total (λ x. x) (name_of t)) wrong.aimed, arith)

-- one that frees a text of the words before the call
drops : (c : CallPoint) → c.heap ≡ record { blocks = kept ∷ [] } → c.values ≡ value.Buffer 8192 2 true ∷ [] → CallsExport 2 method (more text none) (codes "ok", tt) (record { blocks = kept ∷ ok ∷ [] }) (ok ∷ []) c → ⊥
drops c heap values wrong =
    let (r, others, first, rest, is, stands, end, all) = wrong.stands in
    let held = stands.buffer.placed in
    let one : List Block → ℕ = total (λ b. 1) in
    omega (
      wrong.account (λ b. 1),
      ap (λ h. one h.blocks) heap,
      total-append (λ b. 1) c.heap.blocks (ok ∷ []),
      ap one all,
      total-append (λ b. 1) first rest,
      ap one held.all,
      total-append (λ b. 1) held.own held.inner,
      ap one held.held.itself,
      arith,
    )

-- and one of an import that calls another core import (`aimed`)
calls_another : (c : CallPoint) → c.target ≡ target.Core (codes "t:p/i") (codes "g") → CallsImport 2 (target.Core (codes "t:p/i") (codes "f")) none tt None (record { blocks = [] }) [] c → ⊥
calls_another c calls wrong = omega (ap (λ t. total (λ x. x) (name_of t)) (sym calls ∙ wrong.aimed), arith)

-- one that passes a word more (`words`)
passes_a_word_more : (c : CallPoint) → c.words ≡ word.I32 (pos 0) ∷ [] → CallsImport 2 method none tt None (record { blocks = [] }) [] c → ⊥
passes_a_word_more c words wrong =
    let passed = wrong.words in
    let one : List Word → ℕ = total (λ x. 1) in
    omega (ap one words, ap one passed.all, total-append (λ x. 1) passed.arguments passed.pointer, ap one passed.represents.0, ap one passed.named, arith)

-- an import's wrapper that passes a value, and an export's that passes a word (`values`, `words`)

passes_a_value : (c : CallPoint) → c.values ≡ value.Unit ∷ [] → CallsImport 2 method none tt None (record { blocks = [] }) [] c → ⊥
passes_a_value c values wrong = omega (ap (total (λ v. 1)) values, ap (total (λ v. 1)) wrong.values, arith)

passes_a_word : (c : CallPoint) → c.words ≡ word.I32 (pos 0) ∷ [] → CallsExport 2 method none tt (record { blocks = [] }) [] c → ⊥
passes_a_word c words wrong = omega (ap (total (λ x. 1)) words, ap (total (λ x. 1)) wrong.words, arith)

-- one that passes another text to the method, and one that gives another (`stands`, `answers`)

passes_another : (c : CallPoint) → c.values ≡ value.Buffer 8192 1 true ∷ [] → CallsExport 2 method (more text none) (codes "ok", tt) (record { blocks = kept ∷ ok ∷ [] }) (ok ∷ []) c → ⊥
passes_another c values wrong =
    let (r, others, first, rest, is, stands, end, all) = wrong.stands in
    let same : value.Buffer 8192 1 true ≡ r = ap (first_or r) (sym values ∙ is) in
    omega ((buffer_same _ _ _ _ _ _ (same ∙ stands.is)).1, arith)

gives_another : GivesImport 2 false (Some text) (codes "ok") [] (record { blocks = [] }) [] (record (import_run (ok ∷ [])) { value = Some (value.Buffer 8192 1 true) }) → ⊥
gives_another wrong =
    let (r, is, stands) = wrong.answers in
    omega ((buffer_same _ _ _ _ _ _ (some_same _ r is ∙ stands.is)).1, arith)

-- one that calls in a heap that is none, with a block twice (`formed`)
calls_in_no_heap : (c : CallPoint) → c.heap ≡ record { blocks = kept ∷ kept ∷ [] } → CallsExport 2 method none tt (record { blocks = kept ∷ kept ∷ [] }) [] c → ⊥
calls_in_no_heap c twice wrong = true≢false (sym wrong.formed ∙ ap is_heap twice)

-- one that ends so (`formed`)
ends_in_no_heap : GivesImport 2 false (Some text) (codes "ok") [] (record { blocks = [] }) [] (import_run (ok ∷ ok ∷ [])) → ⊥
ends_in_no_heap wrong = true≢false (sym wrong.formed)

-- an import's wrapper that gives a word, and an export's that gives a value (`words`, `value`)

gives_a_word : GivesImport 2 false (Some text) (codes "ok") [] (record { blocks = [] }) [] (record (import_run (ok ∷ [])) { words = word.Pointer 8192 ∷ [] }) → ⊥
gives_a_word wrong = omega (ap (total (λ x. 1)) wrong.words, arith)

gives_a_value : GivesExport 2 bill (choice.At 512 ∷ []) (Some text) (codes "abc") (record { blocks = kept ∷ abc ∷ [] }) (abc ∷ []) (record run { value = Some value.Unit }) → ⊥
gives_a_value wrong = let some : Some value.Unit ≡ None = wrong.value in absurd (cc)

-- one that copies the text of the result and forgets the copy (`account`)
leaks_a_copy : GivesExport 2 bill (choice.At 512 ∷ []) (Some text) (codes "abc") (record { blocks = kept ∷ abc ∷ [] }) (abc ∷ []) (record run { heap = record { blocks = kept ∷ abc ∷ area ∷ block_at 1024 (codes "abc") ∷ [] } }) → ⊥
leaks_a_copy wrong =
    let held = wrong.represents.stands.holds.buffer.placed in
    let one : List Block → ℕ = total (λ b. 1) in
    omega (
      wrong.account (λ b. 1),
      total-append (λ b. 1) wrong.blocks wrong.area,
      ap one held.all,
      total-append (λ b. 1) held.own held.inner,
      ap one held.held.itself,
      ap one held.holds.1,
      ap one wrong.represents.is_area,
      arith,
    )

-- one that returns a block that is not where its area was put

leaks_its_area : GivesExport 2 bill (choice.At 1024 ∷ []) (Some text) (codes "abc") (record { blocks = kept ∷ abc ∷ [] }) (abc ∷ []) run → ⊥
leaks_its_area wrong =
    let same = ap (first_or wrong.stands.block) (sym wrong.stands.is ∙ wrong.represents.is_area) in
    omega (ap (λ ws. address_in (first_or (word.Pointer 0) ws)) wrong.represents.named, ap (λ b. b.address) same, ap chosen wrong.stands.chosen, arith)
