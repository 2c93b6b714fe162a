-- An import's wrapper that declares the area of its result, and passes the pointer of its text where that of the area is due. The clause
-- `calls` refuses it, whatever follows the call: the last word names no area. With the pointer of the area that clause holds of the same run.
use Rattle.std.proofs.Common.{◌≡◌, ℕ, Bool, true, false, List, [], ◌∷◌, ◌++◌, length, None, refl, sym, ap, subst, arith, ◌∙◌}
use Rattle.std.specs.Prelude.{codes}
use mathlib.Core.Logic.{inl, inr}
use Rattle.rust_tree.specs.declared.expr.Expr.{Expr}
use Rattle.rust_tree.specs.declared.stmt.Block.{Block as Code}
use Rattle.wrapper_data.specs.declared.answer.Answer.TheVariants as answer
use Rattle.wrapper_data.specs.declared.form.Form.TheVariants as form
use Rattle.wrapper_data.specs.declared.run.Target.{Target}
use Rattle.wrapper_data.specs.declared.value.RustValue.TheVariants as value
use Rattle.wrapper_data.specs.declared.word.Word.{Word}
use Rattle.wrapper_data.specs.declared.word.Word.TheVariants as word
use Rattle.wrapper_meaning.specs.Buffer.{IsBuffer}
use Rattle.wrapper_meaning.specs.Calls.{CallsImport, CallsOnce, pointers}
use Rattle.wrapper_meaning.specs.Direction.{lend}
use Rattle.wrapper_meaning.specs.InMemory.{TextHolds, text_extent}
use Rattle.wrapper_meaning.proofs.Instances.Forms.{address_in, ascii, chosen, text_lent}
use Rattle.wrapper_meaning.proofs.Lists.{first_or}
use Rattle.wrapper_meaning.proofs.Instances.OkAnswer.{area_of, ok}
use Rattle.wrapper_values.specs.declared.state.Val.TheVariants as val
use Rattle.wrapper_values.specs.Act.{Done}
use Rattle.wrapper_run.specs.Run.{eval}
use Rattle.wrapper_run.proofs.StepLemmas.{local_gives}
use Rattle.wrapper_faithful.specs.Import.{ImportGiven, IsFaithful, RunOfImport}
use Rattle.wrapper_faithful.specs.Passed.{width}
use Rattle.wrapper_faithful.specs.Resources.{Resources, calls_of}
use Rattle.wrapper_faithful.proofs.NoHandles.{all_calls_count}
use Rattle.wrapper_faithful.proofs.Instances.PassingAPointer.{aim, areas, args, begun, choices, counts, heap, point, ready, run_calls, run_of, setting, text_pointer_gives, texts, tree}

-- 1. What the wrapper is given: the text `ok`, which is lent

lent : IsBuffer (lend (ok ∷ [])) true 8192 2 text_extent (TextHolds (codes "ok")) []
lent = text_lent (ok ∷ []) 0 ok 0 111 (107 ∷ []) (omega (arith)) refl (omega (arith)) (omega (arith)) refl

lent_beside : IsBuffer (lend (ok ∷ area_of 8 [] ∷ [])) true 8192 2 text_extent (TextHolds (codes "ok")) []
lent_beside = text_lent (ok ∷ area_of 8 [] ∷ []) 0 ok 0 111 (107 ∷ []) (omega (arith)) refl (omega (arith)) (omega (arith)) refl

abbrev given : ImportGiven counts
given = record {
  values = (codes "ok", tt);
  good = ((ascii (codes "ok") refl, tt), refl);
  args = args;
  heap = heap;
  formed = refl;
  own = [];
  others = ok ∷ [];
  stand = (value.Buffer 8192 2 false, [], [], [], refl, record { address = 8192; nonzero = omega (arith); range = omega (arith); owned = false; flag = refl; is = refl; buffer = lent }, (refl, refl), refl);
  live = λ weight. refl;
}

abbrev ran : (passed : Expr) (rest : Code) → RunOfImport counts (tree passed rest) 0
ran passed rest = record { given = given; form = form.Debug; choices = choices; answer = answer.Value None heap; run = run_of passed rest; ran = refl }

-- 2. What the clause asks of the call: the last of its words names the area

-- the address in the last of some words
abbrev last_address : List Word → ℕ
last_address [] = 0
last_address (x ∷ []) = address_in x
last_address (x ∷ y ∷ words) = last_address (y ∷ words)

last_of : (words : List Word) (address : ℕ) → last_address (words ++ word.Pointer address ∷ []) ≡ address
last_of [] address = refl
last_of (x ∷ []) address = refl
last_of (x ∷ y ∷ words) address = last_of (y ∷ words) address

names_the_area : (aimed : Target) (address : ℕ) → CallsImport width aimed counts.params (codes "ok", tt) counts.result heap choices.list (point address) → address ≡ 4096
names_the_area aimed address carries =
    let place : 4096 ≡ carries.stands.block.address = ap chosen carries.stands.chosen in
    let named : carries.words.pointer ≡ word.Pointer carries.stands.block.address ∷ [] = carries.words.named ∙ ap pointers carries.stands.is in
    let all : word.Pointer 8192 ∷ word.Length 2 ∷ word.Pointer address ∷ [] ≡ carries.words.arguments ++ word.Pointer carries.stands.block.address ∷ [] = carries.words.all ∙ ap (λ ws. carries.words.arguments ++ ws) named in
    ap last_address all ∙ last_of carries.words.arguments carries.stands.block.address ∙ sym place

-- 3. The clause at this run: it refuses the pointer of the text, and allows that of the area

abbrev CallsAt : Resources → Target → Expr → Code → Type 0
CallsAt resources aimed passed rest = CallsOnce (CallsImport width aimed counts.params (codes "ok", tt) counts.result heap choices.list) (calls_of resources counts (run_of passed rest))

made : (resources : Resources) (passed : Expr) (rest : Code) (address : ℕ) → eval (setting passed rest) passed (ready (begun passed rest)) ≡ Done (val.Word (word.Pointer address)) (ready (begun passed rest))
    → calls_of resources counts (run_of passed rest) ≡ point address ∷ []
made resources passed rest address gives = all_calls_count resources counts (run_of passed rest) refl ∙ run_calls passed rest address gives

refuses_the_pointer_of_its_text : (resources : Resources) (aimed : Target) (chained : Bool) (rest : Code) → IsFaithful resources aimed chained (tree texts rest) 0 counts → ⊥
refuses_the_pointer_of_its_text resources aimed chained rest faithful = by_call (faithful.calls (ran texts rest))
  where
    once : calls_of resources counts (run_of texts rest) ≡ point 8192 ∷ []
    once = made resources texts rest 8192 (text_pointer_gives (setting texts rest) (ready (begun texts rest)) refl)

    by_call : CallsAt resources aimed texts rest → ⊥
    by_call (inl no_call) = omega (ap length (sym once ∙ no_call), arith)
    by_call (inr (c, one, carries)) =
        let same : c ≡ point 8192 = ap (first_or c) (sym one ∙ once) in
        omega (names_the_area aimed 8192 (subst (λ p. CallsImport width aimed counts.params (codes "ok", tt) counts.result heap choices.list p) same carries), arith)

allows_the_pointer_of_its_area : (resources : Resources) (rest : Code) → CallsAt resources aim areas rest
allows_the_pointer_of_its_area resources rest =
    inr (
      point 4096,
      made resources areas rest 4096 (local_gives (setting areas rest) (codes "ptr1") (val.Word (word.Pointer 4096)) (ready (begun areas rest)) refl refl),
      record {
        aimed = refl;
        area = area_of 8 [] ∷ [];
        stands = record { block = area_of 8 []; is = refl; chosen = refl; aligned = refl; exact = refl };
        words = record {
          arguments = word.Pointer 8192 ∷ word.Length 2 ∷ [];
          pointer = word.Pointer 4096 ∷ [];
          all = refl;
          represents = (word.Pointer 8192 ∷ word.Length 2 ∷ [], [], [], [], record { address = 8192; pair = refl; range = omega (arith); buffer = lent_beside }, (refl, refl), refl, refl);
          named = refl;
        };
        values = refl;
        formed = refl;
        made = [];
        kept = λ weight. omega (arith);
      },
    )
