-- An argument that owns a block: a record with an own handle and a text, which an import is given as a whole, and frees; one whose
-- text is another's, and a wrapper that leaves the block.
use Rattle.std.proofs.Common.{true, false, List, [], ◌∷◌, None, codes, refl, sym, ap, arith, ◌∙◌}
use Rattle.std.proofs.lemmas.Bool.{true≢false}
use Rattle.wrapper_data.specs.declared.block.Block.{Block}
use Rattle.wrapper_data.specs.declared.heap.Heap.{Heap}
use Rattle.wrapper_data.specs.declared.run.Run.{Run}
use Rattle.wrapper_data.specs.declared.run.Stop.TheVariants as stop
use Rattle.wrapper_data.specs.declared.value.RustValue.{RustValue}
use Rattle.wrapper_data.specs.declared.value.RustValue.TheVariants as value
use Rattle.wrapper_meaning.specs.Direction.{take}
use Rattle.wrapper_meaning.specs.Gives.{GivesImport}
use Rattle.wrapper_meaning.specs.Items.{total}
use Rattle.wrapper_meaning.specs.Shape.{Shape}
use Rattle.wrapper_meaning.specs.Shape.Shape.{fields, handle, text}
use Rattle.wrapper_meaning.specs.Shape.Shapes.{none, more}
use Rattle.wrapper_meaning.specs.StandsFor.{Stands}
use Rattle.wrapper_meaning.proofs.Instances.Forms.{ascii, block_at, text_taken}
use Rattle.wrapper_meaning.proofs.RustValues.{owned_same}
use Rattle.wrapper_faithful.specs.Import.{ImportGiven}
use Rattle.wrapper_faithful.specs.Passed.{Passed, width}

abbrev named : Shape
named = fields (more (handle true 0) (more text none))

abbrev owning : Passed
owning = record { params = more named none; result = None }

-- handle 5 and the text `hi`, which has a block of its own; beside it another one stands

abbrev hi : Block
hi = block_at 4096 (codes "hi")

abbrev kept : Block
kept = record { address = 64; size = 4; cells = [] }

abbrev heap : Heap
heap = record { blocks = hi ∷ kept ∷ [] }

abbrev argument : RustValue
argument = value.Struct (value.Handle 5 true ∷ value.Buffer 4096 2 true ∷ [])

text_stands : Stands width take text (codes "hi") (value.Buffer 4096 2 true) (hi ∷ [])
text_stands = record { address = 4096; nonzero = omega (arith); range = omega (arith); owned = true; flag = refl; is = refl; buffer = text_taken hi 104 (105 ∷ []) refl (omega (arith)) refl }

argument_stands : Stands width take named (5, (codes "hi", tt)) argument (hi ∷ [])
argument_stands = (
  value.Handle 5 true ∷ value.Buffer 4096 2 true ∷ [],
  refl,
  (value.Handle 5 true, value.Buffer 4096 2 true ∷ [], [], hi ∷ [], refl, (refl, refl), (value.Buffer 4096 2 true, [], hi ∷ [], [], refl, text_stands, (refl, refl), refl), refl),
)

given : ImportGiven owning
given = record {
  values = ((5, (codes "hi", tt)), tt);
  good = ((((omega (arith), omega (arith)), (ascii (codes "hi") refl, tt)), tt), refl);
  args = argument ∷ [];
  heap = heap;
  formed = refl;
  own = hi ∷ [];
  others = kept ∷ [];
  stand = (argument, [], hi ∷ [], [], refl, argument_stands, (refl, refl), refl);
  live = λ weight. refl;
}

-- the text of such an argument is no other's: its flag tells so
refuses_a_lent_text : (blocks : List Block) → Stands width take text (codes "hi") (value.Buffer 4096 2 false) blocks → ⊥
refuses_a_lent_text blocks stands = true≢false (sym (owned_same _ _ _ _ false stands.owned stands.is ∙ stands.flag))

-- at the end of a run the block is gone

abbrev run_to : List Block → Run
run_to blocks = record { stop = stop.Done; calls = []; requests = []; heap = record { blocks = blocks }; words = []; value = None }

gives : GivesImport width false None tt (argument ∷ []) heap (hi ∷ []) (run_to (kept ∷ []))
gives = record { blocks = []; answers = (refl, refl); words = refl; formed = refl; account = λ weight. omega (arith) }

-- and a wrapper that leaves it leaks it
refuses_a_leak : GivesImport width false None tt (argument ∷ []) heap (hi ∷ []) (run_to (hi ∷ kept ∷ [])) → ⊥
refuses_a_leak wrong = omega (wrong.account (λ b. 1), ap (total (λ b. 1)) wrong.answers.1, arith)
