-- That a run from a well-formed heap shows well-formed heaps alone, at each call and at its end, whatever the tree is and whatever is answered.
use Rattle.std.specs.Prelude.{◌≡◌, ℕ, true, List, Some}
use Rattle.std.specs.List.{AllByRecursion}
use Rattle.rust_tree.specs.Tree.{Tree}
use Rattle.wrapper_data.specs.declared.answer.Answer.{Answer}
use Rattle.wrapper_data.specs.declared.answer.Answer.TheVariants as answer
use Rattle.wrapper_data.specs.declared.choice.Choices.{Choices}
use Rattle.wrapper_data.specs.declared.form.Form.{Form}
use Rattle.wrapper_data.specs.declared.heap.Heap.{Heap}
use Rattle.wrapper_data.specs.declared.run.Run.{Run}
use Rattle.wrapper_data.specs.declared.value.RustValue.{RustValue}
use Rattle.wrapper_data.specs.declared.word.Word.{Word}
use Rattle.wrapper_data.specs.Heap.{is_heap}
use Rattle.wrapper_run.specs.ExportRun.{export_run}
use Rattle.wrapper_run.specs.PostReturn.{post_return_run}
use Rattle.wrapper_run.specs.Run.{import_run}

pub record ShowsHeaps (run : Run) : Type 0 where
  pub calls : AllByRecursion (λ c. is_heap c.heap ≡ true) run.calls
  pub end : is_heap run.heap ≡ true

abbrev pub ImportKeepsHeap : Type 0
ImportKeepsHeap = (tree : Tree) (nth : ℕ) (args : List RustValue) (heap : Heap) (choices : Choices) (a : Answer) (form : Form) (run : Run)
    → is_heap heap ≡ true → import_run tree nth args heap choices a form ≡ Some run → ShowsHeaps run

-- an implementation leaves a well-formed heap
abbrev pub LeavesHeap : Answer → Type 0
LeavesHeap (answer.Value value heap) = is_heap heap ≡ true
LeavesHeap (answer.Words result writes blocks) = Unit {0}

abbrev pub ExportKeepsHeap : Type 0
ExportKeepsHeap = (tree : Tree) (nth : ℕ) (words : List Word) (heap : Heap) (choices : Choices) (a : Answer) (form : Form) (run : Run)
    → is_heap heap ≡ true → LeavesHeap a → export_run tree nth words heap choices a form ≡ Some run → ShowsHeaps run

abbrev pub PostReturnKeepsHeap : Type 0
PostReturnKeepsHeap = (tree : Tree) (nth : ℕ) (words : List Word) (heap : Heap) (form : Form) (run : Run)
    → is_heap heap ≡ true → post_return_run tree nth words heap form ≡ Some run → ShowsHeaps run
