-- Which run is asked for, and which of its conditions is the first that does not hold?
use Rattle.std.specs.Prelude.{◌≡◌, ℕ, Bool, true, false, not, ◌&&◌, ◌==◌, List, length, is_some, Option, None, Some, Result, Ok, Err, if◌then◌else◌}
use Rattle.rust_tree.specs.declared.export.ExportFn.{ExportFn}
use Rattle.rust_tree.specs.declared.item.FnItem.{FnItem}
use Rattle.rust_tree.specs.Tree.{Tree}
use Rattle.wrapper_data.specs.declared.answer.Answer.{Answer}
use Rattle.wrapper_data.specs.declared.answer.Answer.TheVariants as answer
use Rattle.wrapper_data.specs.declared.form.Form.{Form}
use Rattle.wrapper_data.specs.declared.heap.Heap.{Heap}
use Rattle.wrapper_data.specs.declared.run.Run.{Run}
use Rattle.wrapper_data.specs.declared.value.RustValue.{RustValue}
use Rattle.wrapper_data.specs.declared.word.Word.{Word}
use Rattle.wrapper_data.specs.Heap.{is_heap}
use Rattle.wrapper_run.specs.ExportRun.{export_at, export_run}
use Rattle.wrapper_run.specs.PostReturn.{post_return_at, post_return_run}
use Rattle.wrapper_run.specs.Run.{import_at, import_run}
use Rattle.wrapper_trace.specs.Conditions.{are_words, is_answer, is_pointer}
use Rattle.wrapper_trace.specs.declared.fault.LineFault.{LineFault}
use Rattle.wrapper_trace.specs.declared.fault.LineFault.TheVariants as fault
use Rattle.wrapper_trace.specs.declared.read_run.AskedRun.{AskedRun}
use Rattle.wrapper_trace.specs.declared.read_run.Side.{Side}
use Rattle.wrapper_trace.specs.declared.read_run.Side.TheVariants as side

-- the run of the machine
abbrev pub side_run : Tree → ℕ → Side → Heap → Form → Option Run
side_run tree nth (side.Import args choices a) heap form = import_run tree nth args heap choices a form
side_run tree nth (side.Export words choices a) heap form = export_run tree nth words heap choices a form
side_run tree nth (side.PostReturn words) heap form = post_return_run tree nth words heap form

-- an import's wrapper takes the arguments and the answer
abbrev pub import_fault : ℕ → Option (ℕ × FnItem) → List RustValue → Answer → Option LineFault
import_fault nth None args a = Some (fault.NoImport nth)
import_fault nth (Some w) args a =
    if not (length args == length w.1.params) then Some fault.Arguments else (if not (is_answer w.1.body.stmts a) then Some fault.Answer else None)

-- an export's wrapper takes the words
abbrev pub export_fault : ℕ → Option (ℕ × ExportFn) → List Word → Option LineFault
export_fault nth None words = Some (fault.NoExport nth)
export_fault nth (Some w) words = if not (are_words w.1.params words) then Some fault.Words else None

-- a post-return function takes one address
abbrev pub post_return_fault : ℕ → Bool → List Word → Option LineFault
post_return_fault nth false words = Some (fault.NoPostReturn nth)
post_return_fault nth true words = if not (is_pointer words) then Some fault.Words else None

abbrev pub side_fault : Tree → ℕ → Side → Option LineFault
side_fault tree nth (side.Import args choices a) = import_fault nth (import_at tree nth) args a
side_fault tree nth (side.Export words choices a) = export_fault nth (export_at tree nth) words
side_fault tree nth (side.PostReturn words) = post_return_fault nth (is_some (post_return_at tree nth)) words

abbrev pub left_heap : Answer → Bool
left_heap (answer.Value value heap) = is_heap heap
left_heap (answer.Words result writes blocks) = true

-- the heap that the implementation of an export leaves is well formed
abbrev pub is_left : Side → Bool
is_left (side.Export words choices a) = left_heap a
is_left _ = true

-- the heaps that are handed in are well formed, and then the wrapper takes what it is given
abbrev pub fault_of : Tree → AskedRun → Option LineFault
fault_of tree asked = if not (is_left asked.side && is_heap asked.heap) then Some fault.Heap else side_fault tree asked.wrapper asked.side

abbrev pub run_of : Tree → AskedRun → Option Run
run_of tree asked = side_run tree asked.wrapper asked.side asked.heap asked.form

-- The run comes exactly where no condition fails, and else the first that fails. Want of memory is free.
abbrev pub Answers : Result Run LineFault → Option LineFault → Option Run → Type 0
Answers (Ok run) first made = (first ≡ None) × (made ≡ Some run)
Answers (Err fault.OutOfMemory) first made = Unit {0}
Answers (Err e) first made = first ≡ Some e
