-- Calls and ends in a heap that is none, with a block twice; and ends that give a value where none is due.
use Rattle.std.proofs.Common.{◌≡◌, List, [], ◌∷◌, Option, None, Some, sym, ap, ◌∙◌}
use Rattle.std.proofs.lemmas.Bool.{true≢false}
use Rattle.wrapper_data.specs.declared.block.Block.{Block}
use Rattle.wrapper_data.specs.declared.choice.Choice.{Choice}
use Rattle.wrapper_data.specs.declared.heap.Heap.{Heap}
use Rattle.wrapper_data.specs.declared.run.CallPoint.{CallPoint}
use Rattle.wrapper_data.specs.declared.run.Run.{Run}
use Rattle.wrapper_data.specs.declared.run.Target.{Target}
use Rattle.wrapper_data.specs.declared.value.RustValue.{RustValue}
use Rattle.wrapper_data.specs.Heap.{is_heap}
use Rattle.wrapper_meaning.specs.Calls.{CallsImport}
use Rattle.wrapper_meaning.specs.Due.{Bill}
use Rattle.wrapper_meaning.specs.Ends.{EndsEarly}
use Rattle.wrapper_meaning.specs.Gives.{FreesWords, GivesExport}
use Rattle.wrapper_meaning.specs.Shape.{Shape, Shapes}
use Rattle.wrapper_meaning.specs.Value.{Parts, Result}

abbrev no_heap : Heap
no_heap =
    let b : Block = record { address = 64; size = 4; cells = [] } in
    record { blocks = b ∷ b ∷ [] }

-- an import's call (`formed`)
calls_in_no_heap : (target : Target) (ts : Shapes) (vs : Parts ts) (r : Option Shape) (heap : Heap) (choices : List Choice) (c : CallPoint) → c.heap ≡ no_heap → CallsImport 2 target ts vs r heap choices c → ⊥
calls_in_no_heap target ts vs r heap choices c is wrong = true≢false (sym wrong.formed ∙ ap is_heap is)

-- the end of an export's run (`formed`)
gives_in_no_heap : (b : Bill) (choices : List Choice) (r : Option Shape) (v : Result r) (left : Heap) (own : List Block) (run : Run) → run.heap ≡ no_heap → GivesExport 2 b choices r v left own run → ⊥
gives_in_no_heap b choices r v left own run is wrong = true≢false (sym wrong.formed ∙ ap is_heap is)

-- an early end (`formed`, `value`)
ends_early_in_no_heap : (b : Bill) (run : Run) → run.heap ≡ no_heap → EndsEarly b run → ⊥
ends_early_in_no_heap b run is wrong = true≢false (sym wrong.formed ∙ ap is_heap is)

ends_early_with_a_value : (b : Bill) (v : RustValue) (run : Run) → run.value ≡ Some v → EndsEarly b run → ⊥
ends_early_with_a_value b v run is wrong = let e : Some v ≡ None = sym is ∙ wrong.value in absurd (let g = e in cc)

-- the end of a post-return function (`formed`, `value`)
frees_in_no_heap : (blocks : List Block) (heap : Heap) (run : Run) → run.heap ≡ no_heap → FreesWords blocks heap run → ⊥
frees_in_no_heap blocks heap run is wrong = true≢false (sym wrong.formed ∙ ap is_heap is)

frees_and_gives_a_value : (blocks : List Block) (heap : Heap) (v : RustValue) (run : Run) → run.value ≡ Some v → FreesWords blocks heap run → ⊥
frees_and_gives_a_value blocks heap v run is wrong = let e : Some v ≡ None = sym is ∙ wrong.value in absurd (let g = e in cc)
