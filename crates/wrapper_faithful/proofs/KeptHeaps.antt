-- A run from a well-formed heap shows well-formed heaps alone.
use Rattle.std.proofs.Common.{◌≡◌, ℕ, ◌&&◌, ◌%◌, true, false, not, nat_eq, List, [], ◌∷◌, ◌++◌, Option, None, Some, refl, sym, subst}
use Rattle.std.specs.List.{AllByRecursion}
use Rattle.std.specs.Option.{option_map}
use Rattle.std.proofs.lemmas.Bool.{and_parts, not-true}
use Rattle.wrapper_data.specs.declared.block.Block.{Block}
use Rattle.wrapper_data.specs.declared.choice.Request.{Request}
use Rattle.wrapper_data.specs.declared.heap.Heap.{Heap}
use Rattle.wrapper_data.specs.declared.run.CallPoint.{CallPoint}
use Rattle.wrapper_data.specs.declared.run.Run.{Run}
use Rattle.wrapper_data.specs.declared.value.RustValue.{RustValue}
use Rattle.wrapper_data.specs.declared.word.Word.{Word}
use Rattle.wrapper_data.specs.Answered.{answered, with_writes}
use Rattle.wrapper_data.specs.Heap.{is_block, is_heap, overlaps_any}
use Rattle.rust_tree.specs.declared.export.ExportFn.{ExportFn}
use Rattle.rust_tree.specs.declared.export.PostReturnFn.{PostReturnFn}
use Rattle.rust_tree.specs.declared.item.FnItem.{FnItem}
use Rattle.wrapper_values.specs.Act.{Outcome, Done, Stopped}
use Rattle.wrapper_run.specs.Blocks.{removed}
use Rattle.wrapper_run.specs.ExportRun.{ended_export, export_at, run_export_fn, run_export_item, start_export}
use Rattle.wrapper_run.specs.Places.{area_block, is_fitting, with_area}
use Rattle.wrapper_run.specs.PostReturn.{post_return_at, post_return_setting, run_post_return_fn, run_post_return_item, start_post_return}
use Rattle.wrapper_run.specs.Run.{ended, import_at, run_fn, run_item, setting_of, start}
use Rattle.wrapper_values.specs.declared.state.State.{State}
use Rattle.wrapper_faithful.specs.KeptHeaps.{ExportKeepsHeap, ImportKeepsHeap, LeavesHeap, PostReturnKeepsHeap, ShowsHeaps}
use Rattle.wrapper_run.specs.Growth.{state_of}
use Rattle.wrapper_faithful.proofs.AlongRuns.{Moves, along_export, along_fn, along_post_return}
use Rattle.wrapper_faithful.proofs.FormedWithout.{formed_without}
use Rattle.wrapper_data.proofs.FormedHeaps.{formed, formed_added, formed_answered, formed_written, is_formed}

-- the heaps of a state: its own, and those of its calls
record IsFormed (s : State) : Type 0 where
  calls : AllByRecursion (λ c. is_heap c.heap ≡ true) s.calls
  heap : is_heap s.heap ≡ true

-- where those of the first are well formed, those of the second are
record Keeps (s t : State) : Type 0 where
  keeps : IsFormed s → IsFormed t

all_and_one : (calls : List CallPoint) (c : CallPoint) → AllByRecursion (λ c. is_heap c.heap ≡ true) calls → is_heap c.heap ≡ true → AllByRecursion (λ c. is_heap c.heap ≡ true) (calls ++ c ∷ [])
all_and_one [] c all one = (one, tt)
all_and_one (d ∷ calls) c all one = (all.0, all_and_one calls c all.1 one)

-- a move that changes the heap alone
keeps_heap : (s : State) (heap : Heap) (t : State) → t.calls ≡ s.calls → t.heap ≡ heap → (is_heap s.heap ≡ true → is_heap heap ≡ true) → Keeps s t
keeps_heap s heap t calls is h =
    record {
      keeps = λ f. record {
        calls = subst (AllByRecursion (λ (c : CallPoint). is_heap c.heap ≡ true)) (sym calls) f.calls;
        heap = subst (λ (x : Heap). is_heap x ≡ true) (sym is) (h f.heap);
      };
    }

fitting : (address : ℕ) (r : Request) (blocks : List Block) → is_fitting address r blocks ≡ true → (is_block (area_block address r) ≡ true) × (overlaps_any (area_block address r) blocks ≡ false)
fitting address r blocks h =
    let parts = and_parts (is_block (area_block address r) && not (overlaps_any (area_block address r) blocks)) (nat_eq (address % r.align) 0) h in
    let two = and_parts (is_block (area_block address r)) (not (overlaps_any (area_block address r) blocks)) parts.0 in
    (two.0, not-true (overlaps_any (area_block address r) blocks) two.1)

placed : (s : State) (address : ℕ) (r : Request) → is_fitting address r s.heap.blocks ≡ true → Keeps s (with_area address r s)
placed s address r fits =
    let stands = fitting address r s.heap.blocks fits in
    keeps_heap s (with_area address r s).heap (with_area address r s) refl refl
    (λ h. is_formed (with_area address r s).heap (formed_added s.heap.blocks (area_block address r) (formed s.heap h) stands.0 stands.1))

kept_moves : Moves Keeps LeavesHeap
kept_moves = record {
  follow = λ s t u a b. record { keeps = λ f. b.keeps (a.keeps f) };
  same = λ s t heap calls requests. keeps_heap s s.heap t calls heap (λ h. h);
  asked = λ s r. record { keeps = λ f. record { calls = f.calls; heap = f.heap } };
  called = λ s p shown. record { keeps = λ f. record { calls = all_and_one s.calls p f.calls (subst (λ (x : Heap). is_heap x ≡ true) (sym shown) f.heap); heap = f.heap } };
  freed = λ s address size. keeps_heap s (removed address size s).heap (removed address size s) refl refl
      (λ h. is_formed (removed address size s).heap (formed_without address size s.heap.blocks (formed s.heap h)));
  placed = placed;
  written = λ s writes. keeps_heap s (record s.heap { blocks = with_writes s.heap.blocks writes }) (record s { heap = record s.heap { blocks = with_writes s.heap.blocks writes } }) refl refl
      (λ h. is_formed (record s.heap { blocks = with_writes s.heap.blocks writes }) (formed_written s.heap.blocks writes (formed s.heap h)));
  answers = λ s writes blocks. keeps_heap s (answered blocks writes s.heap) (record s { heap = answered blocks writes s.heap }) refl refl
      (λ h. is_formed (answered blocks writes s.heap) (formed_answered s.heap blocks writes (formed s.heap h)));
  left = λ s v heap fits. keeps_heap s heap (record s { heap = heap }) refl refl (λ h. fits);
}

-- whole runs

shown_import : (o : Outcome (Option RustValue)) → IsFormed (state_of o) → ShowsHeaps (ended o)
shown_import (Done v s) f = record { calls = f.calls; end = f.heap }
shown_import (Stopped e s) f = record { calls = f.calls; end = f.heap }

shown_export : (o : Outcome (List Word)) → IsFormed (state_of o) → ShowsHeaps (ended_export o)
shown_export (Done v s) f = record { calls = f.calls; end = f.heap }
shown_export (Stopped e s) f = record { calls = f.calls; end = f.heap }

some_run : {A : Type 0} (run_of : A → Run) → ((a : A) → ShowsHeaps (run_of a)) → (o : Option A) (run : Run) → option_map run_of o ≡ Some run → ShowsHeaps run
some_run run_of h None run e = absurd (cc)
some_run run_of h (Some a) run e = subst ShowsHeaps (cc) (h a)

pub import_keeps_heap : ImportKeepsHeap
unfolding run_item
import_keeps_heap tree nth args heap choices a form run h ran =
    some_run (λ (w : ℕ × FnItem). run_item (setting_of tree w.0 a form) w.1 args heap choices)
    (λ w. shown_import (run_fn (setting_of tree w.0 a form) w.1 (start w.1 args heap choices))
    (((along_fn Keeps LeavesHeap kept_moves (setting_of tree w.0 a form) w.1).along (start w.1 args heap choices)).keeps (record { calls = tt; heap = h })))
    (import_at tree nth) run ran

pub export_keeps_heap : ExportKeepsHeap
unfolding run_export_item
export_keeps_heap tree nth words heap choices a form run h leaves ran =
    some_run (λ (w : ℕ × ExportFn). run_export_item (setting_of tree w.0 a form) w.1 words heap choices)
    (λ w. shown_export (run_export_fn (setting_of tree w.0 a form) w.1 words (start_export w.1 words heap choices))
    (((along_export Keeps LeavesHeap kept_moves (setting_of tree w.0 a form) leaves w.1 words).along (start_export w.1 words heap choices)).keeps (record { calls = tt; heap = h })))
    (export_at tree nth) run ran

pub post_return_keeps_heap : PostReturnKeepsHeap
unfolding run_post_return_item
post_return_keeps_heap tree nth words heap form run h ran =
    some_run (λ (w : ℕ × PostReturnFn). run_post_return_item (post_return_setting tree w.0 form) w.1 words heap)
    (λ w. shown_export (run_post_return_fn (post_return_setting tree w.0 form) w.1 words (start_post_return w.1 words heap))
    (((along_post_return Keeps LeavesHeap kept_moves (post_return_setting tree w.0 form) w.1 words).along (start_post_return w.1 words heap)).keeps (record { calls = tt; heap = h })))
    (post_return_at tree nth) run ran
