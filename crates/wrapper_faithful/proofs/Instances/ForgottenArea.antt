-- An export's wrapper that stores its result in a stack area of its own, and returns that area's pointer: the area is gone when the run ends.
-- The clause `ends` refuses it, by the account of blocks. With the static area that clause holds of the run.
use Rattle.std.proofs.Common.{◌≡◌, List, [], ◌∷◌, Option, None, Some, refl, sym, ap, subst, arith, ◌∙◌}
use Rattle.std.specs.Prelude.{codes, pos}
use Rattle.wit_model.specs.declared.types.WitType.TheVariants as wit
use Rattle.wit_model.specs.declared.wasm_type.WasmType.TheVariants as core
use Rattle.rust_tree.specs.declared.expr.Expr.TheVariants as expr
use Rattle.rust_tree.specs.declared.stmt.Stmt.{Stmt}
use Rattle.rust_tree.specs.declared.stmt.Stmt.TheVariants as stmt
use Rattle.wrapper_data.specs.declared.answer.Answer.TheVariants as answer
use Rattle.wrapper_data.specs.declared.form.Form.TheVariants as form
use Rattle.wrapper_data.specs.declared.heap.Heap.{Heap}
use Rattle.wrapper_data.specs.declared.run.Run.{Run}
use Rattle.wrapper_data.specs.declared.run.Stop.TheVariants as stop
use Rattle.wrapper_data.specs.declared.value.RustValue.TheVariants as value
use Rattle.wrapper_data.specs.declared.word.Word.TheVariants as word
use Rattle.wrapper_meaning.specs.Due.{Bill, export_bill}
use Rattle.wrapper_meaning.specs.Ends.{Ends}
use Rattle.wrapper_meaning.specs.Gives.{GivesExport}
use Rattle.wrapper_meaning.specs.Honest.{HonestImplementation}
use Rattle.wrapper_meaning.specs.Items.{total}
use Rattle.wrapper_meaning.specs.Shape.{Shape}
use Rattle.wrapper_meaning.specs.Shape.Shapes.{none}
use Rattle.wrapper_meaning.proofs.PostReturn.{total-append}
use Rattle.wrapper_meaning.proofs.Instances.OkAnswer.{area_of}
use Rattle.wrapper_values.specs.declared.state.Local.{Local}
use Rattle.wrapper_values.specs.declared.state.State.{State}
use Rattle.wrapper_values.specs.declared.state.Val.TheVariants as val
use Rattle.wrapper_values.specs.Act.{Done, and_then, pure}
use Rattle.wrapper_values.specs.Locals.{bind, local_named, value_of}
use Rattle.rust_tree.specs.declared.area.ReturnArea.{ReturnArea}
use Rattle.wit_model.specs.declared.size.Alignment.TheVariants as alignment
use Rattle.wrapper_run.specs.Places.{declare_area}
use Rattle.wrapper_run.proofs.StmtSteps.{run-area, runs-code, runs-first}
use Rattle.wrapper_run.specs.ExportRun.{core_answer, ended_export, run_export_item}
use Rattle.wrapper_run.specs.Blocks.{leave_to}
use Rattle.wrapper_run.specs.Places.{place_area, static_pointer}
use Rattle.wrapper_run.specs.Run.{run_stmts, give_and_leave, run_at, run_tail}
use Rattle.wrapper_run.proofs.GiveSteps.{eval-static, let_runs}
use Rattle.wrapper_run.proofs.MethodLemmas.{leaves_inner}
use Rattle.wrapper_run.proofs.OwningLemmas.{ArePlain, owned-number}
use Rattle.wrapper_run.proofs.StepLemmas.{local_gives}
use Rattle.wrapper_run.proofs.TakeLemmas.{area_gives, leaves_one}
use Rattle.wrapper_run.specs.Entries.{ExportNames}
use Rattle.wrapper_faithful.proofs.NoHandles.{all_calls_count}
use Rattle.wrapper_faithful.specs.Export.{IsExportFaithful, RunOfExport}
use Rattle.wrapper_faithful.specs.Resources.{Resources, calls_of}
use Rattle.wrapper_faithful.specs.Passed.{width}
use Rattle.wrapper_faithful.proofs.Instances.StoringAPair.{calls_it, choices, empty, full, full_state, in_its_own, in_the_static, pair, pair_owns, pairs, parts, point, puts, puts_run, ready, result, setting, tree, with_area, wrapper}

-- 1. The area is placed, its pointer is taken, and the numbers are stored there

abbrev pointer : Local
pointer = record { name = codes "ptr1"; value = Some (val.Word (word.Pointer 4096)) }

abbrev own_area : Local
own_area = record { name = codes "ret_area"; value = Some (val.Area 4096 8) }

abbrev asked : State → State
asked s = record (with_area [] s) { requests = record { size = 8; align = 4 } ∷ []; choices = [] }

abbrev own_ready : State
own_ready = record (asked ready) { locals = result ∷ own_area ∷ pointer ∷ []; taken = 4096 ∷ [] }

abbrev static_ready : State
static_ready = record (asked ready) { locals = result ∷ pointer ∷ []; taken = 4096 ∷ []; place = Some 4096 }

own_runs : run_stmts (setting in_its_own) in_its_own ready ≡ Done tt (full_state own_ready)
unfolding place_area bind
own_runs =
    let placed : State = record own_ready { locals = result ∷ own_area ∷ [] } in
    let area : ReturnArea = record { name = codes "ret_area"; size = record { bytes = 8; pointers = 0 }; align = alignment.Bytes 4 } in
    runs-first (setting in_its_own) (stmt.Area area) (declare_area (setting in_its_own) area) (stmt.Let (codes "ptr1") (expr.ReturnPointer (codes "ret_area")) ∷ puts) ready (run-area (setting in_its_own) area)
    ∙ let_runs (setting in_its_own) (codes "ptr1") (expr.ReturnPointer (codes "ret_area")) puts (val.Word (word.Pointer 4096)) placed placed (area_gives (setting in_its_own) (codes "ret_area") 4096 8 placed refl)
    ∙ puts_run in_its_own own_ready refl refl refl refl

static_runs : run_stmts (setting in_the_static) in_the_static ready ≡ Done tt (full_state static_ready)
unfolding place_area static_pointer
static_runs =
    let placed : State = record static_ready { locals = result ∷ [] } in
    let_runs (setting in_the_static) (codes "ptr1") expr.StaticPointer puts (val.Word (word.Pointer 4096)) ready placed (ap (λ act. act ready) (eval-static (setting in_the_static)))
    ∙ puts_run in_the_static static_ready refl refl refl refl

-- 2. At the end the stack area is freed, and the static one stays

abbrev plain_parts : ArePlain parts
plain_parts = (owned-number wit.U32 (pos 7), (owned-number wit.U32 (pos 9), tt))

own_ends : leave_to (setting in_its_own) 0 (full_state own_ready) ≡ Done tt (record (asked ready) { locals = []; heap = empty })
own_ends = leaves_one (setting in_its_own) (result ∷ []) own_area (pointer ∷ parts) 4096 (area_of 8 full) (full_state own_ready) refl (pair_owns, tt) refl (refl, plain_parts) refl

static_ends : leave_to (setting in_the_static) 0 (full_state static_ready) ≡ Done tt (record (full_state static_ready) { locals = [] })
static_ends = leaves_inner (setting in_the_static) [] (result ∷ pointer ∷ parts) (full_state static_ready) refl (pair_owns, (refl, plain_parts))

abbrev pub run_of : List Stmt → Run
run_of first = run_export_item (setting first) (wrapper first) [] empty choices

abbrev run_with : Heap → Run
run_with heap = record { stop = stop.Done; calls = point ∷ []; requests = record { size = 8; align = 4 } ∷ []; heap = heap; words = word.Pointer 4096 ∷ []; value = None }

run_is : (first : List Stmt) (s end : State) → run_stmts (setting first) first ready ≡ Done tt s → value_of (local_named (codes "ptr1") s.locals) ≡ Some (val.Word (word.Pointer 4096)) → leave_to (setting first) 0 s ≡ Done tt end
    → run_of first ≡ run_at stop.Done (word.Pointer 4096 ∷ []) None end
unfolding run_export_item
run_is first s end runs named ends =
    let w = setting first in
    ap ended_export (calls_it first
    ∙ ap (λ o. and_then o (λ v. give_and_leave w (core_answer (Some core.Pointer) v))) (runs-code w (wrapper first).rest first (Some (expr.Local (codes "ptr1"))) ready refl)
    ∙ ap (λ o. and_then (and_then o (λ _. run_tail w (Some (expr.Local (codes "ptr1"))))) (λ v. give_and_leave w (core_answer (Some core.Pointer) v))) runs
    ∙ ap (λ o. and_then o (λ v. give_and_leave w (core_answer (Some core.Pointer) v))) (local_gives w (codes "ptr1") (val.Word (word.Pointer 4096)) s named refl)
    ∙ ap (λ o. and_then o (λ _. pure (word.Pointer 4096 ∷ []))) ends)

own_run : run_of in_its_own ≡ run_with empty
own_run = run_is in_its_own (full_state own_ready) (record (asked ready) { locals = []; heap = empty }) own_runs refl own_ends

static_run : run_of in_the_static ≡ run_with (record { blocks = area_of 8 full ∷ [] })
static_run = run_is in_the_static (full_state static_ready) (record (full_state static_ready) { locals = [] }) static_runs refl static_ends

-- 3. What the claim says of both

abbrev honest : HonestImplementation width pairs.result (pos 7, (pos 9, tt)) (answer.Value (Some pair) empty)
honest = record {
  good = ((refl, (refl, tt)), refl);
  value = Some pair;
  heap = empty;
  answers = refl;
  formed = refl;
  own = [];
  others = [];
  stands = (
    pair,
    refl,
    (
      value.Num wit.U32 (pos 7) ∷ value.Num wit.U32 (pos 9) ∷ [],
      refl,
      (value.Num wit.U32 (pos 7), value.Num wit.U32 (pos 9) ∷ [], [], [], refl, (refl, refl), (value.Num wit.U32 (pos 9), [], [], [], refl, (refl, refl), (refl, refl), refl), refl),
    ),
  );
  live = λ weight. refl;
}

abbrev ran : (first : List Stmt) → RunOfExport pairs (tree first) 0
ran first = record {
  values = tt;
  words = [];
  heap = empty;
  caller = record { good = tt; formed = refl; blocks = []; others = []; takes = (refl, refl); live = λ weight. refl };
  form = form.Debug;
  choices = choices;
  answer = answer.Value (Some pair) empty;
  run = run_of first;
  ran = refl;
}

abbrev bill : List (Option Shape) → Bill
bill results = export_bill width results none tt pairs.result (pos 7, (pos 9, tt))

-- what a run owes, and the clause at a run
abbrev GivesIn : List (Option Shape) → Run → Type 0
GivesIn results run = GivesExport width (bill results) choices.list pairs.result (pos 7, (pos 9, tt)) empty [] run

abbrev EndsIn : Resources → List (Option Shape) → Run → Type 0
EndsIn resources results run = Ends (bill results) choices.list (calls_of resources pairs run) (GivesIn results) run

-- the words name an area, which the heap lacks
refuses_a_forgotten_area : (resources : Resources) (names : ExportNames) (results : List (Option Shape)) → IsExportFaithful resources names results (tree in_its_own) 0 pairs → ⊥
refuses_a_forgotten_area resources names results faithful = lacks_it done.gives
  where
    done : EndsIn resources results (run_with empty)
    done = subst (EndsIn resources results) own_run (faithful.ends (ran in_its_own) (pos 7, (pos 9, tt)) honest)

    lacks_it : GivesIn results (run_with empty) → ⊥
    lacks_it gives = omega (gives.account (λ b. 1), ap (total (λ b. 1)) gives.represents.is_area, total-append (λ b. 1) gives.blocks gives.area, arith)

-- in the static area both numbers stand, and it stays
allows_the_static_area : (resources : Resources) → EndsIn resources (pairs.result ∷ []) (run_of in_the_static)
allows_the_static_area resources =
    subst (EndsIn resources (pairs.result ∷ [])) (sym static_run) (record {
      call = point;
      once = all_calls_count resources pairs (run_with (record { blocks = area_of 8 full ∷ [] })) refl;
      requests = λ weight. refl;
      area = refl;
      gives = record {
        blocks = [];
        area = area_of 8 full ∷ [];
        represents = record {
          block = area_of 8 full;
          is_area = refl;
          named = refl;
          stands = record { aligned = refl; room = omega (arith); holds = ([], [], ((omega (arith), refl), refl), ([], [], ((omega (arith), refl), refl), refl, refl), refl) };
        };
        stands = record { block = area_of 8 full; is = refl; chosen = refl; aligned = refl; exact = refl };
        value = refl;
        formed = refl;
        account = λ weight. refl;
      };
    })
