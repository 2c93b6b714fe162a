-- The wrapper of an export that closes the driver's code is faithful to its function.
use Rattle.std.proofs.Common.{◌≡◌, ◌⊎◌, inl, inr, ◌≤◌, ℕ, zero, suc, Bool, true, false, if◌then◌else◌, MatchBool, List, [], ◌∷◌, ◌++◌, length, map, Option, None, Some, Contains, slice_get, refl, sym, ap, ap₂, ◌∙◌, subst, arith, append-nil}
use Rattle.std.specs.List.{AllByRecursion, flat_map}
use Rattle.std.specs.Option.{option_map, option_to_list}
use Rattle.rust_tree.specs.declared.export.ExportFn.{ExportFn}
use Rattle.rust_tree.specs.Tree.{Tree}
use Rattle.wit_model.specs.declared.function.Function.{Function}
use Rattle.wit_model.specs.declared.types.TypeDef.{TypeDef}
use Rattle.wrapper_data.specs.declared.block.Block.{Block}
use Rattle.wrapper_data.specs.declared.choice.Request.{Request}
use Rattle.wrapper_data.specs.declared.heap.Heap.{Heap}
use Rattle.wrapper_data.specs.declared.run.CallPoint.{CallPoint}
use Rattle.wrapper_data.specs.declared.run.Run.{Run}
use Rattle.wrapper_data.specs.declared.run.Stop.TheVariants as stop_of
use Rattle.wrapper_data.specs.declared.value.RustValue.{RustValue}
use Rattle.wrapper_data.specs.Heap.{is_heap}
use Rattle.wrapper_meaning.specs.Areas.{IsArea as IsAreaOf, StandsAt, area_for, result_record}
use Rattle.wrapper_meaning.specs.Calls.{CallsExport, CallsOnce}
use Rattle.wrapper_meaning.specs.Due.{Bill, export_bill}
use Rattle.wrapper_meaning.specs.Ends.{Ends, EndsBy, EndsEarly, MeetsMisfit, Misfits}
use Rattle.wrapper_meaning.specs.Gives.{GivesExport}
use Rattle.wrapper_meaning.specs.Honest.{HonestImplementation}
use Rattle.wrapper_meaning.specs.Items.{total}
use Rattle.wrapper_meaning.specs.Represents.{GivesResult, is_indirect}
use Rattle.wrapper_meaning.specs.Requests.{block_for, room_for}
use Rattle.wrapper_meaning.specs.Shape.{Shape, param_shapes, result_shape}
use Rattle.wrapper_meaning.specs.Value.{Result}
use Rattle.wrapper_meaning.proofs.Lists.{some_same}
use Rattle.wrapper_values.specs.Act as machine
use Rattle.wrapper_values.specs.declared.state.Val.TheVariants as val
use Rattle.wrapper_run.specs.Entries.{ExportNames}
use Rattle.wrapper_run.specs.ExportRun.{ended_export, export_run, run_export_fn, run_export_item, start_export}
use Rattle.wrapper_run.specs.Places.{area_in}
use Rattle.wrapper_run.specs.Run.{begin, bound, setting_of}
use Rattle.wrapper_run.proofs.MethodLemmas.{ended-words}
use Rattle.wrapper_faithful.specs.Export.{RunOfExport}
use Rattle.wrapper_faithful.specs.KeptHeaps.{LeavesHeap}
use Rattle.wrapper_faithful.specs.Passed.{Passed, passed}
use Rattle.wrapper_faithful.specs.Resources.{Resources, calls_of}
use Rattle.wrapper_faithful.proofs.KeptHeaps.{export_keeps_heap}
use Rattle.wrapper_faithful.proofs.NoHandles.{all_calls_count, nothing_is_dropped}
use Rattle.abi_bindgen.specs.Account.{Peer}
use Rattle.func_gen.specs.Meaning.{answer_of, setting_for, static_request}
use Rattle.func_gen.specs.declared.function_bindgen.FunctionBindgen.{FunctionBindgen}
use Rattle.wrapper_closing.specs.ClosedExport.{ClosesExport, export_file}
use Rattle.wrapper_closing.specs.Direct.{is_direct_result}
use Rattle.wrapper_closing.specs.Laws.{ClosedExportIsFaithful}
use Rattle.wrapper_closing.proofs.Direct.{no_own_resources, parts_ask_nothing, result_asks_nothing}
use Rattle.wrapper_closing.proofs.ExportCalls.{call_made, item_runs, rest, run_calls}
use Rattle.wrapper_closing.proofs.ExportEnds.{Finished, Missed, ends}
use Rattle.wrapper_closing.proofs.ExportStart.{at_words}
use Rattle.wrapper_closing.proofs.FaithfulImport.{answer_back, in_place, peer_of}
use Rattle.wrapper_closing.proofs.SharedArea.{shared_due}
use Rattle.wrapper_meaning.proofs.PostReturn.{total-append}

one_direct : (results : List (Option Shape)) (r : Option Shape) → AllByRecursion (λ r. is_direct_result r ≡ true) results → Contains results r → is_direct_result r ≡ true
one_direct [] r d (k, below, at) = absurd (omega (below, arith))
one_direct (x ∷ results) r d (zero, below, at) = ap is_direct_result (sym at) ∙ d.0
one_direct (x ∷ results) r d (suc k, below, at) = one_direct results r d.1 (k, omega (below, arith), at)

module _ (types : List TypeDef) (resources : Resources) (names : ExportNames) (results : List (Option Shape)) (tree : Tree) (nth : ℕ) (f : Function) (old new : FunctionBindgen) (c : ClosesExport types f names results tree nth old new) where
  abbrev what : Passed
  what = passed types f

  direct : is_direct_result (result_shape types f) ≡ true
  direct = one_direct results (result_shape types f) c.area.direct c.area.shares

  module _ (x : RunOfExport (passed types f) tree nth) where
    abbrev p : Peer RustValue
    p = peer_of x.answer x.form

    -- 1. The run, from its words

    start_is : start_export c.item x.words x.heap x.choices ≡ at_words old x.words x.heap x.choices
    start_is = ap (λ names. begin (bound names (map (λ y. val.Word y) x.words)) [] x.heap x.choices) c.params

    run_is : x.run ≡ ended_export (rest types f names results tree nth old new c p (at_words old x.words x.heap x.choices))
    unfolding run_export_item
    run_is =
        let ran : export_run tree nth x.words x.heap x.choices (answer_of p.reply) x.form ≡ Some x.run = ap (λ a. export_run tree nth x.words x.heap x.choices a x.form) (answer_back x.answer) ∙ x.ran in
        some_same x.run _ (sym ran ∙ ap (option_map (λ (w : ℕ × ExportFn). run_export_item (setting_of tree w.0 (answer_of p.reply) x.form) w.1 x.words x.heap x.choices)) c.there)
        ∙ ap (λ s. ended_export (run_export_fn (setting_for (export_file tree c.number old.home) p) c.item x.words s)) start_is
        ∙ ap ended_export (item_runs types f names results tree nth old new c p x.values x.words x.heap x.choices x.caller)

    no_resources : calls_of resources what x.run ≡ x.run.calls
    no_resources = all_calls_count resources what x.run (no_own_resources (param_shapes types f) (result_shape types f) c.direct direct)

    abbrev CallOf : CallPoint → Type 0
    CallOf = CallsExport 2 names.method (param_shapes types f) x.values x.heap x.caller.blocks

    calls_told : CallsOnce CallOf x.run.calls
    calls_told =
        subst (CallsOnce CallOf) (sym (ap (λ (r : Run). r.calls) run_is ∙ ended-words (rest types f names results tree nth old new c p (at_words old x.words x.heap x.choices))))
        (run_calls types f names results tree nth old new c p x.values x.words x.heap x.choices x.caller)

    -- 2. The bill

    abbrev due_area : List Request
    due_area = if is_indirect (result_shape types f) then option_to_list (static_request (area_in tree.items)) else []

    abbrev Due : Bill
    Due = record { area = if is_indirect (result_shape types f) then option_to_list (static_request (area_in tree.items)) else []; lowered = []; rooms = []; before = 0 }

    bill_is : (v : Result (result_shape types f)) → export_bill 2 results (param_shapes types f) x.values (result_shape types f) v ≡ Due
    bill_is v =
        ap₂ {C = Bill} (λ (lowered rooms : List Request). record { area = if is_indirect (result_shape types f) then area_for 2 (flat_map result_record results) else []; lowered = lowered; rooms = rooms; before = length rooms })
        (result_asks_nothing 2 block_for (result_shape types f) v direct) (parts_ask_nothing 2 room_for (param_shapes types f) x.values c.direct)
        ∙ ap {B = Bill} (λ a. record { area = if is_indirect (result_shape types f) then a else []; lowered = []; rooms = []; before = 0 }) (sym (shared_due results (result_shape types f) tree c.area))

    -- 3. Its end

    abbrev EndsAs : (v : Result (result_shape types f)) → HonestImplementation 2 (result_shape types f) v x.answer → Run → Type 0
    EndsAs v h run = Ends Due x.choices.list run.calls (GivesExport 2 Due x.choices.list (result_shape types f) v h.heap h.own) run

    short_area : (q : Bool) (o : Option Request) → length (if q then option_to_list o else []) ≤ 1
    short_area true None = omega arith
    short_area true (Some r) = omega arith
    short_area false o = omega arith

    -- what the implementation left is well formed, and so is what the run leaves
    whole : (v : Result (result_shape types f)) → HonestImplementation 2 (result_shape types f) v x.answer → is_heap x.run.heap ≡ true
    whole v h = (export_keeps_heap tree nth x.words x.heap x.choices x.answer x.form x.run x.caller.formed (subst LeavesHeap (sym h.answers) h.formed) x.ran).end

    module _ (v : Result (result_shape types f)) (h : HonestImplementation 2 (result_shape types f) v x.answer) where
      abbrev told : HonestImplementation 2 (result_shape types f) v (answer_of p.reply)
      told = record { good = h.good; value = h.value; heap = h.heap; answers = answer_back x.answer ∙ h.answers; formed = h.formed; own = h.own; others = h.others; stands = h.stands; live = h.live }

      done_ends : Finished types f names results tree nth old new c p x.values x.words x.heap x.choices x.caller v h.own h.heap → EndsAs v h x.run
      done_ends end =
          let run : x.run ≡ ended_export (machine.Done end.words end.state) = run_is ∙ ap ended_export end.done in
          let requests : x.run.requests ≡ due_area = ap (λ (r : Run). r.requests) run ∙ end.requests in
          let made = call_made types f names results tree nth old new c p x.values x.words x.heap x.choices x.caller in
          let once : x.run.calls ≡ made.point ∷ [] = ap (λ (r : Run). r.calls) run_is ∙ ended-words (rest types f names results tree nth old new c p (at_words old x.words x.heap x.choices)) ∙ made.once in
          subst (λ stop. EndsBy stop Due x.choices.list x.run.calls (GivesExport 2 Due x.choices.list (result_shape types f) v h.heap h.own) x.run) (sym (ap (λ (r : Run). r.stop) run))
          (record {
            call = made.point;
            once = once;
            requests = λ g. ap (total g) (requests ∙ sym (append-nil due_area) ∙ sym (append-nil (due_area ++ [])));
            area = in_place due_area x.run.requests requests (short_area (is_indirect (result_shape types f)) (static_request (area_in tree.items)));
            gives = record {
              blocks = h.own;
              area = end.area;
              represents = subst (λ ws. GivesResult 2 (result_shape types f) v ws h.own end.area) (sym (ap (λ (r : Run). r.words) run)) end.represents;
              stands = stands (is_indirect (result_shape types f)) (static_request (area_in tree.items)) end.area end.stands;
              value = ap (λ (r : Run). r.value) run;
              formed = whole v h;
              account = λ g. omega (arith, ap (λ (r : Run). total g r.heap.blocks) run, end.heap_left g, total-append g x.run.heap.blocks h.own, total-append g (h.heap.blocks ++ h.own) end.area, total-append g h.heap.blocks h.own, total-append g h.heap.blocks end.area);
            };
          })
        where
          stands : (q : Bool) (o : Option Request) (area : List Block) → MatchBool q ((request : Request) × (o ≡ Some request) × StandsAt request (slice_get x.choices.list 0) area) (area ≡ []) → IsAreaOf (if q then option_to_list o else []) (slice_get x.choices.list 0) area
          stands false o area k = k
          stands true o area (request, is, at) = subst (λ z. IsAreaOf (option_to_list z) (slice_get x.choices.list 0) area) (sym is) at

      missed_ends : Missed types f names results tree nth old new c p x.values x.words x.heap x.choices x.caller h.heap → EndsAs v h x.run
      missed_ends end =
          let run : x.run ≡ ended_export (machine.Stopped stop_of.BadChoice end.state) = run_is ∙ ap ended_export end.stopped in
          let requests : x.run.requests ≡ end.request ∷ [] = ap (λ (r : Run). r.requests) run ∙ end.requests in
          let due : due_area ≡ end.request ∷ [] = ap (λ q. if q then option_to_list (static_request (area_in tree.items)) else []) end.many ∙ ap option_to_list end.is in
          let heap_is : x.run.heap ≡ h.heap = ap (λ (r : Run). r.heap) run ∙ end.heap_left in
          let as_due : Bill → Type 0 = λ b. MeetsMisfit b x.choices.list x.run × EndsEarly b x.run in
          subst (λ stop. EndsBy stop Due x.choices.list x.run.calls (GivesExport 2 Due x.choices.list (result_shape types f) v h.heap h.own) x.run) (sym (ap (λ (r : Run). r.stop) run))
          (subst (λ a. as_due (record { area = a; lowered = []; rooms = []; before = 0 })) (sym due) (
            record {
              request = end.request;
              met = slice_get x.choices.list 0;
              meets = record { earlier = []; last = requests; takes = refl };
              misfits = subst (λ (k : Heap). Misfits true k.blocks end.request (slice_get x.choices.list 0)) (sym heap_is) end.misfit;
            },
            record {
              requests = λ g. omega (arith, ap (total g) requests);
              area = in_place (end.request ∷ []) x.run.requests requests (omega arith);
              formed = whole v h;
              words = ap (λ (r : Run). r.words) run;
              value = ap (λ (r : Run). r.value) run;
            },
          ))

      ends_told : EndsAs v h x.run
      ends_told = by (ends types f names results tree nth old new c p x.values x.words x.heap x.choices x.caller v told)
        where
          by : Finished types f names results tree nth old new c p x.values x.words x.heap x.choices x.caller v h.own h.heap ⊎ Missed types f names results tree nth old new c p x.values x.words x.heap x.choices x.caller h.heap → EndsAs v h x.run
          by (inl end) = done_ends end
          by (inr end) = missed_ends end

-- 4. Whole

pub closed_export_is_faithful : ClosedExportIsFaithful
closed_export_is_faithful types resources names results tree nth f old new c = record {
  number = c.number;
  wrapper = c.item;
  there = c.there;
  exported = c.exported;
  signature = c.signature;
  shares = c.area.shares;
  calls = λ x. subst (CallsOnce (CallOf types resources names results tree nth f old new c x)) (sym (no_resources types resources names results tree nth f old new c x)) (calls_told types resources names results tree nth f old new c x);
  ends = λ x v h.
      subst (λ b. Ends b x.choices.list (calls_of resources (passed types f) x.run) (GivesExport 2 b x.choices.list (result_shape types f) v h.heap h.own) x.run) (sym (bill_is types resources names results tree nth f old new c x v))
      (subst (λ cs. Ends (Due types resources names results tree nth f old new c x) x.choices.list cs (GivesExport 2 (Due types resources names results tree nth f old new c x) x.choices.list (result_shape types f) v h.heap h.own) x.run)
      (sym (no_resources types resources names results tree nth f old new c x))
      (ends_told types resources names results tree nth f old new c x v h));
  drops = λ x v call h done once.
      (nothing_is_dropped resources (passed types f) x.values v call x.run.calls (no_own_resources (param_shapes types f) (result_shape types f) c.direct (direct types resources names results tree nth f old new c))
      (sym (no_resources types resources names results tree nth f old new c x) ∙ once)).1;
  returned = c.post_return;
}
