-- The wrapper of an import that closes the driver's code is faithful to its function.
use Rattle.std.proofs.Common.{◌≡◌, ◌⊎◌, inl, inr, ◌≤◌, ℕ, suc, true, false, List, [], ◌∷◌, ◌++◌, length, map, Option, None, Some, slice_get, refl, sym, ap, ap₂, ◌∙◌, subst, arith, append-nil}
use Rattle.std.specs.Prelude.{IsSome, option_to_list}
use Rattle.std.specs.List.{AllByRecursion}
use Rattle.std.specs.Option.{option_map}
use Rattle.rust_tree.specs.Tree.{Tree}
use Rattle.rust_tree.specs.declared.item.FnItem.{FnItem}
use Rattle.wit_model.specs.declared.function.Function.{Function}
use Rattle.wit_model.specs.declared.function.Param.{Param}
use Rattle.wit_model.specs.declared.types.TypeDef.{TypeDef}
use Rattle.wit_model.specs.declared.types.WitType.{WitType}
use Rattle.wrapper_data.specs.declared.answer.Answer.{Answer}
use Rattle.wrapper_data.specs.declared.answer.Answer.TheVariants as answer
use Rattle.wrapper_data.specs.declared.block.Block.{Block}
use Rattle.wrapper_data.specs.declared.choice.Request.{Request}
use Rattle.wrapper_data.specs.declared.form.Form.{Form}
use Rattle.wrapper_data.specs.declared.run.CallPoint.{CallPoint}
use Rattle.wrapper_data.specs.declared.run.Run.{Run}
use Rattle.wrapper_data.specs.declared.run.Stop.TheVariants as stop_of
use Rattle.wrapper_data.specs.declared.value.RustValue.{RustValue}
use Rattle.wrapper_data.specs.Heap.{is_heap}
use Rattle.wrapper_meaning.specs.Areas.{import_area}
use Rattle.wrapper_meaning.specs.Calls.{CallsImport, CallsOnce}
use Rattle.wrapper_meaning.specs.Due.{Bill, import_bill}
use Rattle.wrapper_meaning.specs.Ends.{AreaInPlace, Ends, EndsBy, EndsEarly, MeetsMisfit}
use Rattle.wrapper_meaning.specs.Gives.{GivesImport}
use Rattle.wrapper_meaning.specs.Honest.{HonestPeer}
use Rattle.wrapper_meaning.specs.Items.{total}
use Rattle.wrapper_meaning.specs.Requests.{block_for, room_for}
use Rattle.wrapper_meaning.specs.Settled.{settled_result}
use Rattle.wrapper_meaning.specs.Shape.{Shape, Shapes, param_shapes, payloads_in, result_shape, shapes}
use Rattle.wrapper_meaning.specs.Shape.Shapes.{more, none}
use Rattle.wrapper_meaning.specs.StandsFor.{ArgumentsStand, ResultStands}
use Rattle.wrapper_meaning.specs.Value.{Parts, Result}
use Rattle.wrapper_meaning.proofs.Lists.{some_same}
use Rattle.wrapper_values.specs.Act as machine
use Rattle.wrapper_values.specs.declared.state.Val.TheVariants as val
use Rattle.wrapper_run.specs.Run.{begin, bound, ended, import_run, run_fn, run_item, setting_of, start}
use Rattle.wrapper_run.proofs.StepLemmas.{ended-calls}
use Rattle.wrapper_faithful.specs.Arguments.{AreArguments}
use Rattle.wrapper_faithful.specs.Import.{AnswersHonestly, RunOfImport}
use Rattle.wrapper_faithful.specs.Passed.{Passed, passed}
use Rattle.wrapper_faithful.specs.Resources.{Resources, calls_of}
use Rattle.wrapper_faithful.proofs.KeptHeaps.{import_keeps_heap}
use Rattle.wrapper_faithful.proofs.NoHandles.{all_calls_count, nothing_is_dropped}
use Rattle.abi_bindgen.specs.Account.{Peer, Reply, words, value as value_reply}
use Rattle.func_gen.specs.Meaning.{answer_of, setting_for}
use Rattle.func_gen.specs.declared.function_bindgen.FunctionBindgen.{FunctionBindgen}
use Rattle.wrapper_closing.specs.ClosedImport.{ClosesImport, import_target}
use Rattle.wrapper_closing.specs.ImportBlock.{wanted}
use Rattle.wrapper_closing.specs.Laws.{ClosedImportIsFaithful}
use Rattle.wrapper_closing.proofs.Arguments.{AreItems, are_items}
use Rattle.wrapper_closing.proofs.Direct.{no_own_resources, parts_ask_nothing, result_asks_nothing}
use Rattle.wrapper_closing.proofs.ImportCalls.{call_made, call_values, missed_runs, ready_calls, ready_runs, rest}
use Rattle.wrapper_closing.proofs.ImportEnds.{finished, honest_call}
use Rattle.wrapper_closing.proofs.ImportStart.{Missed, Ready, begins, due_area, file}
use Rattle.wrapper_closing.proofs.Placing.{asking}
use Rattle.wrapper_closing.proofs.PrintedArguments.{printed_arguments}
use Rattle.wrapper_closing.proofs.Start.{at_first}

-- 1. What is given

pub reply_of : Answer → Reply RustValue
reply_of (answer.Words result writes blocks) = words result writes blocks
reply_of (answer.Value v heap) = value_reply v heap

pub answer_back : (a : Answer) → answer_of (reply_of a) ≡ a
unfolding reply_of
answer_back (answer.Words result writes blocks) = refl
answer_back (answer.Value v heap) = refl

abbrev pub peer_of : Answer → Form → Peer RustValue
peer_of a form = record { form = form; reply = reply_of a }

counted : Shapes → ℕ
counted none = 0
counted (more t ts) = suc (counted ts)

as_many : (heap : List Block) (ts : Shapes) (vs : Parts ts) (rs : List RustValue) (own : List Block) → ArgumentsStand 2 heap ts vs rs own → counted ts ≡ length rs
unfolding counted
as_many heap none vs rs own h = sym (ap length h.0)
as_many heap (more t ts) vs rs own (r, others, first, later, is, h, hs, all) = ap suc (as_many heap ts vs.1 others later hs) ∙ sym (ap length is)

each_counted : (shapes : List Shape) (tys : List WitType) → counted (payloads_in shapes (map (λ ty. Some ty) tys)) ≡ length tys
unfolding counted
each_counted shapes [] = refl
each_counted shapes (ty ∷ tys) = ap suc (each_counted shapes tys)

-- as far as a run made the requests that are due, the area's is in its place
pub in_place : (asked made : List Request) → made ≡ asked → length asked ≤ 1 → AreaInPlace asked 0 made
in_place [] made e short = tt
in_place (r ∷ asked) made e short = subst (AreaInPlace (r ∷ asked) 0) (sym e) refl

mapped_many : {A B : Type 0} (g : A → B) (xs : List A) → length xs ≡ length (map g xs)
mapped_many g [] = refl
mapped_many g (x ∷ xs) = ap suc (mapped_many g xs)

module _ (types : List TypeDef) (resources : Resources) (tree : Tree) (nth : ℕ) (f : Function) (old new : FunctionBindgen) (c : ClosesImport types f tree nth old new) where
  abbrev what : Passed
  what = passed types f

  module _ (x : RunOfImport (passed types f) tree nth) where
    abbrev p : Peer RustValue
    p = peer_of x.answer x.form

    items : AreItems x.given.heap.blocks (param_shapes types f) x.given.values x.given.args x.given.own
    items = are_items x.given.heap.blocks (param_shapes types f) x.given.values x.given.args x.given.own c.params x.given.stand

    bare_items : AreItems x.given.heap.blocks (param_shapes types f) x.given.values x.given.args []
    bare_items = subst (AreItems x.given.heap.blocks (param_shapes types f) x.given.values x.given.args) items.none items

    many : length old.params ≡ length x.given.args
    many =
        c.many ∙ mapped_many (λ (q : Param). q.ty) f.params ∙ sym (each_counted (shapes types) (map (λ (q : Param). q.ty) f.params))
        ∙ as_many x.given.heap.blocks (param_shapes types f) x.given.values x.given.args x.given.own x.given.stand

    started : Ready types f tree nth old new c p x.given.values x.given.args x.given.heap x.choices ⊎ Missed types f tree nth old new c p x.given.args x.given.heap x.choices
    started = begins types f tree nth old new c p x.given.values x.given.args x.given.heap x.choices x.given.good x.given.formed bare_items many

    start_is : start c.item x.given.args x.given.heap x.choices ≡ at_first old x.given.args x.given.heap x.choices
    start_is = ap₂ (λ names taken. begin (bound names (map (λ r. val.Value r) x.given.args)) taken x.given.heap x.choices) c.names items.free

    run_is : x.run ≡ ended (run_fn (setting_for (file types f tree nth old new c) p) c.item (at_first old x.given.args x.given.heap x.choices))
    unfolding run_item
    run_is =
        let ran : import_run tree nth x.given.args x.given.heap x.choices (answer_of p.reply) x.form ≡ Some x.run = ap (λ a. import_run tree nth x.given.args x.given.heap x.choices a x.form) (answer_back x.answer) ∙ x.ran in
        some_same x.run _ (sym ran ∙ ap (option_map (λ (w : ℕ × FnItem). run_item (setting_of tree w.0 (answer_of p.reply) x.form) w.1 x.given.args x.given.heap x.choices)) c.there)
        ∙ ap (λ s. ended (run_fn (setting_for (file types f tree nth old new c) p) c.item s)) start_is

    -- 2. The bill

    abbrev Due : Bill
    Due = record { area = option_to_list (wanted new.asked); lowered = []; rooms = []; before = 0 }

    bill_is : (u : Result (result_shape types f)) → import_bill 2 (param_shapes types f) x.given.values (result_shape types f) u ≡ Due
    bill_is u =
        ap₂ {C = Bill} (λ (lowered rooms : List Request). record { area = import_area 2 (param_shapes types f) (result_shape types f); lowered = lowered; rooms = rooms; before = 0 })
        (parts_ask_nothing 2 block_for (param_shapes types f) x.given.values c.params) (result_asks_nothing 2 room_for (result_shape types f) u c.result)
        ∙ ap {B = Bill} (λ a. record { area = a; lowered = []; rooms = []; before = 0 }) (sym (due_area types f tree nth old new c))

    no_resources : calls_of resources what x.run ≡ x.run.calls
    no_resources = all_calls_count resources what x.run (no_own_resources (param_shapes types f) (result_shape types f) c.params c.result)

    whole : is_heap x.run.heap ≡ true
    whole = (import_keeps_heap tree nth x.given.args x.given.heap x.choices x.answer x.form x.run x.given.formed x.ran).end

    -- 3. Its call

    abbrev CallOf : CallPoint → Type 0
    CallOf = CallsImport 2 (import_target old f) (param_shapes types f) x.given.values (result_shape types f) x.given.heap x.choices.list

    run_calls : (o : machine.Outcome (Option RustValue)) → run_fn (setting_for (file types f tree nth old new c) p) c.item (at_first old x.given.args x.given.heap x.choices) ≡ o → x.run ≡ ended o
    run_calls o e = run_is ∙ ap ended e

    calls_told : CallsOnce CallOf x.run.calls
    calls_told = by started
      where
        by : Ready types f tree nth old new c p x.given.values x.given.args x.given.heap x.choices ⊎ Missed types f tree nth old new c p x.given.args x.given.heap x.choices → CallsOnce CallOf x.run.calls
        by (inl ready) =
            let o = rest types f tree nth old new c p ready.state.machine in
            subst (CallsOnce CallOf) (sym (ap (λ (r : Run). r.calls) (run_calls o (ready_runs types f tree nth old new c p x.given.values x.given.args x.given.heap x.choices ready)) ∙ ended-calls o))
            (ready_calls types f tree nth old new c p x.given.values x.given.args x.given.heap x.choices ready)
        by (inr missed) =
            inl (ap (λ (r : Run). r.calls) (run_calls _ (missed_runs types f tree nth old new c p x.given.values x.given.args x.given.heap x.choices missed)))

    -- 4. Its end

    abbrev EndsAs : (u : Result (result_shape types f)) → Run → Type 0
    EndsAs u run = Ends Due x.choices.list run.calls (GivesImport 2 false (result_shape types f) u x.given.args x.given.heap x.given.own) run

    missed_ends : (u : Result (result_shape types f)) → Missed types f tree nth old new c p x.given.args x.given.heap x.choices → EndsAs u x.run
    missed_ends u missed =
        let run = run_calls _ (missed_runs types f tree nth old new c p x.given.values x.given.args x.given.heap x.choices missed) in
        let is : option_to_list (wanted new.asked) ≡ missed.request ∷ [] = ap option_to_list missed.is in
        subst (EndsAs u) (sym run)
        (subst (λ as_due. MeetsMisfit (record { area = as_due; lowered = []; rooms = []; before = 0 }) x.choices.list (ended (machine.Stopped stop_of.BadChoice (asking missed.request (at_first old x.given.args x.given.heap x.choices))))
        × EndsEarly (record { area = as_due; lowered = []; rooms = []; before = 0 }) (ended (machine.Stopped stop_of.BadChoice (asking missed.request (at_first old x.given.args x.given.heap x.choices))))) (sym is) (
          record { request = missed.request; met = slice_get x.choices.list 0; meets = record { earlier = []; last = refl; takes = refl }; misfits = missed.misfit },
          record { requests = λ g. omega arith; area = refl; formed = x.given.formed; words = refl; value = refl },
        ))

    short_area : length (option_to_list (wanted new.asked)) ≤ 1
    short_area = go (wanted new.asked)
      where
        go : (o : Option Request) → length (option_to_list o) ≤ 1
        go None = omega arith
        go (Some r) = omega arith

    ready_ends : (u : Result (result_shape types f)) → AnswersHonestly what u x.answer x.run.calls → Ready types f tree nth old new c p x.given.values x.given.args x.given.heap x.choices → EndsAs u x.run
    ready_ends u honest ready =
        let o = rest types f tree nth old new c p ready.state.machine in
        let is = run_calls o (ready_runs types f tree nth old new c p x.given.values x.given.args x.given.heap x.choices ready) in
        let made = call_made types f tree nth old new c p x.given.values x.given.args x.given.heap x.choices ready in
        let once : x.run.calls ≡ made.point ∷ [] = ap (λ (r : Run). r.calls) is ∙ ended-calls o ∙ made.once in
        let at : HonestPeer 2 (result_shape types f) u x.answer made.point = (subst (AllByRecursion (HonestPeer 2 (result_shape types f) u x.answer)) once honest.honest).0 in
        let told = honest_call (result_shape types f) u p.reply made.point _ made.is (call_values types f tree nth old new c p x.given.values x.given.args x.given.heap x.choices ready)
        (subst (λ a. HonestPeer 2 (result_shape types f) u a made.point) (sym (answer_back x.answer)) at) in
        let end = finished types f tree nth old new c p x.given.values x.given.args x.given.heap x.choices ready u told in
        let run : x.run ≡ ended (machine.Done end.answer end.state) = is ∙ ap ended end.done in
        let requests : x.run.requests ≡ option_to_list (wanted new.asked) = ap (λ (r : Run). r.requests) run ∙ end.requests in
        subst (λ stop. EndsBy stop Due x.choices.list x.run.calls (GivesImport 2 false (result_shape types f) u x.given.args x.given.heap x.given.own) x.run) (sym (ap (λ (r : Run). r.stop) run))
        (record {
          call = made.point;
          once = once;
          requests = λ g. ap (total g) (requests ∙ sym (append-nil (option_to_list (wanted new.asked))) ∙ sym (append-nil (option_to_list (wanted new.asked) ++ [])));
          area = in_place (option_to_list (wanted new.asked)) x.run.requests requests short_area;
          gives = record {
            blocks = end.own;
            answers = subst (λ v. ResultStands 2 (result_shape types f) (settled_result (result_shape types f) u) v end.own) (sym (ap (λ (r : Run). r.value) run)) end.stands;
            words = ap (λ (r : Run). r.words) run;
            formed = whole;
            account = λ g. ap (λ xs. total g (x.run.heap.blocks ++ xs)) items.none ∙ ap (total g) (append-nil x.run.heap.blocks) ∙ ap (λ (r : Run). total g r.heap.blocks) run ∙ end.heap_left g;
          };
        })

    ends_told : (u : Result (result_shape types f)) → AnswersHonestly what u x.answer x.run.calls → EndsAs u x.run
    ends_told u honest = by started
      where
        by : Ready types f tree nth old new c p x.given.values x.given.args x.given.heap x.choices ⊎ Missed types f tree nth old new c p x.given.args x.given.heap x.choices → EndsAs u x.run
        by (inl ready) = ready_ends u honest ready
        by (inr missed) = missed_ends u missed

-- 5. Whole

pub closed_import_is_faithful : ClosedImportIsFaithful
closed_import_is_faithful types resources tree nth f old new c = record {
  there = subst IsSome (sym c.there) refl;
  takes = λ g w is.
      subst (λ (w : ℕ × FnItem). AreArguments tree.items w.1.params g.args) (some_same (c.number, c.item) w (sym c.there ∙ is))
      (printed_arguments tree.items g.heap.blocks (param_shapes types f) g.values g.args g.own c.item.params c.printed c.params g.good.0 g.stand);
  calls = λ x. subst (CallsOnce (CallOf types resources tree nth f old new c x)) (sym (no_resources types resources tree nth f old new c x)) (calls_told types resources tree nth f old new c x);
  ends = λ x u honest.
      subst (λ b. Ends b x.choices.list (calls_of resources (passed types f) x.run) (GivesImport 2 false (result_shape types f) u x.given.args x.given.heap x.given.own) x.run) (sym (bill_is types resources tree nth f old new c x u))
      (subst (λ cs. Ends (Due types resources tree nth f old new c x) x.choices.list cs (GivesImport 2 false (result_shape types f) u x.given.args x.given.heap x.given.own) x.run) (sym (no_resources types resources tree nth f old new c x))
      (ends_told types resources tree nth f old new c x u (subst (AnswersHonestly (passed types f) u x.answer) (no_resources types resources tree nth f old new c x) honest)));
  drops = λ x u call honest done once.
      (nothing_is_dropped resources (passed types f) x.given.values u call x.run.calls (no_own_resources (param_shapes types f) (result_shape types f) c.params c.result) (sym (no_resources types resources tree nth f old new c x) ∙ once)).0;
}
