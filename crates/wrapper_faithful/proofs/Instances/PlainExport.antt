-- A wrapper that is faithful: that of an export without parameters and result, which calls its method, with its entry.
use Rattle.std.proofs.Common.{◌≡◌, List, [], ◌∷◌, ◌++◌, None, Some, refl, sym, ap, subst, arith, ◌∙◌, append-nil}
use Rattle.std.specs.Prelude.{codes}
use mathlib.Core.Logic.{inr}
use Rattle.rust_tree.specs.declared.export.CallBlock.{CallBlock}
use Rattle.rust_tree.specs.declared.export.ExportFn.{ExportFn}
use Rattle.rust_tree.specs.declared.item.Item.TheVariants as item
use Rattle.rust_tree.specs.declared.macros.EntryKind.TheVariants.{Wrapper}
use Rattle.rust_tree.specs.declared.macros.ExportEntry.{ExportEntry}
use Rattle.rust_tree.specs.declared.macros.ModuleMacro.{ModuleMacro}
use Rattle.rust_tree.specs.declared.trait_item.TraitFn.{TraitFn}
use Rattle.rust_tree.specs.declared.trait_item.TraitItem.{TraitItem}
use Rattle.rust_tree.specs.declared.type_expr.TypeExpr.TheVariants as type
use Rattle.rust_tree.specs.Tree.{Tree}
use Rattle.wrapper_data.specs.declared.answer.Answer.{Answer}
use Rattle.wrapper_data.specs.declared.answer.Answer.TheVariants as answer
use Rattle.wrapper_data.specs.declared.block.Block.{Block}
use Rattle.wrapper_data.specs.declared.choice.Choices.{Choices}
use Rattle.wrapper_data.specs.declared.form.Form.{Form}
use Rattle.wrapper_data.specs.declared.heap.Heap.{Heap}
use Rattle.wrapper_data.specs.declared.run.CallPoint.{CallPoint}
use Rattle.wrapper_data.specs.declared.run.Run.{Run}
use Rattle.wrapper_data.specs.declared.run.Stop.TheVariants as stop
use Rattle.wrapper_data.specs.declared.run.Target.TheVariants as target
use Rattle.wrapper_data.specs.declared.value.RustValue.TheVariants as value
use Rattle.wrapper_data.specs.declared.word.Word.{Word}
use Rattle.wrapper_meaning.specs.Calls.{CallsExport}
use Rattle.wrapper_meaning.specs.Ends.{Ends}
use Rattle.wrapper_meaning.specs.Gives.{GivesExport}
use Rattle.wrapper_meaning.specs.Honest.{HonestImplementation}
use Rattle.wrapper_meaning.specs.Items.{total}
use Rattle.wrapper_meaning.specs.Shape.Shapes.{none}
use Rattle.wrapper_values.specs.declared.state.State.{State}
use Rattle.wrapper_values.specs.declared.state.Val.TheVariants as val
use Rattle.wrapper_values.specs.Act.{Act, Done, ◌>>=◌, ◌>>◌, and_then, pure}
use Rattle.wrapper_run.specs.Code.{code_of}
use Rattle.wrapper_run.specs.Blocks.{free_all, leave_to}
use Rattle.wrapper_run.specs.Entries.{ExportNames}
use Rattle.wrapper_run.specs.ExportRun.{call_inside, core_answer, ended_export, keep_result, run_export_fn, run_export_item, run_to_words, take_value}
use Rattle.wrapper_run.specs.Run.{begin, give_and_leave, setting_of}
use Rattle.wrapper_values.specs.Setting.{Setting}
use Rattle.wrapper_run.specs.Inward.{CallsNothing}
use Rattle.wrapper_run.proofs.FreeSteps.{unit_words}
use Rattle.wrapper_run.proofs.MethodLemmas.{ended-words, leaves_inner, method_gives, quiet_taken, returned-unit, value_gives}
use Rattle.wrapper_run.proofs.OwningLemmas.{owned-unit}
use Rattle.wrapper_run.proofs.StepLemmas.{gives_plain}
use Rattle.wrapper_run.proofs.QuietActs.{quiet_drop, quiet_give, quiet_leave, quiet_pure, quiet_then}
use Rattle.wrapper_faithful.specs.Export.{IsExportFaithful, RunOfExport, bill_of}
use Rattle.wrapper_faithful.specs.Passed.{Passed}
use Rattle.wrapper_faithful.specs.Resources.{Resources, calls_of}
use Rattle.wrapper_faithful.proofs.NoHandles.{all_calls_count, nothing_is_dropped}

-- 1. The wrapper, its method and its entry

abbrev pub body : CallBlock
body = record { result = None; stmts = []; method = codes "f"; arguments = [] }

abbrev pub wrapper : ExportFn
wrapper = record { base = codes "f"; bound = codes "Guest"; params = []; result = None; call = body; rest = code_of [] None }

abbrev pub method : TraitFn
method = record { docs = []; name = codes "f"; params = []; result = type.Unit }

abbrev pub guest : TraitItem
guest = record { name = codes "Guest"; functions = method ∷ [] }

abbrev pub entry : ExportEntry
entry = record { kind = Wrapper; export_name = codes "f"; base = codes "f"; params = []; result = None }

abbrev entries : ModuleMacro
entries = record { name = codes "w"; entries = entry ∷ [] }

abbrev pub tree : Tree
tree = record { options = []; items = item.Export wrapper ∷ item.Trait guest ∷ item.ModuleMacro entries ∷ []; places = record { interface = None; nth = 0 } ∷ [] }

abbrev pub names : ExportNames
names = record { method = target.Method (codes "Guest") (codes "f"); entry = codes "f"; post_return = codes "cabi_post_f" }

abbrev pub nothing : Passed
nothing = record { params = none; result = None }

-- 2. Its run: one call, and then what is done with the answer

abbrev setting : Answer → Form → Setting
setting a form = setting_of tree 1 a form

abbrev pub point : Heap → CallPoint
point heap = record { target = names.method; words = []; values = []; heap = heap }

abbrev called_state : Heap → Choices → State
called_state heap choices = record (begin [] [] heap choices) { calls = point heap ∷ [] }

abbrev ends_with : Setting → Act (List Word)
ends_with w = take_value w type.Unit >>= (λ v. leave_to w 0 >> pure v) >>= keep_result w None >> run_to_words w None wrapper.rest

calls_once : (a : Answer) (form : Form) (heap : Heap) (choices : Choices) → call_inside (setting a form) (codes "Guest") body (begin [] [] heap choices) ≡ take_value (setting a form) type.Unit (called_state heap choices)
calls_once a form heap choices = method_gives (setting a form) (codes "Guest") (codes "f") method [] [] (begin [] [] heap choices) refl refl

goes : (a : Answer) (form : Form) (heap : Heap) (choices : Choices) → run_export_fn (setting a form) wrapper [] (begin [] [] heap choices) ≡ ends_with (setting a form) (called_state heap choices)
goes a form heap choices =
    ap (λ o. and_then (and_then (and_then o (λ v. leave_to (setting a form) 0 >> pure v)) (keep_result (setting a form) None)) (λ _. run_to_words (setting a form) None wrapper.rest)) (calls_once a form heap choices)

quiet_end : (w : Setting) → CallsNothing (ends_with w)
quiet_end w =
    quiet_then (take_value w type.Unit >>= (λ v. leave_to w 0 >> pure v) >>= keep_result w None) (λ _. run_to_words w None wrapper.rest)
    (quiet_then (take_value w type.Unit >>= (λ v. leave_to w 0 >> pure v)) (keep_result w None)
    (quiet_then (take_value w type.Unit) (λ v. leave_to w 0 >> pure v) (quiet_taken w type.Unit) (λ v. quiet_then (leave_to w 0) (λ _. pure v) (quiet_leave w 0) (λ _. quiet_pure v)))
    (quiet_drop w))
    (λ _. quiet_then (pure (val.Value value.Unit)) (λ v. give_and_leave w (core_answer None v)) (quiet_pure (val.Value value.Unit)) (λ v. quiet_give w (core_answer None v)))

-- an honest answer leaves a heap, and the run leaves it as it is
abbrev left_state : Heap → Heap → Choices → State
left_state left heap choices = record (called_state heap choices) { heap = left; taken = [] }

done_end : (w : Setting) (left heap : Heap) (choices : Choices) → w.answer ≡ answer.Value None left → ends_with w (called_state heap choices) ≡ Done [] (left_state left heap choices)
done_end w left heap choices says =
    ap (λ o. and_then (and_then (and_then o (λ v. leave_to w 0 >> pure v)) (keep_result w None)) (λ _. run_to_words w None wrapper.rest)) (value_gives w type.Unit None (val.Value value.Unit) left (called_state heap choices) says (returned-unit w.items))
    ∙ ap (λ o. and_then (and_then (and_then o (λ _. pure (val.Value value.Unit))) (keep_result w None)) (λ _. run_to_words w None wrapper.rest)) (leaves_inner w [] [] (left_state left heap choices) refl tt)
    ∙ ap (λ addresses. and_then (free_all w addresses (left_state left heap choices)) (λ _. run_to_words w None wrapper.rest)) owned-unit
    ∙ gives_plain w (core_answer None (val.Value value.Unit)) [] (left_state left heap choices) unit_words tt

abbrev pub export_run : Answer → Form → Heap → Choices → Run
export_run a form heap choices = run_export_item (setting a form) wrapper [] heap choices

run_is : (a : Answer) (form : Form) (heap : Heap) (choices : Choices) → export_run a form heap choices ≡ ended_export (ends_with (setting a form) (called_state heap choices))
unfolding run_export_item
run_is a form heap choices = ap ended_export (goes a form heap choices)

run_calls : (a : Answer) (form : Form) (heap : Heap) (choices : Choices) → (export_run a form heap choices).calls ≡ point heap ∷ []
run_calls a form heap choices =
    ap (λ (r : Run). r.calls) (run_is a form heap choices) ∙ ended-words (ends_with (setting a form) (called_state heap choices)) ∙ (quiet_end (setting a form)).quiet (called_state heap choices)

abbrev done_run : Heap → Heap → Run
done_run left heap = record { stop = stop.Done; calls = point heap ∷ []; requests = []; heap = left; words = []; value = None }

run_done : (a : Answer) (form : Form) (left heap : Heap) (choices : Choices) → a ≡ answer.Value None left → export_run a form heap choices ≡ done_run left heap
run_done a form left heap choices says = run_is a form heap choices ∙ ap ended_export (done_end (setting a form) left heap choices says)

-- 3. The claim

-- a run from what it is given is this one
same_run : (x : RunOfExport nothing tree 0) → x.run ≡ export_run x.answer x.form x.heap x.choices
same_run x =
    let words : x.words ≡ [] = x.caller.takes.0 in
    let ran : Some (run_export_item (setting x.answer x.form) wrapper x.words x.heap x.choices) ≡ Some x.run = x.ran in
    let is : run_export_item (setting x.answer x.form) wrapper x.words x.heap x.choices ≡ x.run = cc in
    sym is ∙ ap (λ ws. run_export_item (setting x.answer x.form) wrapper ws x.heap x.choices) words

carries : (x : RunOfExport nothing tree 0) → CallsExport 2 names.method none tt x.heap x.caller.blocks (point x.heap)
carries x = record {
  aimed = refl;
  words = refl;
  own = [];
  stands = (refl, refl);
  formed = x.caller.formed;
  account = λ weight. ap (λ (bs : List Block). total weight (x.heap.blocks ++ bs)) x.caller.takes.1;
}

pub made : (resources : Resources) (x : RunOfExport nothing tree 0) → calls_of resources nothing x.run ≡ point x.heap ∷ []
made resources x = all_calls_count resources nothing x.run refl ∙ ap (λ (r : Run). r.calls) (same_run x) ∙ run_calls x.answer x.form x.heap x.choices

run_left : (x : RunOfExport nothing tree 0) (h : HonestImplementation 2 None tt x.answer) → x.run ≡ done_run h.heap x.heap
run_left x h = same_run x ∙ run_done x.answer x.form h.heap x.heap x.choices (h.answers ∙ ap (λ r. answer.Value r h.heap) h.stands.0)

is_faithful : (resources : Resources) → IsExportFaithful resources names (None ∷ []) tree 0 nothing
is_faithful resources = record {
  number = 1;
  wrapper = wrapper;
  there = refl;
  exported = record { entry = entry; alone = refl; wraps = refl; params = refl; answer = refl; named = refl };
  signature = record { params = refl; answer = refl };
  shares = (0, omega (arith), refl);
  calls = λ x. inr (point x.heap, made resources x, carries x);
  ends = λ x v h.
      subst (λ r. Ends (bill_of (None ∷ []) nothing x tt) x.choices.list (calls_of resources nothing r) (GivesExport 2 (bill_of (None ∷ []) nothing x tt) x.choices.list None tt h.heap h.own) r) (sym (run_left x h))
      (record {
        call = point x.heap;
        once = refl;
        requests = λ weight. refl;
        area = tt;
        gives = record {
          blocks = [];
          area = [];
          represents = (refl, refl, refl);
          stands = refl;
          value = refl;
          formed = h.formed;
          account = λ weight. ap (λ (o : List Block). total weight (h.heap.blocks ++ o)) h.stands.1 ∙ ap (total weight) (sym (append-nil (h.heap.blocks ++ [])));
        };
      });
  drops = λ x v call h done once. (nothing_is_dropped resources nothing x.values tt call x.run.calls refl (sym (all_calls_count resources nothing x.run refl) ∙ once)).1;
  returned = record { missing = refl; unnamed = refl; owns = λ v words blocks area good gives. gives.1 };
}
