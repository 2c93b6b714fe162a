-- A wrapper that is faithful: that of an import without parameters and result, which declares it and calls it.
use Rattle.std.proofs.Common.{◌≡◌, ℕ, true, false, List, [], ◌∷◌, ◌++◌, length, Option, None, Some, refl, sym, ap, subst, ◌∙◌, append-nil, arith}
use Rattle.std.specs.Prelude.{codes, option_to_list}
use mathlib.Core.Logic.{inr}
use Rattle.std.specs.List.{AllByRecursion}
use Rattle.rust_tree.specs.declared.expr.Expr.TheVariants as expr
use Rattle.rust_tree.specs.declared.item.FnItem.{FnItem}
use Rattle.rust_tree.specs.declared.item.Item.TheVariants as item
use Rattle.rust_tree.specs.declared.path.Path.{Path}
use Rattle.rust_tree.specs.declared.stmt.ImportDecl.{ImportDecl}
use Rattle.rust_tree.specs.declared.stmt.Stmt.TheVariants as stmt
use Rattle.rust_tree.specs.declared.type_expr.TypeExpr.TheVariants as type
use Rattle.rust_tree.specs.Tree.{Tree}
use Rattle.wrapper_data.specs.declared.answer.Answer.{Answer}
use Rattle.wrapper_data.specs.declared.answer.Answer.TheVariants as answer
use Rattle.wrapper_data.specs.declared.block.Block.{Block}
use Rattle.wrapper_data.specs.declared.choice.Choices.{Choices}
use Rattle.wrapper_data.specs.declared.form.Form.{Form}
use Rattle.wrapper_data.specs.declared.heap.Heap.{Heap}
use Rattle.wrapper_data.specs.declared.run.CallPoint.{CallPoint}
use Rattle.wrapper_data.specs.declared.run.Run.{Run}
use Rattle.wrapper_data.specs.declared.run.Stop.TheVariants as stop
use Rattle.wrapper_data.specs.declared.run.Target.{Target}
use Rattle.wrapper_data.specs.declared.run.Target.TheVariants as target
use Rattle.wrapper_data.specs.declared.value.RustValue.{RustValue}
use Rattle.wrapper_data.specs.declared.value.RustValue.TheVariants as value
use Rattle.wrapper_data.specs.declared.word.Word.{Word}
use Rattle.wrapper_data.specs.Heap.{is_heap}
use Rattle.wrapper_meaning.specs.Calls.{CallsImport}
use Rattle.wrapper_meaning.specs.Due.{import_bill}
use Rattle.wrapper_meaning.specs.Ends.{Ends}
use Rattle.wrapper_meaning.specs.Gives.{GivesImport}
use Rattle.wrapper_meaning.specs.Honest.{HonestPeer}
use Rattle.wrapper_meaning.specs.Items.{SameItems, total}
use Rattle.wrapper_meaning.specs.Shape.Shapes.{none}
use Rattle.wrapper_meaning.proofs.Lists.{some_same}
use Rattle.wrapper_values.specs.declared.state.State.{State}
use Rattle.wrapper_values.specs.declared.state.Val.TheVariants as val
use Rattle.wrapper_values.specs.Act.{Act, Done, ◌>>=◌, ◌>>◌, and_then}
use Rattle.rust_tree.specs.declared.stmt.Stmt.{Stmt}
use Rattle.wrapper_run.specs.Inward.{CallsNothing}
use Rattle.wrapper_run.proofs.StmtSteps.{run-import, runs-code, runs-expr, runs-first}
use Rattle.wrapper_run.specs.Code.{code_of}
use Rattle.wrapper_run.specs.Blocks.{drop_value, free_all}
use Rattle.wrapper_values.specs.Locals.{declare}
use Rattle.wrapper_run.specs.Run.{answer_and_leave, begin, call_point, callee, ended, eval, run_fn, run_item, run_stmts, run_tail, setting_of, take_answer}
use Rattle.wrapper_values.specs.Setting.{Setting}
use Rattle.wrapper_run.proofs.NumberLemmas.{answered-unit}
use Rattle.wrapper_run.proofs.OwningLemmas.{ArePlain, owned-unit}
use Rattle.wrapper_run.proofs.StepLemmas.{answers_plain, call_gives, ended-calls, import_gives, no_answer_gives}
use Rattle.wrapper_run.proofs.QuietActs.{quiet_answer, quiet_answers, quiet_drop, quiet_pure, quiet_then}
use Rattle.wrapper_faithful.specs.Arguments.{AreArguments}
use Rattle.wrapper_faithful.specs.Import.{AnswersHonestly, IsFaithful, RunOfImport}
use Rattle.wrapper_faithful.specs.Passed.{Passed}
use Rattle.wrapper_faithful.specs.Resources.{Resources, calls_of}
use Rattle.wrapper_faithful.proofs.NoHandles.{all_calls_count}

-- 1. The wrapper

abbrev pub decl : ImportDecl
decl = record { «module» = codes "$root"; link_name = codes "f"; name = codes "wit_import0"; params = []; result = None }

abbrev pub path : Path
path = record { lead = false; supers = 0; names = codes "wit_import0" ∷ [] }

abbrev pub wrapper : FnItem
wrapper = record { docs = []; name = codes "f"; params = []; result = type.Unit; body = code_of (stmt.Import decl ∷ stmt.Expr (expr.Call path []) ∷ []) None }

abbrev pub tree : Tree
tree = record { options = []; items = item.Import wrapper ∷ []; places = record { interface = None; nth = 0 } ∷ [] }

abbrev pub aim : Target
aim = target.Core (codes "$root") (codes "f")

abbrev pub nothing : Passed
nothing = record { params = none; result = None }

-- 2. Its run: one call, and then what is done with the answer

abbrev setting : Answer → Form → Setting
setting a form = setting_of tree 1 a form

abbrev pub point : Heap → CallPoint
point heap = record { target = aim; words = []; values = []; heap = heap }

abbrev declared_state : Heap → Choices → State
declared_state heap choices = record (begin [] [] heap choices) { imports = decl ∷ [] }

abbrev called_state : Heap → Choices → State
called_state heap choices = record (declared_state heap choices) { calls = point heap ∷ [] }

abbrev behind : Setting → Act (Option RustValue)
behind w = take_answer w None >>= drop_value w >> run_stmts w [] >> run_tail w None >>= answer_and_leave w type.Unit

calls_once : (w : Setting) (heap : Heap) (choices : Choices) → eval w (expr.Call path []) (declared_state heap choices) ≡ take_answer w None (called_state heap choices)
unfolding callee call_point
calls_once w heap choices = call_gives w path [] [] (declared_state heap choices) tt ∙ import_gives w path (codes "wit_import0") [] (declared_state heap choices) (point heap) None refl refl

goes : (w : Setting) (heap : Heap) (choices : Choices) → run_fn w wrapper (begin [] [] heap choices) ≡ behind w (called_state heap choices)
unfolding declare
goes w heap choices =
    let begun : State = begin [] [] heap choices in
    let stmts : List Stmt = stmt.Import decl ∷ stmt.Expr (expr.Call path []) ∷ [] in
    ap (λ o. and_then o (answer_and_leave w type.Unit)) (runs-code w wrapper.body stmts None begun refl)
    ∙ ap (λ o. and_then (and_then o (λ _. run_tail w None)) (answer_and_leave w type.Unit))
    (runs-first w (stmt.Import decl) (declare decl) (stmt.Expr (expr.Call path []) ∷ []) begun (run-import w decl) ∙ runs-expr w (expr.Call path []) [] (declared_state heap choices))
    ∙ ap (λ o. and_then (and_then (and_then (and_then o (drop_value w)) (λ _. run_stmts w [])) (λ _. run_tail w None)) (answer_and_leave w type.Unit)) (calls_once w heap choices)

quiet_behind : (w : Setting) → CallsNothing (behind w)
quiet_behind w =
    quiet_then (take_answer w None >>= drop_value w >> run_stmts w [] >> run_tail w None) (answer_and_leave w type.Unit)
    (quiet_then (take_answer w None >>= drop_value w >> run_stmts w []) (λ _. run_tail w None)
    (quiet_then (take_answer w None >>= drop_value w) (λ _. run_stmts w []) (quiet_then (take_answer w None) (drop_value w) (quiet_answer w None) (quiet_drop w)) (λ _. quiet_pure tt))
    (λ _. quiet_pure (val.Value value.Unit)))
    (quiet_answers w type.Unit)

-- an honest answer, which says nothing, ends it
done_behind : (w : Setting) (s : State) → s.locals ≡ [] → w.answer ≡ answer.Words None [] [] → behind w s ≡ Done None (record s { locals = [] })
done_behind w s alone says =
    ap (λ o. and_then (and_then (and_then (and_then o (drop_value w)) (λ _. run_stmts w [])) (λ _. run_tail w None)) (answer_and_leave w type.Unit)) (no_answer_gives w s says)
    ∙ ap (λ addresses. and_then (and_then (and_then (free_all w addresses s) (λ _. run_stmts w [])) (λ _. run_tail w None)) (answer_and_leave w type.Unit)) owned-unit
    ∙ answers_plain w type.Unit (val.Value value.Unit) None s answered-unit (subst ArePlain (sym alone) tt)

abbrev pub run_of : Answer → Form → Heap → Choices → Run
run_of a form heap choices = run_item (setting a form) wrapper [] heap choices

run_is : (a : Answer) (form : Form) (heap : Heap) (choices : Choices) → run_of a form heap choices ≡ ended (behind (setting a form) (called_state heap choices))
unfolding run_item
run_is a form heap choices = ap ended (goes (setting a form) heap choices)

run_calls : (a : Answer) (form : Form) (heap : Heap) (choices : Choices) → (run_of a form heap choices).calls ≡ point heap ∷ []
run_calls a form heap choices =
    ap (λ r. r.calls) (run_is a form heap choices) ∙ ended-calls (behind (setting a form) (called_state heap choices)) ∙ (quiet_behind (setting a form)).quiet (called_state heap choices)

abbrev done_run : Heap → Run
done_run heap = record { stop = stop.Done; calls = point heap ∷ []; requests = []; heap = heap; words = []; value = None }

run_done : (a : Answer) (form : Form) (heap : Heap) (choices : Choices) → a ≡ answer.Words None [] [] → run_of a form heap choices ≡ done_run heap
run_done a form heap choices says = run_is a form heap choices ∙ ap ended (done_behind (setting a form) (called_state heap choices) refl says)

-- 3. The claim

-- a run from what it is given is this one
same_run : (x : RunOfImport nothing tree 0) → x.run ≡ run_of x.answer x.form x.given.heap x.choices
same_run x =
    let args : x.given.args ≡ [] = x.given.stand.0 in
    let ran : Some (run_item (setting x.answer x.form) wrapper x.given.args x.given.heap x.choices) ≡ Some x.run = x.ran in
    let is : run_item (setting x.answer x.form) wrapper x.given.args x.given.heap x.choices ≡ x.run = cc in
    sym is ∙ ap (λ rs. run_item (setting x.answer x.form) wrapper rs x.given.heap x.choices) args

carries : (heap : Heap) (x : RunOfImport nothing tree 0) → x.given.heap ≡ heap → CallsImport 2 aim none tt None heap x.choices.list (point heap)
carries heap x is = record {
  aimed = refl;
  area = [];
  stands = refl;
  words = record { arguments = []; pointer = []; all = refl; represents = (refl, refl); named = refl };
  values = refl;
  formed = subst (λ (h : Heap). is_heap h ≡ true) is x.given.formed;
  made = [];
  kept = λ weight. ap (total weight) (sym (append-nil heap.blocks) ∙ sym (append-nil (heap.blocks ++ [])));
}

pub made : (resources : Resources) (x : RunOfImport nothing tree 0) → calls_of resources nothing x.run ≡ point x.given.heap ∷ []
made resources x = all_calls_count resources nothing x.run refl ∙ ap (λ (r : Run). r.calls) (same_run x) ∙ run_calls x.answer x.form x.given.heap x.choices

-- the one honest answer

no_blocks : (blocks : List Block) → SameItems blocks [] → blocks ≡ []
no_blocks [] same = refl
no_blocks (b ∷ blocks) same = absurd (omega (same (λ b. 1), arith))

no_word : (o : Option Word) → [] ≡ option_to_list o → o ≡ None
no_word None e = refl
no_word (Some x) e = absurd (omega (ap length e, arith))

says_nothing : (a : Answer) (c : CallPoint) → HonestPeer 2 None tt a c → a ≡ answer.Words None [] []
says_nothing a c peer =
    let new : peer.new ≡ [] = no_blocks peer.new (λ weight. peer.represents.brings weight ∙ ap (total weight) peer.represents.takes.1) in
    let word : peer.result ≡ None = no_word peer.result (sym peer.represents.takes.0 ∙ peer.represents.placed.0) in
    peer.answers ∙ ap (λ r. answer.Words r peer.writes peer.new) word ∙ ap (λ w. answer.Words None w peer.new) peer.represents.placed.1 ∙ ap (answer.Words None []) new

honest_answer : (resources : Resources) (x : RunOfImport nothing tree 0) → AnswersHonestly nothing tt x.answer (calls_of resources nothing x.run) → x.run ≡ done_run x.given.heap
honest_answer resources x honest =
    let peer : HonestPeer 2 None tt x.answer (point x.given.heap) = (subst (AllByRecursion (HonestPeer 2 None tt x.answer)) (made resources x) honest.honest).0 in
    same_run x ∙ run_done x.answer x.form x.given.heap x.choices (says_nothing x.answer (point x.given.heap) peer)

is_faithful : (resources : Resources) → IsFaithful resources aim false tree 0 nothing
is_faithful resources = record {
  there = refl;
  takes = λ g w is. subst (λ (w : ℕ × FnItem). AreArguments tree.items w.1.params g.args) (some_same (1, wrapper) w is) (subst (AreArguments tree.items []) (sym g.stand.0) tt);
  calls = λ x. inr (point x.given.heap, made resources x, carries x.given.heap x refl);
  ends = λ x u honest.
      subst (λ r. Ends (import_bill 2 none tt None u) x.choices.list (calls_of resources nothing r) (GivesImport 2 false None u x.given.args x.given.heap x.given.own) r) (sym (honest_answer resources x honest))
      (record {
        call = point x.given.heap;
        once = refl;
        requests = λ weight. refl;
        area = tt;
        gives = record { blocks = []; answers = (refl, refl); words = refl; formed = x.given.formed; account = λ weight. ap (λ (o : List Block). total weight (x.given.heap.blocks ++ o)) x.given.stand.1 };
      });
  drops = λ x u call honest done once. record { drops = []; order = sym (all_calls_count resources nothing x.run refl) ∙ once; dropped = []; lost = λ weight. refl; each = λ weight. refl };
}
