-- What the clause `signature` refuses of exports; and what the clause `ends` refuses of imports, whose declaration has the core signature.
use Rattle.std.proofs.Common.{◌≡◌, ℕ, false, List, [], ◌∷◌, length, map, Option, None, Some, refl, sym, ap, subst, ◌∙◌, arith}
use Rattle.std.specs.Prelude.{codes, option_to_list}
use Rattle.std.specs.List.{AllByRecursion}
use Rattle.wit_model.specs.declared.wasm_type.WasmType.TheVariants as core
use Rattle.wit_layout.specs.Tree.{Scalar}
use Rattle.rust_tree.specs.declared.export.ExportFn.{ExportFn}
use Rattle.rust_tree.specs.declared.expr.Expr.TheVariants as expr
use Rattle.rust_tree.specs.declared.item.FnItem.{FnItem}
use Rattle.rust_tree.specs.declared.item.Item.TheVariants as item
use Rattle.rust_tree.specs.declared.stmt.ImportDecl.{ImportDecl}
use Rattle.rust_tree.specs.declared.stmt.Stmt.TheVariants as stmt
use Rattle.rust_tree.specs.declared.type_expr.TypeExpr.TheVariants as type
use Rattle.rust_tree.specs.Tree.{Tree}
use Rattle.wrapper_data.specs.declared.answer.Answer.TheVariants as answer
use Rattle.wrapper_data.specs.declared.form.Form.TheVariants as form
use Rattle.wrapper_data.specs.declared.heap.Heap.{Heap}
use Rattle.wrapper_data.specs.declared.run.CallPoint.{CallPoint}
use Rattle.wrapper_data.specs.declared.run.Run.{Run}
use Rattle.wrapper_data.specs.declared.run.Target.{Target}
use Rattle.wrapper_meaning.specs.Due.{import_bill}
use Rattle.wrapper_meaning.specs.Ends.{Ends}
use Rattle.wrapper_meaning.specs.Gives.{GivesImport}
use Rattle.wrapper_meaning.specs.Honest.{HonestPeer}
use Rattle.wrapper_meaning.specs.Shape.{Shape}
use Rattle.wrapper_meaning.specs.Shape.Shape.{scalar}
use Rattle.wrapper_meaning.specs.Shape.Shapes.{none, more}
use Rattle.wrapper_meaning.proofs.Lists.{some_or}
use Rattle.wrapper_values.specs.declared.state.State.{State}
use Rattle.wrapper_values.specs.Act.{Stopped, and_then}
use Rattle.rust_tree.specs.declared.stmt.Stmt.{Stmt}
use Rattle.wrapper_run.proofs.StmtSteps.{run-import, runs-code, runs-expr, runs-first}
use Rattle.wrapper_run.specs.Code.{code_of}
use Rattle.wrapper_run.specs.Blocks.{drop_value}
use Rattle.wrapper_run.specs.Entries.{ExportNames}
use Rattle.wrapper_values.specs.Locals.{declare}
use Rattle.wrapper_run.specs.Run.{answer_and_leave, begin, call_point, callee, ended, eval, run_item, run_stmts, run_tail, setting_of, take_answer}
use Rattle.wrapper_values.specs.Setting.{Setting, stuck}
use Rattle.wrapper_run.proofs.StepLemmas.{call_gives, import_gives}
use Rattle.wrapper_faithful.specs.Export.{IsExportFaithful}
use Rattle.wrapper_faithful.specs.Import.{IsFaithful, RunOfImport}
use Rattle.wrapper_faithful.specs.Passed.{Passed, width}
use Rattle.wrapper_faithful.specs.Resources.{Resources, calls_of}
use Rattle.wrapper_faithful.proofs.NoHandles.{all_calls_count}
use Rattle.wrapper_faithful.proofs.Instances.PlainExport as plain_export
use Rattle.wrapper_faithful.proofs.Instances.PlainImport as plain_import

-- 1. Exports

abbrev export_tree : ExportFn → Tree
export_tree e = record plain_export.tree { items = item.Export e ∷ [] }

same_wrapper : (resources : Resources) (names : ExportNames) (results : List (Option Shape)) (e : ExportFn) (p : Passed) (faithful : IsExportFaithful resources names results (export_tree e) 0 p) → e ≡ faithful.wrapper
same_wrapper resources names results e p faithful = ap (λ (o : Option (ℕ × ExportFn)). (some_or (1, e) o).1) faithful.there

-- a wrapper that takes a word more (`params`)

abbrev takes_a_word : ExportFn
takes_a_word = record plain_export.wrapper { params = record { name = codes "arg0"; ty = core.I32 } ∷ [] }

refuses_a_word_more : (resources : Resources) (names : ExportNames) (results : List (Option Shape)) → IsExportFaithful resources names results (export_tree takes_a_word) 0 plain_export.nothing → ⊥
refuses_a_word_more resources names results faithful =
    let params : core.I32 ∷ [] ≡ [] = ap (λ (e : ExportFn). map (λ x. x.ty) e.params) (same_wrapper resources names results takes_a_word plain_export.nothing faithful) ∙ faithful.signature.params in
    omega (ap length params, arith)

-- one that takes a number of 64 bits as a word of 32 bits (`params`)

abbrev long : Passed
long = record { params = more (scalar Scalar.u64) none; result = None }

refuses_a_word_of_another_type : (resources : Resources) (names : ExportNames) (results : List (Option Shape)) → IsExportFaithful resources names results (export_tree takes_a_word) 0 long → ⊥
refuses_a_word_of_another_type resources names results faithful =
    let params : core.I32 ∷ [] ≡ core.I64 ∷ [] = ap (λ (e : ExportFn). map (λ x. x.ty) e.params) (same_wrapper resources names results takes_a_word long faithful) ∙ faithful.signature.params in
    absurd (cc)

-- one that gives no word, of a function that has a result (`answer`)

abbrev answering : Passed
answering = record { params = none; result = Some (scalar Scalar.u32) }

refuses_no_word : (resources : Resources) (names : ExportNames) (results : List (Option Shape)) → IsExportFaithful resources names results plain_export.tree 0 answering → ⊥
refuses_no_word resources names results faithful =
    let same : plain_export.wrapper ≡ faithful.wrapper = ap (λ (o : Option (ℕ × ExportFn)). (some_or (1, plain_export.wrapper) o).1) faithful.there in
    let answer : [] ≡ core.I32 ∷ [] = ap (λ (e : ExportFn). option_to_list e.result) same ∙ faithful.signature.answer in
    omega (ap length answer, arith)

-- 2. Imports: the machine calls by the declaration, and is stuck where the words or the answer are not of its kinds

abbrev declared : ImportDecl → FnItem
declared d = record plain_import.wrapper { body = code_of (stmt.Import d ∷ stmt.Expr (expr.Call plain_import.path []) ∷ []) None }

abbrev import_tree : ImportDecl → Tree
import_tree d = record { options = []; items = item.Import (declared d) ∷ []; places = record { interface = None; nth = 0 } ∷ [] }

abbrev setting : ImportDecl → Setting
setting d = setting_of (import_tree d) 1 (answer.Words None [] []) form.Debug

abbrev empty : Heap
empty = record { blocks = [] }

abbrev declared_state : ImportDecl → State
declared_state d = record (begin [] [] empty (record { list = [] })) { imports = d ∷ [] }

abbrev run_of : ImportDecl → Run
run_of d = run_item (setting d) (declared d) [] empty (record { list = [] })

abbrev ran : (d : ImportDecl) → RunOfImport plain_import.nothing (import_tree d) 0
ran d = record {
  given = record { values = tt; good = (tt, refl); args = []; heap = empty; formed = refl; own = []; others = []; stand = (refl, refl); live = λ weight. refl };
  form = form.Debug;
  choices = record { list = [] };
  answer = answer.Words None [] [];
  run = run_of d;
  ran = refl;
}

-- where the call stops, so does the run
stops : (d : ImportDecl) (s : State) → eval (setting d) (expr.Call plain_import.path []) (declared_state d) ≡ Stopped (stuck (setting d)) s → run_of d ≡ ended (Stopped (stuck (setting d)) s)
unfolding run_item declare
stops d s stopped =
    let w = setting d in
    let begun : State = begin [] [] empty (record { list = [] }) in
    let after : List Stmt = stmt.Expr (expr.Call plain_import.path []) ∷ [] in
    ap (λ o. ended (and_then o (answer_and_leave w type.Unit))) (runs-code w (declared d).body (stmt.Import d ∷ after) None begun refl)
    ∙ ap (λ o. ended (and_then (and_then o (λ _. run_tail w None)) (answer_and_leave w type.Unit)))
    (runs-first w (stmt.Import d) (declare d) after begun (run-import w d) ∙ runs-expr w (expr.Call plain_import.path []) [] (declared_state d))
    ∙ ap (λ o. ended (and_then (and_then (and_then (and_then o (drop_value w)) (λ _. run_stmts w [])) (λ _. run_tail w None)) (answer_and_leave w type.Unit))) stopped

-- a run that is stuck ends by nothing
never_stuck : (resources : Resources) (target : Target) (d : ImportDecl) (s : State) → run_of d ≡ ended (Stopped (stuck (setting d)) s) → AllByRecursion (HonestPeer width None tt (answer.Words None [] [])) s.calls
    → IsFaithful resources target false (import_tree d) 0 plain_import.nothing → ⊥
never_stuck resources target d s is honest faithful =
    subst (λ r. Ends (import_bill width none tt None tt) [] (calls_of resources plain_import.nothing r) (GivesImport width false None tt [] empty []) r) is
    (faithful.ends (ran d) tt (record { good = tt; honest = subst (AllByRecursion (HonestPeer width None tt (answer.Words None [] []))) (sym (all_calls_count resources plain_import.nothing (run_of d) refl ∙ ap (λ (r : Run). r.calls) is)) honest }))

-- declared with a word that is not passed (`ends`)

abbrev takes_more : ImportDecl
takes_more = record plain_import.decl { params = core.I32 ∷ [] }

refuses_a_declared_word_more : (resources : Resources) (target : Target) → IsFaithful resources target false (import_tree takes_more) 0 plain_import.nothing → ⊥
unfolding callee call_point
refuses_a_declared_word_more resources target faithful =
    never_stuck resources target takes_more (declared_state takes_more) (stops takes_more (declared_state takes_more) (call_gives (setting takes_more) plain_import.path [] [] (declared_state takes_more) tt)) tt faithful

-- declared with a word as its answer, which no honest peer gives (`ends`)

abbrev gives_more : ImportDecl
gives_more = record plain_import.decl { result = Some core.I32 }

abbrev point : CallPoint
point = plain_import.point empty

abbrev called_state : State
called_state = record (declared_state gives_more) { calls = point ∷ [] }

silent : HonestPeer width None tt (answer.Words None [] []) point
silent = record {
  good = tt;
  result = None;
  writes = [];
  new = [];
  answers = refl;
  represents = record { words = []; blocks = []; area = []; takes = (refl, refl, refl); placed = (refl, refl); fresh = refl; brings = λ weight. refl };
}

is_stuck : eval (setting gives_more) (expr.Call plain_import.path []) (declared_state gives_more) ≡ Stopped (stuck (setting gives_more)) called_state
unfolding callee call_point take_answer
is_stuck =
    call_gives (setting gives_more) plain_import.path [] [] (declared_state gives_more) tt
    ∙ import_gives (setting gives_more) plain_import.path (codes "wit_import0") [] (declared_state gives_more) point (Some core.I32) refl refl

refuses_a_declared_answer : (resources : Resources) (target : Target) → IsFaithful resources target false (import_tree gives_more) 0 plain_import.nothing → ⊥
refuses_a_declared_answer resources target faithful = never_stuck resources target gives_more called_state (stops gives_more called_state is_stuck) (silent, tt) faithful
