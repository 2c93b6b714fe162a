-- What the claims refuse: an area that is a block which the wrapper made and forgot; a choice that no address fits; a post-return function of
-- another core signature; and an import's wrapper that asks for an area which is not due.
use Rattle.std.proofs.Common.{◌≡◌, ◌<◌, ℕ, Bool, false, List, [], ◌∷◌, ◌++◌, length, length-append, map, Option, Some, None, refl, sym, ap, subst, ◌∙◌, arith, slice_get}
use Rattle.std.specs.Prelude.{codes}
use mathlib.Core.Logic.{inl, inr}
use Rattle.wit_model.specs.Bytes.{Bytes}
use Rattle.wit_model.specs.declared.size.Alignment.TheVariants as alignment
use Rattle.wit_model.specs.declared.wasm_type.WasmType.TheVariants as core
use Rattle.rust_tree.specs.declared.area.ReturnArea.{ReturnArea}
use Rattle.rust_tree.specs.declared.export.PostReturnFn.{PostReturnFn}
use Rattle.rust_tree.specs.declared.item.FnItem.{FnItem}
use Rattle.rust_tree.specs.declared.item.Item.TheVariants as item
use Rattle.rust_tree.specs.declared.stmt.Stmt.TheVariants as stmt
use Rattle.rust_tree.specs.declared.type_expr.TypeExpr.TheVariants as type
use Rattle.rust_tree.specs.Tree.{Tree}
use Rattle.wrapper_data.specs.declared.answer.Answer.TheVariants as answer
use Rattle.wrapper_data.specs.declared.choice.Choice.{Choice}
use Rattle.wrapper_data.specs.declared.choice.Choice.TheVariants as choice
use Rattle.wrapper_data.specs.declared.choice.Request.{Request}
use Rattle.wrapper_data.specs.declared.form.Form.TheVariants as form
use Rattle.wrapper_data.specs.declared.run.Run.{Run}
use Rattle.wrapper_data.specs.declared.run.Stop.TheVariants as stop
use Rattle.wrapper_data.specs.declared.run.Target.{Target}
use Rattle.wrapper_meaning.specs.Due.{Bill}
use Rattle.wrapper_meaning.specs.Ends.{EndsBy, EndsEarly, IsRefusable, Meets, MeetsMisfit, Misfits, is_areas}
use Rattle.wrapper_meaning.specs.Gives.{GivesExport}
use Rattle.wrapper_meaning.specs.Honest.{HonestImplementation}
use Rattle.wrapper_meaning.specs.Shape.{Shape}
use Rattle.wrapper_meaning.specs.Shape.Shape.{text}
use Rattle.wrapper_meaning.specs.Shape.Shapes.{none}
use Rattle.wrapper_meaning.specs.Value.{Result}
use Rattle.wrapper_meaning.proofs.Lists.{first_or}
use Rattle.wrapper_run.specs.Code.{code_of}
use Rattle.wrapper_run.specs.Entries.{ExportNames}
use Rattle.wrapper_values.specs.declared.state.State.{State}
use Rattle.wrapper_values.specs.Act.{and_then}
use Rattle.wrapper_run.specs.Places.{declare_area, place_area}
use Rattle.wrapper_run.specs.Run.{answer_and_leave, ended, run_item, run_tail, setting_of, start}
use Rattle.wrapper_run.proofs.StmtSteps.{run-area, runs-code, runs-first}
use Rattle.wrapper_faithful.specs.Export.{IsExportFaithful, RunOfExport, bill_of}
use Rattle.wrapper_faithful.specs.Import.{IsFaithful, RunOfImport}
use Rattle.wrapper_faithful.specs.Passed.{Passed, width}
use Rattle.wrapper_faithful.specs.Resources.{Resources, calls_of}
use Rattle.wrapper_faithful.specs.Returned.{IsEntered}
use Rattle.wrapper_faithful.proofs.Instances.PlainImport.{nothing}

-- 1. An export that gives a text, and takes its area from a block that it makes and forgets: it is refused memory, where only an area is due

abbrev pub texts : Passed
texts = record { params = none; result = Some text }

abbrev area : Request
area = record { size = 8; align = 4 }

refuses_a_leaked_area : (resources : Resources) (names : ExportNames) (tree : Tree) (nth : ℕ) (x : RunOfExport texts tree nth) (v : List ℕ)
    → HonestImplementation width (Some text) v x.answer → x.run.stop ≡ stop.Refused area → IsExportFaithful resources names (Some text ∷ []) tree nth texts → ⊥
refuses_a_leaked_area resources names tree nth x v honest stopped faithful =
    by_licence
    (subst (λ st. EndsBy st (bill_of (Some text ∷ []) texts x v) x.choices.list (calls_of resources texts x.run) (GivesExport width (bill_of (Some text ∷ []) texts x v) x.choices.list (Some text) v honest.heap honest.own) x.run) stopped
    (faithful.ends x v honest))
  where
    by_licence : IsRefusable (bill_of (Some text ∷ []) texts x v) x.choices.list x.run.requests area × EndsEarly (bill_of (Some text ∷ []) texts x v) x.run → ⊥
    by_licence (inl refusal, early) = let (k, below, at) = refusal.due in omega (below, arith)
    by_licence (inr ((k, below, at), large), early) = omega (below, arith)

-- 2. An export that asks for a block without an alignment, which no address fits, and so never calls

-- the only request is the last one, and is the first
only : (choices : List Choice) (a r : Request) (met : Option Choice) (m : Meets choices (a ∷ []) r met) → (length m.earlier ≡ 0) × (a ≡ r)
only choices a r met m = by_place m.earlier m.last
  where
    by_place : (earlier : List Request) → a ∷ [] ≡ earlier ++ r ∷ [] → (length earlier ≡ 0) × (a ≡ r)
    by_place [] e = (refl, ap (first_or a) e)
    by_place (y ∷ earlier) e = absurd (omega (ap length e, length-append earlier (r ∷ []), arith))

-- where an address was met, the request has an alignment
abbrev HasAlignment : Request → Option Choice → Type 0
HasAlignment r (Some (choice.At c)) = 0 < r.align
HasAlignment r (Some choice.Refuse) = Unit {0}
HasAlignment r None = Unit {0}

no_misfit : (b : Bill) (address : ℕ) (a : Request) (run : Run) → a.align ≡ 0 → run.requests ≡ a ∷ [] → MeetsMisfit b (choice.At address ∷ []) run → ⊥
no_misfit b address a run unaligned made misfit = by_met misfit.request misfit.met (subst (λ rs. Meets (choice.At address ∷ []) rs misfit.request misfit.met) made misfit.meets) (an_alignment misfit.request misfit.met (is_areas b.area b.before (length misfit.meets.earlier)) misfit.misfits)
  where
    an_alignment : (r : Request) (met : Option Choice) (q : Bool) → Misfits q run.heap.blocks r met → HasAlignment r met
    an_alignment r None q h = tt
    an_alignment r (Some choice.Refuse) q h = tt
    an_alignment r (Some (choice.At c)) q h = h.0

    by_met : (r : Request) (met : Option Choice) (m : Meets (choice.At address ∷ []) (a ∷ []) r met) → HasAlignment r met → ⊥
    by_met r None m h =
        let one = only (choice.At address ∷ []) a r None m in
        let some : Some (choice.At address) ≡ None = ap (slice_get (choice.At address ∷ [])) (sym one.0) ∙ m.takes in
        absurd (cc)
    by_met r (Some choice.Refuse) m h =
        let one = only (choice.At address ∷ []) a r (Some choice.Refuse) m in
        let some : Some (choice.At address) ≡ Some choice.Refuse = ap (slice_get (choice.At address ∷ [])) (sym one.0) ∙ m.takes in
        absurd (cc)
    by_met r (Some (choice.At c)) m h =
        let one = only (choice.At address ∷ []) a r (Some (choice.At c)) m in
        omega (h, unaligned, ap (λ (z : Request). z.align) one.1, arith)

refuses_what_fits_nowhere : (resources : Resources) (names : ExportNames) (results : List (Option Shape)) (tree : Tree) (nth : ℕ) (p : Passed) (x : RunOfExport p tree nth) (v : Result p.result) (address : ℕ) (a : Request)
    → HonestImplementation width p.result v x.answer → x.choices.list ≡ choice.At address ∷ [] → x.run.stop ≡ stop.BadChoice → x.run.requests ≡ a ∷ [] → a.align ≡ 0
    → IsExportFaithful resources names results tree nth p → ⊥
refuses_what_fits_nowhere resources names results tree nth p x v address a honest choices stopped made unaligned faithful =
    let ended : MeetsMisfit (bill_of results p x v) x.choices.list x.run × EndsEarly (bill_of results p x v) x.run =
    subst (λ st. EndsBy st (bill_of results p x v) x.choices.list (calls_of resources p x.run) (GivesExport width (bill_of results p x v) x.choices.list p.result v honest.heap honest.own) x.run) stopped (faithful.ends x v honest) in
    no_misfit (bill_of results p x v) address a x.run unaligned made (subst (λ cs. MeetsMisfit (bill_of results p x v) cs x.run) choices ended.0)

-- 3. A post-return function of a text that takes the text's two words, and not the pointer of the area
refuses_another_signature : (name : Bytes) (tree : Tree) (function : PostReturnFn) → map (λ x. x.ty) function.params ≡ core.Pointer ∷ core.Length ∷ [] → IsEntered name tree texts function → ⊥
refuses_another_signature name tree function two entered = omega (ap length (sym two ∙ entered.pinned), arith)

-- 4. The wrapper of an import without parameters and result, which asks for an area

abbrev own_area : ReturnArea
own_area = record { name = codes "ret_area"; size = record { bytes = 0; pointers = 2 }; align = alignment.Pointer }

abbrev asks : FnItem
asks = record {
  docs = [];
  name = codes "f";
  params = [];
  result = type.String;
  body = code_of (stmt.Area own_area ∷ []) None;
}

abbrev asking_tree : Tree
asking_tree = record { options = []; items = item.Import asks ∷ []; places = record { interface = None; nth = 0 } ∷ [] }

abbrev asking_run : Run
asking_run = record { stop = stop.BadChoice; calls = []; requests = record { size = 8; align = 4 } ∷ []; heap = record { blocks = [] }; words = []; value = None }

asking_is : run_item (setting_of asking_tree 1 (answer.Words None [] []) form.Debug) asks [] (record { blocks = [] }) (record { list = [] }) ≡ asking_run
unfolding run_item place_area
asking_is =
    let w = setting_of asking_tree 1 (answer.Words None [] []) form.Debug in
    let s : State = start asks [] (record { blocks = [] }) (record { list = [] }) in
    ap (λ o. ended (and_then o (answer_and_leave w type.String))) (runs-code w asks.body (stmt.Area own_area ∷ []) None s refl)
    ∙ ap (λ o. ended (and_then (and_then o (λ _. run_tail w None)) (answer_and_leave w type.String))) (runs-first w (stmt.Area own_area) (declare_area w own_area) [] s (run-area w own_area))

abbrev asking : RunOfImport nothing asking_tree 0
asking = record {
  given = record { values = tt; good = (tt, refl); args = []; heap = record { blocks = [] }; formed = refl; own = []; others = []; stand = (refl, refl); live = λ weight. refl };
  form = form.Debug;
  choices = record { list = [] };
  answer = answer.Words None [] [];
  run = asking_run;
  ran = ap (λ run. Some run) asking_is;
}

refuses_what_is_not_due : (resources : Resources) (target : Target) → IsFaithful resources target false asking_tree 0 nothing → ⊥
refuses_what_is_not_due resources target faithful = omega ((faithful.ends asking tt (record { good = tt; honest = tt })).1.requests (λ r. 1), arith)
