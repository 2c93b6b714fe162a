-- What it means that the wrapper of an export is faithful to its function, and that the function is exported by it.
use Rattle.std.specs.Prelude.{◌≡◌, ℕ, List, [], ◌∷◌, Contains, map, Option, Some, option_to_list}
use Rattle.rust_tree.specs.declared.export.ExportFn.{ExportFn}
use Rattle.rust_tree.specs.Tree.{Tree}
use Rattle.wit_layout.specs.declared.signature.AbiVariant.TheVariants.{GuestExport}
use Rattle.wit_layout.specs.Signature.{core_params, core_results}
use Rattle.wrapper_data.specs.declared.answer.Answer.{Answer}
use Rattle.wrapper_data.specs.declared.choice.Choices.{Choices}
use Rattle.wrapper_data.specs.declared.form.Form.{Form}
use Rattle.wrapper_data.specs.declared.heap.Heap.{Heap}
use Rattle.wrapper_data.specs.declared.run.CallPoint.{CallPoint}
use Rattle.wrapper_data.specs.declared.run.Run.{Run}
use Rattle.wrapper_data.specs.declared.run.Stop.TheVariants as stop
use Rattle.wrapper_data.specs.declared.word.Word.{Word}
use Rattle.wrapper_meaning.specs.Calls.{CallsExport, CallsOnce}
use Rattle.wrapper_meaning.specs.Due.{Bill, export_bill}
use Rattle.wrapper_meaning.specs.Ends.{Ends}
use Rattle.wrapper_meaning.specs.Gives.{GivesExport}
use Rattle.wrapper_meaning.specs.Handles.{ExportDrops}
use Rattle.wrapper_meaning.specs.Honest.{HonestCaller, HonestImplementation}
use Rattle.wrapper_meaning.specs.Represents.{param_words, result_words}
use Rattle.wrapper_meaning.specs.Shape.{Shape}
use Rattle.wrapper_meaning.specs.Value.{Parts, Result}
use Rattle.wrapper_run.specs.Entries.{ExportNames, IsExported}
use Rattle.wrapper_run.specs.ExportRun.{export_at, export_run}
use Rattle.wrapper_faithful.specs.Passed.{Passed, width}
use Rattle.wrapper_faithful.specs.Resources.{Resources, calls_of}
use Rattle.wrapper_faithful.specs.Returned.{Returns}

-- the wrapper has the core signature of the function
pub record HasCoreSignature (p : Passed) (e : ExportFn) : Type 0 where
  pub params : map (λ x. x.ty) e.params ≡ core_params GuestExport (param_words p.params) (result_words p.result)
  pub answer : option_to_list e.result ≡ core_results GuestExport (result_words p.result)

-- a run of the wrapper of this number: from words that represent values of the parameters in a well-formed heap, where their blocks are
-- live; in one of the two forms, with any choices and any answer
pub record RunOfExport (p : Passed) (tree : Tree) (nth : ℕ) : Type 0 where
  pub values : Parts p.params
  pub words : List Word
  pub heap : Heap
  pub caller : HonestCaller width p.params values words heap
  pub form : Form
  pub choices : Choices
  pub answer : Answer
  pub run : Run
  pub ran : export_run tree nth words heap choices answer form ≡ Some run

-- what is due for it, where the implementation gives a value. `results` are those of the functions that share its static area
abbrev pub bill_of : {tree : Tree} {nth : ℕ} → List (Option Shape) → (p : Passed) → RunOfExport p tree nth → Result p.result → Bill
bill_of results p x v = export_bill width results p.params x.values p.result v

-- The wrapper of this number is that of an export, under the function's export name and with its core signature, and it shares its area
-- with functions of these results, of which its own is one. In both forms, for all words that represent values, and all choices:
-- whatever is answered, a run makes at most one call, which goes to the method and carries the values. Where the answer is honest, the
-- run ends as it owes. And where it is done, it drops each handle that it does not hand on, each that was lent to it and is imported,
-- and no other. What the words of the result own is freed by the post-return function
pub record IsExportFaithful (resources : Resources) (names : ExportNames) (results : List (Option Shape)) (tree : Tree) (nth : ℕ) (p : Passed) : Type 0 where
  pub number : ℕ
  pub wrapper : ExportFn
  pub there : export_at tree nth ≡ Some (number, wrapper)
  pub exported : IsExported tree names.entry wrapper
  pub signature : HasCoreSignature p wrapper
  pub shares : Contains results p.result
  pub calls : (x : RunOfExport p tree nth) → CallsOnce (CallsExport width names.method p.params x.values x.heap x.caller.blocks) (calls_of resources p x.run)
  pub ends : (x : RunOfExport p tree nth) (v : Result p.result) (honest : HonestImplementation width p.result v x.answer)
      → Ends (bill_of results p x v) x.choices.list (calls_of resources p x.run) (GivesExport width (bill_of results p x v) x.choices.list p.result v honest.heap honest.own) x.run
  pub drops : (x : RunOfExport p tree nth) (v : Result p.result) (call : CallPoint) → HonestImplementation width p.result v x.answer
      → x.run.stop ≡ stop.Done → calls_of resources p x.run ≡ call ∷ [] → ExportDrops resources.drop_of resources.imported p.params x.values call x.run.calls
  pub returned : Returns names.post_return tree nth p
