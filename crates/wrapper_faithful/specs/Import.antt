-- What it means that the wrapper of an import is faithful to its function.
use Rattle.std.specs.Prelude.{◌≡◌, ℕ, Bool, true, List, [], ◌∷◌, ◌++◌, Some, IsSome}
use Rattle.std.specs.List.{AllByRecursion}
use Rattle.rust_tree.specs.Tree.{Tree}
use Rattle.rust_tree.specs.declared.item.FnItem.{FnItem}
use Rattle.wrapper_data.specs.declared.answer.Answer.{Answer}
use Rattle.wrapper_data.specs.declared.block.Block.{Block}
use Rattle.wrapper_data.specs.declared.choice.Choices.{Choices}
use Rattle.wrapper_data.specs.declared.form.Form.{Form}
use Rattle.wrapper_data.specs.declared.heap.Heap.{Heap}
use Rattle.wrapper_data.specs.declared.run.CallPoint.{CallPoint}
use Rattle.wrapper_data.specs.declared.run.Run.{Run}
use Rattle.wrapper_data.specs.declared.run.Stop.TheVariants as stop
use Rattle.wrapper_data.specs.declared.run.Target.{Target}
use Rattle.wrapper_data.specs.declared.value.RustValue.{RustValue}
use Rattle.wrapper_data.specs.Heap.{is_heap}
use Rattle.wrapper_meaning.specs.Calls.{CallsImport, CallsOnce}
use Rattle.wrapper_meaning.specs.Due.{import_bill}
use Rattle.wrapper_meaning.specs.Ends.{Ends}
use Rattle.wrapper_meaning.specs.Gives.{GivesImport}
use Rattle.wrapper_meaning.specs.Handles.{ImportDrops}
use Rattle.wrapper_meaning.specs.Honest.{HonestPeer}
use Rattle.wrapper_meaning.specs.InRange.{IsListedResult}
use Rattle.wrapper_meaning.specs.Items.{SameItems}
use Rattle.wrapper_meaning.specs.Settled.{AreValues}
use Rattle.wrapper_meaning.specs.StandsFor.{ArgumentsStand}
use Rattle.wrapper_meaning.specs.Value.{Parts, Result}
use Rattle.wrapper_run.specs.Run.{import_at, import_run}
use Rattle.wrapper_faithful.specs.Arguments.{AreArguments}
use Rattle.wrapper_faithful.specs.Passed.{Passed, width}
use Rattle.wrapper_faithful.specs.Resources.{Resources, calls_of}

-- what the wrapper is given: values of the Rust side, which stand for values of the parameters in a well-formed heap. The blocks that they own
-- are live there, each once
pub record ImportGiven (p : Passed) : Type 0 where
  pub values : Parts p.params
  pub good : AreValues p.params values
  pub args : List RustValue
  pub heap : Heap
  pub formed : is_heap heap ≡ true
  pub own : List Block
  pub others : List Block
  pub stand : ArgumentsStand width heap.blocks p.params values args own
  pub live : SameItems heap.blocks (own ++ others)

-- a run of the wrapper of this number, from what it is given, in one of the two forms, with any choices and any answer
pub record RunOfImport (p : Passed) (tree : Tree) (nth : ℕ) : Type 0 where
  pub given : ImportGiven p
  pub form : Form
  pub choices : Choices
  pub answer : Answer
  pub run : Run
  pub ran : import_run tree nth given.args given.heap choices answer form ≡ Some run

-- the value is in range, and at each of these calls the answer represents it
pub record AnswersHonestly (p : Passed) (u : Result p.result) (a : Answer) (calls : List CallPoint) : Type 0 where
  pub good : IsListedResult p.result u
  pub honest : AllByRecursion (HonestPeer width p.result u a) calls

-- The wrapper of this number is that of an import. Its parameters have types whose values its arguments are. In both forms, for all
-- values, every heap that has them, and all choices: whatever is answered, a run makes at most one call, which goes to the target and
-- carries the values. Where the answer is honest at the call that was made, the run ends as it owes. And where it is done, it drops each
-- handle that it does not hand on, and no other. A chained method gives its `self`
pub record IsFaithful (resources : Resources) (target : Target) (chained : Bool) (tree : Tree) (nth : ℕ) (p : Passed) : Type 0 where
  pub there : IsSome (import_at tree nth)
  pub takes : (g : ImportGiven p) (wrapper : ℕ × FnItem) → import_at tree nth ≡ Some wrapper → AreArguments tree.items wrapper.1.params g.args
  pub calls : (x : RunOfImport p tree nth)
      → CallsOnce (CallsImport width target p.params x.given.values p.result x.given.heap x.choices.list) (calls_of resources p x.run)
  pub ends : (x : RunOfImport p tree nth) (u : Result p.result) → AnswersHonestly p u x.answer (calls_of resources p x.run)
      → Ends (import_bill width p.params x.given.values p.result u) x.choices.list (calls_of resources p x.run) (GivesImport width chained p.result u x.given.args x.given.heap x.given.own) x.run
  pub drops : (x : RunOfImport p tree nth) (u : Result p.result) (call : CallPoint) → AnswersHonestly p u x.answer (calls_of resources p x.run)
      → x.run.stop ≡ stop.Done → calls_of resources p x.run ≡ call ∷ [] → ImportDrops resources.drop_of p.result u call x.run.calls
