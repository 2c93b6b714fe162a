-- Laws of faithful wrappers: what is left of an export and then its post-return function; and that a function without handles drops none.
use Rattle.std.specs.Prelude.{◌≡◌, ℕ, true, false, MatchBool, List, [], ◌∷◌, ◌++◌, Option, Some}
use Rattle.rust_tree.specs.Tree.{Tree}
use Rattle.wrapper_data.specs.declared.block.Block.{Block}
use Rattle.wrapper_data.specs.declared.form.Form.{Form}
use Rattle.wrapper_data.specs.declared.run.CallPoint.{CallPoint}
use Rattle.wrapper_data.specs.declared.run.Run.{Run}
use Rattle.wrapper_data.specs.declared.run.Stop.TheVariants as stop
use Rattle.wrapper_data.specs.declared.word.Word.{Word}
use Rattle.wrapper_meaning.specs.Calls.{pointers}
use Rattle.wrapper_meaning.specs.Handles.{ExportDrops, ImportDrops, own_resources}
use Rattle.wrapper_meaning.specs.Honest.{HonestImplementation}
use Rattle.wrapper_meaning.specs.Items.{SameItems}
use Rattle.wrapper_meaning.specs.Kinds.{result_has_list}
use Rattle.wrapper_meaning.specs.Represents.{is_indirect}
use Rattle.wrapper_meaning.specs.Shape.{Shape}
use Rattle.wrapper_meaning.specs.Value.{Parts, Result}
use Rattle.wrapper_run.specs.Entries.{ExportNames}
use Rattle.wrapper_run.specs.PostReturn.{post_return_run}
use Rattle.wrapper_faithful.specs.Export.{IsExportFaithful, RunOfExport}
use Rattle.wrapper_faithful.specs.Passed.{Passed, width}
use Rattle.wrapper_faithful.specs.Resources.{Resources, calls_of}

-- of what an implementation left, there is what its value did not own, and the area, which the returned word names; no area where the result
-- passes by none
pub record IsLeft (r : Option Shape) (words : List Word) (others blocks : List Block) : Type 0 where
  pub area : List Block
  pub named : MatchBool (is_indirect r) (words ≡ pointers area) (area ≡ [])
  pub account : SameItems blocks (others ++ area)

-- of an export with a post-return function, and then that function, nothing else is left
abbrev pub RoundLeaves : Type 0
RoundLeaves = (resources : Resources) (names : ExportNames) (results : List (Option Shape)) (tree : Tree) (nth : ℕ) (p : Passed) (x : RunOfExport p tree nth)
    (v : Result p.result) (honest : HonestImplementation width p.result v x.answer) (later : Form) (after : Run)
    → IsExportFaithful resources names results tree nth p → result_has_list p.result ≡ true → x.run.stop ≡ stop.Done
    → post_return_run tree nth x.run.words x.run.heap later ≡ Some after
    → (after.stop ≡ stop.Done) × IsLeft p.result x.run.words honest.others after.heap.blocks

-- and of an export without one
abbrev pub RunLeaves : Type 0
RunLeaves = (resources : Resources) (names : ExportNames) (results : List (Option Shape)) (tree : Tree) (nth : ℕ) (p : Passed) (x : RunOfExport p tree nth)
    (v : Result p.result) (honest : HonestImplementation width p.result v x.answer)
    → IsExportFaithful resources names results tree nth p → result_has_list p.result ≡ false → x.run.stop ≡ stop.Done
    → IsLeft p.result x.run.words honest.others x.run.heap.blocks

-- of a function whose types reach no resource, each call of a run counts
abbrev pub AllCallsCount : Type 0
AllCallsCount = (resources : Resources) (p : Passed) (run : Run) → own_resources p.params p.result ≡ [] → calls_of resources p run ≡ run.calls

-- and where there is one call, no handle is dropped, and none is owed a drop
abbrev pub NothingIsDropped : Type 0
NothingIsDropped = (resources : Resources) (p : Passed) (us : Parts p.params) (u : Result p.result) (call : CallPoint) (calls : List CallPoint) → own_resources p.params p.result ≡ [] → calls ≡ call ∷ []
    → ImportDrops resources.drop_of p.result u call calls × ExportDrops resources.drop_of resources.imported p.params us call calls
