-- Laws: a wrapper that closes the driver's code is faithful to its function.
use Rattle.std.specs.Borrow.{Bor}
use Rattle.std.specs.Prelude.{◌≡◌, ℕ, false, List, [], Option, None, option_to_list}
use Rattle.wit_model.specs.Bytes.{Bytes}
use Rattle.wit_model.specs.declared.function.Function.{Function}
use Rattle.wit_model.specs.declared.types.TypeDef.{TypeDef}
use Rattle.rust_tree.specs.Tree.{Tree}
use Rattle.func_gen.specs.declared.body.Body.{Body}
use Rattle.func_gen.specs.declared.function_bindgen.FunctionBindgen.{FunctionBindgen}
use Rattle.wrapper_meaning.specs.Areas.{result_record}
use Rattle.wrapper_meaning.specs.Shape.{Shape, result_shape}
use Rattle.wrapper_meaning.specs.Kinds.{result_has_list}
use Rattle.wrapper_run.specs.Entries.{ExportNames, entries_named}
use Rattle.wrapper_run.specs.PostReturn.{post_return_at}
use Rattle.wrapper_faithful.specs.Export.{IsExportFaithful}
use Rattle.wrapper_faithful.specs.Import.{IsFaithful}
use Rattle.wrapper_faithful.specs.Passed.{passed}
use Rattle.wrapper_faithful.specs.Resources.{Resources}
use Rattle.wrapper_faithful.specs.Returned.{IsEntered, IsReturned, IsUnreturned, RunOfPostReturn}
use Rattle.wrapper_meaning.specs.Gives.{FreesWords}
use Rattle.abi_bindgen.specs.Area.{AreFor}
use Rattle.abi_bindgen.specs.declared.bindgen.Asked.{Asked}
use Rattle.wrapper_closing.specs.Bodies.{MakesExport}
use Rattle.wrapper_closing.specs.ClosedExport.{ClosesExport, SharesArea}
use Rattle.wrapper_closing.specs.ClosedImport.{ClosesImport, import_target}
use Rattle.wrapper_closing.specs.ClosedPostReturn.{ClosesPostReturn}
use Rattle.wrapper_closing.specs.ExportBody.{ClosesExportBody}
use Rattle.wrapper_closing.specs.FileArea.{HasAreaFor}
use Rattle.wrapper_closing.specs.ImportBody.{ClosesImportBody, import_called}
use Rattle.wrapper_closing.specs.PostReturnBody.{ClosesPostReturnBody}
use Rattle.wrapper_closing.specs.declared.parts.BodyParts.{BodyParts}

abbrev pub ClosedImportIsFaithful : Type 0
ClosedImportIsFaithful = (types : List TypeDef) (resources : Resources) (tree : Tree) (nth : ℕ) (f : Function) (old new : FunctionBindgen)
    → ClosesImport types f tree nth old new → IsFaithful resources (import_target old f) false tree nth (passed types f)

abbrev pub ClosedExportIsFaithful : Type 0
ClosedExportIsFaithful = (types : List TypeDef) (resources : Resources) (names : ExportNames) (results : List (Option Shape)) (tree : Tree) (nth : ℕ) (f : Function) (old new : FunctionBindgen)
    → ClosesExport types f names results tree nth old new → IsExportFaithful resources names results tree nth (passed types f)

-- a post-return function that does frees what the words own, whatever they represent
abbrev pub ClosedPostReturnFrees : Type 0
ClosedPostReturnFrees = (types : List TypeDef) (tree : Tree) (nth : ℕ) (f : Function) (old new : FunctionBindgen)
    → ClosesPostReturn types f tree nth old new → (x : RunOfPostReturn (passed types f) tree nth) → FreesWords x.blocks x.heap x.run

-- and where it is entered under a name, it is that of the wrapper
abbrev pub ClosedPostReturnIsReturned : Type 0
ClosedPostReturnIsReturned = (types : List TypeDef) (name : Bytes) (tree : Tree) (nth : ℕ) (f : Function) (old new : FunctionBindgen)
    → (c : ClosesPostReturn types f tree nth old new) → IsEntered name tree (passed types f) c.function → IsReturned name tree nth (passed types f)

-- a function whose result may hold no text has none, where the file has none
abbrev pub UnlistedIsUnreturned : Type 0
UnlistedIsUnreturned = (types : List TypeDef) (name : Bytes) (tree : Tree) (nth : ℕ) (f : Function) → result_has_list (result_shape types f) ≡ false → post_return_at tree nth ≡ None → entries_named name tree.items ≡ []
    → IsUnreturned name tree nth (passed types f)

-- and a wrapper that closes a body which was made for its function
abbrev pub ImportBodyIsFaithful : Type 0
ImportBodyIsFaithful = (types : List TypeDef) (resources : Resources) (tree : Tree) (nth : ℕ) (func : Bor Function) (parts : BodyParts) (body : Body)
    → ClosesImportBody types func parts body tree nth → IsFaithful resources (import_called parts func.now) false tree nth (passed types func.now)

abbrev pub ExportBodyIsFaithful : Type 0
ExportBodyIsFaithful = (types : List TypeDef) (resources : Resources) (names : ExportNames) (results : List (Option Shape)) (tree : Tree) (nth : ℕ) (func : Bor Function) (parts : BodyParts) (body : Body)
    → ClosesExportBody types func parts body names results tree nth → IsExportFaithful resources names results tree nth (passed types func.now)

-- the area that the body needs is for the record by which its result passes, and functions share the area for the bodies of all of them
abbrev pub ExportBodyAreaIsFor : Type 0
ExportBodyAreaIsFor = (types : List TypeDef) (func : Bor Function) (parts : BodyParts) (body : Body) → MakesExport types func parts body → AreFor (result_record (result_shape types func.now)) (option_to_list body.area)

abbrev pub NeededAreaIsShared : Type 0
NeededAreaIsShared = (results : List (Option Shape)) (areas : List (Option Asked)) (r : Option Shape) (tree : Tree) → HasAreaFor results areas r tree → SharesArea results r tree

-- a post-return function that closes such a body frees what the words own, and where it is entered, it is that of the wrapper
abbrev pub PostReturnBodyFrees : Type 0
PostReturnBodyFrees = (types : List TypeDef) (tree : Tree) (nth : ℕ) (f : Function) (parts : BodyParts) (body : Body)
    → ClosesPostReturnBody types f parts body tree nth → (x : RunOfPostReturn (passed types f) tree nth) → FreesWords x.blocks x.heap x.run

abbrev pub PostReturnBodyIsReturned : Type 0
PostReturnBodyIsReturned = (types : List TypeDef) (name : Bytes) (tree : Tree) (nth : ℕ) (f : Function) (parts : BodyParts) (body : Body)
    → (c : ClosesPostReturnBody types f parts body tree nth) → IsEntered name tree (passed types f) c.function → IsReturned name tree nth (passed types f)
