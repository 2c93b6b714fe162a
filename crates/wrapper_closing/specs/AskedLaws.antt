-- Laws: the text of a body names each item of `_rt` that its code asks for.
use Rattle.std.specs.Borrow.{Bor}
use Rattle.std.specs.Prelude.{◌≡◌, ◌++◌, List, Some}
use Rattle.wit_model.specs.declared.function.Function.{Function}
use Rattle.wit_model.specs.declared.types.TypeDef.{TypeDef}
use Rattle.rust_tree.specs.declared.export.CallBlock.{CallBlock}
use Rattle.rust_tree.specs.Asked.{asked_by_block, asked_by_call}
use Rattle.wrapper_meaning.specs.Items.{AllIn}
use Rattle.wrapper_run.specs.Code.{code_of}
use Rattle.func_gen.specs.declared.body.Body.{Body}
use Rattle.wrapper_closing.specs.Bodies.{MakesExport, MakesImport, MakesPostReturn}
use Rattle.wrapper_closing.specs.ImportBlock.{block_of}
use Rattle.wrapper_closing.specs.Parts.{AreParts}
use Rattle.wrapper_closing.specs.declared.parts.BodyParts.{BodyParts}

-- that of an import in its block
abbrev pub ImportBodyNamesAsked : Type 0
ImportBodyNamesAsked =
    (types : List TypeDef) (func : Bor Function) (parts : BodyParts) (body : Body) → AreParts types parts → MakesImport types func parts body → AllIn (asked_by_block (block_of parts.area body)) body.runtime

-- that of an export in its call block, or behind that
abbrev pub ExportBodyNamesAsked : Type 0
ExportBodyNamesAsked =
    (types : List TypeDef) (func : Bor Function) (parts : BodyParts) (body : Body) (call : CallBlock) → AreParts types parts → MakesExport types func parts body → body.call ≡ Some call
    → AllIn (asked_by_call call ++ asked_by_block (code_of body.stmts body.tail)) body.runtime

abbrev pub PostReturnBodyNamesAsked : Type 0
PostReturnBodyNamesAsked = (types : List TypeDef) (f : Function) (parts : BodyParts) (body : Body) → AreParts types parts → MakesPostReturn types f parts body → AllIn (asked_by_block (code_of body.stmts body.tail)) body.runtime
