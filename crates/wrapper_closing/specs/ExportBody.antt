-- When an item of a file closes the body that was made for an exported function.
use Rattle.std.specs.Borrow.{Bor}
use Rattle.std.specs.Prelude.{◌≡◌, ℕ, true, List, map, Option, Some}
use Rattle.wit_model.specs.declared.function.Function.{Function}
use Rattle.wit_model.specs.declared.types.TypeDef.{TypeDef}
use Rattle.rust_tree.specs.Ident.{rust_ident}
use Rattle.rust_tree.specs.Tree.{Tree}
use Rattle.rust_tree.specs.declared.export.ExportFn.{ExportFn}
use Rattle.wrapper_data.specs.declared.run.Target.TheVariants as target
use Rattle.wrapper_meaning.specs.Shape.{Shape, param_shapes, result_shape}
use Rattle.wrapper_run.specs.Code.{code_of}
use Rattle.wrapper_run.specs.Entries.{ExportNames, IsExported}
use Rattle.wrapper_run.specs.ExportRun.{export_at}
use Rattle.wrapper_faithful.specs.Export.{HasCoreSignature}
use Rattle.wrapper_faithful.specs.Passed.{passed}
use Rattle.wrapper_faithful.specs.Returned.{Returns}
use Rattle.abi_bindgen.specs.Calls.{PassesAsItIs}
use Rattle.func_gen.specs.Meaning.{Found, GivesAsCalled, func_meaning}
use Rattle.func_gen.specs.TypeSites.{AreDefined}
use Rattle.func_gen.specs.Sites.{site_names}
use Rattle.func_gen.specs.declared.body.Body.{Body}
use Rattle.wrapper_closing.specs.Bodies.{MakesExport}
use Rattle.wrapper_closing.specs.ClosedExport.{AnswersComeIn, SharesArea, export_file}
use Rattle.wrapper_closing.specs.Direct.{are_direct}
use Rattle.wrapper_closing.specs.Parts.{AreParts}
use Rattle.wrapper_closing.specs.declared.parts.BodyParts.{BodyParts}

-- The wrapper of this number is an item with the call block of the body, and behind it the statements and the words that are given. Its
-- parameters have the names of the parts, and it has the core signature of the function. The file has the items of `_rt` that the body names,
-- defines the types that have a site, and has the area that its exported functions need and the trait of the method. It exports the wrapper, and its
-- post-return function, where one is due
pub record ClosesExportBody (types : List TypeDef) (func : Bor Function) (parts : BodyParts) (body : Body) (names : ExportNames) (results : List (Option Shape)) (tree : Tree) (nth : ℕ) : Type 0 where
  pub parted : AreParts types parts
  pub makes : MakesExport types func parts body
  pub number : ℕ
  pub item : ExportFn
  pub there : export_at tree nth ≡ Some (number, item)
  pub head : body.call ≡ Some item.call
  pub bound : item.bound ≡ parts.home
  pub params : map (λ p. p.name) item.params ≡ site_names parts.params
  pub signature : HasCoreSignature (passed types func.now) item
  pub block : item.rest ≡ code_of body.stmts body.tail
  pub runtime : Found tree.items body.runtime
  pub sites : AreDefined tree.items parts.tables.now.sites
  pub called : GivesAsCalled tree.items parts.home (Some item.call)
  pub area : SharesArea results (result_shape types func.now) tree
  pub passes : PassesAsItIs func_meaning (export_file tree number parts.home) makes.old func.now (param_shapes types func.now)
  pub answers : AnswersComeIn (export_file tree number parts.home) makes.old func.now (result_shape types func.now)
  pub direct : are_direct (param_shapes types func.now) ≡ true
  pub method : names.method ≡ target.Method parts.home (rust_ident func.now.name)
  pub exported : IsExported tree names.entry item
  pub post_return : Returns names.post_return tree nth (passed types func.now)
