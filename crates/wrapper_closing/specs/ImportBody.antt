-- When an item of a file closes the body that was made for an imported function.
use Rattle.std.specs.Borrow.{Bor}
use Rattle.std.specs.Prelude.{◌≡◌, ℕ, true, List, map, Some}
use Rattle.wit_model.specs.declared.function.Function.{Function}
use Rattle.wit_model.specs.declared.types.TypeDef.{TypeDef}
use Rattle.rust_tree.specs.Tree.{Tree}
use Rattle.rust_tree.specs.declared.item.FnItem.{FnItem}
use Rattle.wrapper_data.specs.declared.run.Target.{Target}
use Rattle.wrapper_data.specs.declared.run.Target.TheVariants as target
use Rattle.wrapper_meaning.specs.Shape.{param_shapes, result_shape}
use Rattle.wrapper_run.specs.Run.{import_at}
use Rattle.func_gen.specs.Meaning.{Found}
use Rattle.func_gen.specs.TypeSites.{AreDefined}
use Rattle.func_gen.specs.Sites.{site_names}
use Rattle.func_gen.specs.declared.body.Body.{Body}
use Rattle.wrapper_closing.specs.Bodies.{MakesImport}
use Rattle.wrapper_closing.specs.ClosedImport.{AnswersAs}
use Rattle.wrapper_closing.specs.Direct.{are_direct, is_direct_result}
use Rattle.wrapper_closing.specs.PrintedAs.{ArePrintedLent}
use Rattle.wrapper_closing.specs.ImportBlock.{block_of}
use Rattle.wrapper_closing.specs.Parts.{AreParts}
use Rattle.wrapper_closing.specs.declared.parts.BodyParts.{BodyParts}

-- The wrapper of this number is an item whose block is that of the body, with its area first. Its parameters have the names of the parts, and
-- types that are lent of those of the function. The file has the items of `_rt` that the body names and defines the types that have a site,
-- and the result is of the printed type
pub record ClosesImportBody (types : List TypeDef) (func : Bor Function) (parts : BodyParts) (body : Body) (tree : Tree) (nth : ℕ) : Type 0 where
  pub parted : AreParts types parts
  pub makes : MakesImport types func parts body
  pub number : ℕ
  pub item : FnItem
  pub there : import_at tree nth ≡ Some (number, item)
  pub names : map (λ p. p.name) item.params ≡ site_names parts.params
  pub block : item.body ≡ block_of parts.area body
  pub runtime : Found tree.items body.runtime
  pub sites : AreDefined tree.items parts.tables.now.sites
  pub answers : AnswersAs tree.items item.result (result_shape types func.now)
  pub printed : ArePrintedLent tree.items (param_shapes types func.now) item.params
  pub params : are_direct (param_shapes types func.now) ≡ true
  pub result : is_direct_result (result_shape types func.now) ≡ true

-- what the body calls
abbrev pub import_called : BodyParts → Function → Target
import_called parts f = target.Core parts.home f.name.wit
