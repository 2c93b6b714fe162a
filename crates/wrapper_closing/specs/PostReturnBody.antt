-- When the post-return function of a file closes the body that was made for an exported function's.
use Rattle.std.specs.Prelude.{◌≡◌, ℕ, true, List, map, Some, IfSome}
use Rattle.wit_model.specs.declared.function.Function.{Function}
use Rattle.wit_model.specs.declared.types.TypeDef.{TypeDef}
use Rattle.rust_tree.specs.Tree.{Tree}
use Rattle.rust_tree.specs.declared.export.PostReturnFn.{PostReturnFn}
use Rattle.wit_layout.specs.declared.signature.AbiVariant.TheVariants.{GuestExport}
use Rattle.wit_layout.specs.Signature.{core_results}
use Rattle.wrapper_meaning.specs.Kinds.{result_has_list}
use Rattle.wrapper_meaning.specs.Represents.{result_words}
use Rattle.wrapper_meaning.specs.Shape.{result_shape}
use Rattle.wrapper_run.specs.Code.{code_of}
use Rattle.wrapper_run.specs.Places.{area_in}
use Rattle.wrapper_run.specs.PostReturn.{post_return_at}
use Rattle.func_gen.specs.Meaning.{Found, IsArea, static_request}
use Rattle.func_gen.specs.TypeSites.{AreDefined}
use Rattle.func_gen.specs.Sites.{site_names}
use Rattle.func_gen.specs.declared.body.Body.{Body}
use Rattle.wrapper_closing.specs.Bodies.{MakesPostReturn}
use Rattle.wrapper_closing.specs.Direct.{is_direct_result}
use Rattle.wrapper_closing.specs.Parts.{AreParts}
use Rattle.wrapper_closing.specs.declared.parts.BodyParts.{BodyParts}

-- The wrapper of this number has a post-return function with the statements of the body, of a function whose result may hold a text. Its
-- parameters are the words of the function's core result and have the names of the parts, and the file has the items of `_rt` that the body
-- names and defines the types that have a site
pub record ClosesPostReturnBody (types : List TypeDef) (f : Function) (parts : BodyParts) (body : Body) (tree : Tree) (nth : ℕ) : Type 0 where
  pub parted : AreParts types parts
  pub makes : MakesPostReturn types f parts body
  pub number : ℕ
  pub function : PostReturnFn
  pub there : post_return_at tree nth ≡ Some (number, function)
  pub names : map (λ p. p.name) function.params ≡ site_names parts.params
  pub pinned : map (λ p. p.ty) function.params ≡ core_results GuestExport (result_words (result_shape types f))
  pub block : function.body ≡ code_of body.stmts body.tail
  pub runtime : Found tree.items body.runtime
  pub sites : AreDefined tree.items parts.tables.now.sites
  -- the static area of the file, if it has one, is an area
  pub sized : IfSome (static_request (area_in tree.items)) IsArea
  pub result : is_direct_result (result_shape types f) ≡ true
  pub lists : result_has_list (result_shape types f) ≡ true
