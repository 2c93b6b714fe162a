-- When the post-return function of a file closes the code of an exported function's.
use Rattle.std.specs.Prelude.{◌≡◌, ℕ, true, false, List, map, None, Some, IfSome}
use Rattle.wit_model.specs.declared.function.Function.{Function}
use Rattle.wit_model.specs.declared.types.TypeDef.{TypeDef}
use Rattle.rust_tree.specs.Tree.{Tree}
use Rattle.rust_tree.specs.declared.export.PostReturnFn.{PostReturnFn}
use Rattle.wit_layout.specs.declared.signature.AbiVariant.TheVariants.{GuestExport}
use Rattle.wit_layout.specs.Signature.{core_results}
use Rattle.wrapper_meaning.specs.Kinds.{result_has_list}
use Rattle.wrapper_meaning.specs.Represents.{result_words}
use Rattle.wrapper_meaning.specs.Shape.{result_shape}
use Rattle.wrapper_run.specs.Code.{code_of}
use Rattle.wrapper_run.specs.Places.{area_in}
use Rattle.wrapper_run.specs.PostReturn.{post_return_at}
use Rattle.abi_bindgen.specs.Frees.{PostReturns}
use Rattle.func_gen.specs.Meaning.{Found, IsArea, func_meaning, static_request}
use Rattle.func_gen.specs.TypeSites.{AreDefined}
use Rattle.func_gen.specs.Sites.{site_names}
use Rattle.func_gen.specs.declared.function_bindgen.FunctionBindgen.{FunctionBindgen}
use Rattle.func_gen.specs.Opened.{is_closed}
use Rattle.wrapper_closing.specs.Begun.{IsBegun}
use Rattle.wrapper_closing.specs.Direct.{is_direct_result}

-- The wrapper of this number has a post-return function whose body is code that the driver made of the function's result, which may hold a
-- text. Its parameters are the words of the function's core result, and its code has no call block
pub record ClosesPostReturn (types : List TypeDef) (f : Function) (tree : Tree) (nth : ℕ) (old new : FunctionBindgen) : Type 0 where
  pub number : ℕ
  pub function : PostReturnFn
  pub there : post_return_at tree nth ≡ Some (number, function)
  pub begun : IsBegun old
  pub export : old.import ≡ false
  pub frees : PostReturns func_meaning (result_shape types f) old new
  pub names : map (λ p. p.name) function.params ≡ site_names old.params
  pub pinned : map (λ p. p.ty) function.params ≡ core_results GuestExport (result_words (result_shape types f))
  pub headless : new.code.call ≡ None
  pub closed : is_closed new.opened ≡ true
  pub body : function.body ≡ code_of new.code.stmts None
  pub runtime : Found tree.items new.runtime
  pub sites : AreDefined tree.items new.sites
  -- the static area of the file, if it has one, is an area
  pub sized : IfSome (static_request (area_in tree.items)) IsArea
  pub result : is_direct_result (result_shape types f) ≡ true
  pub lists : result_has_list (result_shape types f) ≡ true
