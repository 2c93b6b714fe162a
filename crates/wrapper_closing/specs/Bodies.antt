-- What the body of a wrapper is: the driver's code for its function.
use Rattle.std.specs.Borrow.{Bor}
use Rattle.std.specs.Prelude.{◌≡◌, Bool, true, false, List, [], length, Option, None, Some}
use Rattle.wit_model.specs.declared.function.Function.{Function}
use Rattle.wit_model.specs.declared.types.TypeDef.{TypeDef}
use Rattle.rust_tree.specs.declared.export.CallBlock.{CallBlock}
use Rattle.wit_layout.specs.declared.signature.AbiVariant.TheVariants.{GuestExport, GuestImport}
use Rattle.wrapper_meaning.specs.Shape.{result_shape}
use Rattle.abi_bindgen.specs.Code.{call_code, post_return_code}
use Rattle.abi_driver.specs.Exports.{export_params}
use Rattle.abi_bindgen.specs.Frees.{PostReturns}
use Rattle.abi_bindgen.specs.Flows.{Flows}
use Rattle.abi_driver.specs.WholeCalls.{CallsFunction}
use Rattle.func_gen.specs.Body.{IsBodyOf}
use Rattle.func_gen.specs.Meaning.{func_meaning}
use Rattle.func_gen.specs.declared.body.Body.{Body}
use Rattle.func_gen.specs.declared.function_bindgen.FunctionBindgen.{FunctionBindgen}
use Rattle.wrapper_closing.specs.Declares.{Area, declare_none}
use Rattle.wrapper_closing.specs.Parts.{IsMadeFrom}
use Rattle.wrapper_closing.specs.declared.parts.BodyParts.{BodyParts}

-- The driver sent its code for an import to a bindgen that was made of these parts, which has one parameter for each of the function's, and
-- the body is what that made. No method is called
pub record MakesImport (types : List TypeDef) (func : Bor Function) (parts : BodyParts) (body : Body) : Type 0 where
  pub old : FunctionBindgen
  pub new : FunctionBindgen
  pub made : IsMadeFrom true parts old
  pub many : length parts.params ≡ length func.now.params
  pub calls : CallsFunction func_meaning types GuestImport func.now old new
  pub flows : Flows func_meaning types (call_code types GuestImport func) [] [] old new
  pub body_of : IsBodyOf new body
  pub headless : body.call ≡ None

-- a block that calls a method, and declares no area
abbrev pub is_plain_call : Option CallBlock → Bool
is_plain_call None = false
is_plain_call (Some block) = declare_none Area block.stmts

abbrev pub calls_method : Body → Bool
calls_method body = is_plain_call body.call

-- The same of an export, whose bindgen has one parameter for each core parameter. A method is called, and no area is declared
pub record MakesExport (types : List TypeDef) (func : Bor Function) (parts : BodyParts) (body : Body) : Type 0 where
  pub old : FunctionBindgen
  pub new : FunctionBindgen
  pub made : IsMadeFrom false parts old
  pub many : length parts.params ≡ length (export_params types func.now)
  pub calls : CallsFunction func_meaning types GuestExport func.now old new
  pub flows : Flows func_meaning types (call_code types GuestExport func) [] [] old new
  pub body_of : IsBodyOf new body
  pub method : calls_method body ≡ true
  pub plain : declare_none Area body.stmts ≡ true

-- The driver sent its code for the post-return function of an export to a bindgen that was made of these parts, and the body is what that
-- made. No method is called
pub record MakesPostReturn (types : List TypeDef) (f : Function) (parts : BodyParts) (body : Body) : Type 0 where
  pub old : FunctionBindgen
  pub new : FunctionBindgen
  pub made : IsMadeFrom false parts old
  pub frees : PostReturns func_meaning (result_shape types f) old new
  pub flows : Flows func_meaning types (post_return_code types f.result) [] [] old new
  pub body_of : IsBodyOf new body
  pub headless : body.call ≡ None
