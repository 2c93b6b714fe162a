-- What the code of a function gives: an operand at most, which its last step names.
use Rattle.std.proofs.Common.{◌≡◌, ◌≤◌, List, [], length, Option, Some, sym, subst}
use Rattle.std.specs.Borrow.{Bor}
use Rattle.std.specs.Prelude.{IfSome, option_to_list}
use Rattle.wit_model.specs.declared.function.Function.{Function}
use Rattle.wit_model.specs.declared.types.TypeDef.{TypeDef}
use Rattle.wit_layout.specs.declared.signature.AbiVariant.TheVariants.{GuestExport, GuestImport}
use Rattle.wit_layout.specs.Signature.{core_results}
use Rattle.wrapper_meaning.specs.Represents.{result_words}
use Rattle.wrapper_meaning.specs.Shape.{result_shape}
use Rattle.abi_bindgen.specs.Code.{call_code}
use Rattle.abi_bindgen.specs.Flows.{Flows}
use Rattle.abi_driver.proofs.CallCode.{few_given, few_words}
use Rattle.func_gen.specs.Meaning.{func_meaning}
use Rattle.func_gen.specs.declared.function_bindgen.FunctionBindgen.{FunctionBindgen}
use Rattle.func_gen.specs.declared.operand.ExprOperand.{ExprOperand}

-- as many as are due
pub import_given : (types : List TypeDef) (func : Bor Function) (gives : List ExprOperand) (old new : FunctionBindgen) → Flows func_meaning types (call_code types GuestImport func) [] gives old new
    → (os : List ExprOperand) × (length os ≡ length (option_to_list func.now.result)) × (new.returned ≡ Some os)
import_given types func gives old new (os, next, h, e) = (os, e.form.given, e.returned)

pub export_given : (types : List TypeDef) (func : Bor Function) (gives : List ExprOperand) (old new : FunctionBindgen) → Flows func_meaning types (call_code types GuestExport func) [] gives old new
    → (os : List ExprOperand) × (length os ≡ length (core_results GuestExport (result_words (result_shape types func.now)))) × (new.returned ≡ Some os)
export_given types func gives old new (os, next, h, e) = (os, e.form.given, e.returned)

-- one at most
abbrev pub GivesFew : Option (List ExprOperand) → Type 0
GivesFew r = IfSome r (λ os. length os ≤ 1)

pub import_few : (types : List TypeDef) (func : Bor Function) (gives : List ExprOperand) (old new : FunctionBindgen) → Flows func_meaning types (call_code types GuestImport func) [] gives old new → GivesFew new.returned
import_few types func gives old new h =
    let (os, count, gave) = import_given types func gives old new h in subst GivesFew (sym gave) (subst (λ n. n ≤ 1) (sym count) (few_given func.now.result))

pub export_few : (types : List TypeDef) (func : Bor Function) (gives : List ExprOperand) (old new : FunctionBindgen) → Flows func_meaning types (call_code types GuestExport func) [] gives old new → GivesFew new.returned
export_few types func gives old new h =
    let (os, count, gave) = export_given types func gives old new h in subst GivesFew (sym gave) (subst (λ n. n ≤ 1) (sym count) (few_words (result_shape types func.now)))
