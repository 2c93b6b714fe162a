-- When an item of a file closes the code of an imported function.
use Rattle.std.specs.Prelude.{◌≡◌, ℕ, true, List, length, map, Option, None, Some, option_to_list}
use Rattle.wit_model.specs.declared.function.Function.{Function}
use Rattle.wit_model.specs.declared.types.TypeDef.{TypeDef}
use Rattle.rust_tree.specs.Tree.{Tree}
use Rattle.rust_tree.specs.declared.item.FnItem.{FnItem}
use Rattle.rust_tree.specs.declared.item.Item.{Item}
use Rattle.rust_tree.specs.declared.type_expr.TypeExpr.{TypeExpr}
use Rattle.wit_layout.specs.declared.signature.AbiVariant.TheVariants.{GuestImport}
use Rattle.wrapper_data.specs.declared.block.Block.{Block}
use Rattle.wrapper_data.specs.declared.run.Target.{Target}
use Rattle.wrapper_data.specs.declared.run.Target.TheVariants as target
use Rattle.wrapper_data.specs.declared.value.RustValue.{RustValue}
use Rattle.wrapper_data.specs.declared.value.RustValue.TheVariants as value
use Rattle.wrapper_meaning.specs.Direction.{take}
use Rattle.wrapper_meaning.specs.InRange.{IsListed}
use Rattle.wrapper_meaning.specs.Shape.{Shape, param_shapes, result_shape}
use Rattle.wrapper_meaning.specs.StandsFor.{Stands}
use Rattle.wrapper_meaning.specs.Value.{Value}
use Rattle.wrapper_values.specs.Effect.{rust_of}
use Rattle.wrapper_values.specs.Typed.{answer_in}
use Rattle.wrapper_values.specs.declared.state.Val.{Val}
use Rattle.wrapper_values.specs.declared.state.Val.TheVariants as val
use Rattle.wrapper_run.specs.Run.{import_at}
use Rattle.abi_driver.specs.WholeCalls.{CallsFunction}
use Rattle.func_gen.specs.Meaning.{Found, func_meaning}
use Rattle.func_gen.specs.TypeSites.{AreDefined}
use Rattle.func_gen.specs.PartForms.{are_operands}
use Rattle.func_gen.specs.Sites.{site_names}
use Rattle.func_gen.specs.declared.function_bindgen.FunctionBindgen.{FunctionBindgen}
use Rattle.func_gen.specs.declared.operand.ExprOperand.{ExprOperand}
use Rattle.func_gen.specs.Opened.{is_closed}
use Rattle.func_gen.specs.Still.{StillOf}
use Rattle.wrapper_closing.specs.Begun.{IsBegun}
use Rattle.wrapper_closing.specs.Direct.{are_direct, is_direct_result}
use Rattle.wrapper_closing.specs.PrintedAs.{ArePrintedLent}
use Rattle.wrapper_closing.specs.ImportBlock.{import_block}

-- what stands for a result of the type is one of the printed type, and stands for it then
abbrev pub AnswersAs : List Item → TypeExpr → Option Shape → Type 0
AnswersAs items ty None = answer_in items ty (val.Value value.Unit) ≡ Some None
AnswersAs items ty (Some t) =
    (u : Value t) (v : Val) (r : RustValue) (own : List Block) → IsListed t u → rust_of v ≡ Some r → Stands 2 take t u r own → (q : RustValue) × (answer_in items ty v ≡ Some (Some q)) × Stands 2 take t u q own

-- The wrapper of this number is an item whose block closes code that the driver made of the function
pub record ClosesImport (types : List TypeDef) (f : Function) (tree : Tree) (nth : ℕ) (old new : FunctionBindgen) : Type 0 where
  pub number : ℕ
  pub item : FnItem
  pub there : import_at tree nth ≡ Some (number, item)
  pub begun : IsBegun old
  pub import : old.import ≡ true
  pub still : StillOf old new
  pub calls : CallsFunction func_meaning types GuestImport f old new
  pub many : length old.params ≡ length f.params
  pub headless : new.code.call ≡ None
  pub closed : is_closed new.opened ≡ true
  pub given : List ExprOperand
  pub returned : new.returned ≡ Some given
  pub operands : are_operands given ≡ true
  pub count : length given ≡ length (option_to_list f.result)
  pub names : map (λ p. p.name) item.params ≡ site_names old.params
  pub body : item.body ≡ import_block old.area new given
  pub runtime : Found tree.items new.runtime
  pub sites : AreDefined tree.items old.sites
  pub answers : AnswersAs tree.items item.result (result_shape types f)
  pub printed : ArePrintedLent tree.items (param_shapes types f) item.params
  pub params : are_direct (param_shapes types f) ≡ true
  pub result : is_direct_result (result_shape types f) ≡ true

-- what it calls
abbrev pub import_target : FunctionBindgen → Function → Target
import_target b f = target.Core b.home f.name.wit
