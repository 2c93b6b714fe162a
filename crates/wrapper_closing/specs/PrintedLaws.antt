-- Laws: where a file prints types as the shapes of a function, values pass into and out of its wrappers as they should.
use Rattle.std.specs.Prelude.{◌≡◌, List, Option, Some}
use Rattle.wit_model.specs.declared.function.Function.{Function}
use Rattle.rust_tree.specs.declared.item.Item.{Item}
use Rattle.rust_tree.specs.declared.trait_item.TraitFn.{TraitFn}
use Rattle.rust_tree.specs.declared.type_expr.TypeExpr.{TypeExpr}
use Rattle.wrapper_data.specs.declared.block.Block.{Block}
use Rattle.wrapper_data.specs.declared.value.RustValue.{RustValue}
use Rattle.wrapper_meaning.specs.Direction.{give, take}
use Rattle.wrapper_meaning.specs.InRange.{IsListed}
use Rattle.wrapper_meaning.specs.Shape.{Shape, Shapes}
use Rattle.wrapper_meaning.specs.StandsFor.{Stands}
use Rattle.wrapper_meaning.specs.Value.{Value}
use Rattle.wrapper_values.specs.Effect.{rust_of}
use Rattle.wrapper_values.specs.Typed.{answer_in, typed}
use Rattle.wrapper_values.specs.declared.state.Val.{Val}
use Rattle.abi_bindgen.specs.Calls.{PassesAsItIs}
use Rattle.func_gen.specs.Meaning.{File, IsNormal, StandsAsItIs, func_meaning, method}
use Rattle.func_gen.specs.declared.function_bindgen.FunctionBindgen.{FunctionBindgen}
use Rattle.wrapper_closing.specs.ClosedExport.{AnswersComeIn}
use Rattle.wrapper_closing.specs.ClosedImport.{AnswersAs}
use Rattle.wrapper_closing.specs.PrintedAs.{ArePrintedParams, IsPrintedAs, IsPrintedResult}

-- The machine takes what stands for a value for one of the printed type that stands for it too, owns the same, and is passed as it is. That
-- is the same one, where it has the flags of an owner
pub record IsTakenAs (items : List Item) (t : Shape) (v : Value t) (r : RustValue) (own : List Block) (ty : TypeExpr) : Type 0 where
  pub value : RustValue
  pub typed : typed items r ty ≡ Some value
  pub stands : Stands 2 take t v value own
  pub given : StandsAsItIs give t v value own
  pub same : IsNormal take r → value ≡ r
  -- also where a word is the value
  pub answered : (x : Val) → rust_of x ≡ Some r → answer_in items ty x ≡ Some (Some value)

abbrev pub PrintedValuesAreTaken : Type 0
PrintedValuesAreTaken = (items : List Item) (t : Shape) (ty : TypeExpr) → IsPrintedAs items t ty → (v : Value t) (r : RustValue) (own : List Block) → IsListed t v → Stands 2 take t v r own → IsTakenAs items t v r own ty

-- hence what an import gives is of its result type
abbrev pub PrintedResultsAnswer : Type 0
PrintedResultsAnswer = (items : List Item) (r : Option Shape) (ty : TypeExpr) → IsPrintedResult items r ty → AnswersAs items ty r

-- what an export passes to its method is of the types of the parameters
abbrev pub PrintedParamsPass : Type 0
PrintedParamsPass = (w : File) (b : FunctionBindgen) (f : Function) (ts : Shapes) (m : TraitFn) → method w f ≡ Some m → ArePrintedParams w.items ts m.params → PassesAsItIs func_meaning w b f ts

-- and what the method answers comes in as one of its result type
abbrev pub PrintedResultsComeIn : Type 0
PrintedResultsComeIn = (w : File) (b : FunctionBindgen) (f : Function) (r : Option Shape) (m : TraitFn) → method w f ≡ Some m → IsPrintedResult w.items r m.result → AnswersComeIn w b f r
