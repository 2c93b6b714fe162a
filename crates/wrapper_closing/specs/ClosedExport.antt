-- When an item of a file closes the code of an exported function.
use Rattle.std.specs.Prelude.{◌≡◌, ℕ, true, false, List, Contains, length, map, Option, Some}
use Rattle.std.specs.List.{AllByRecursion, flat_map}
use Rattle.wit_model.specs.Bytes.{Bytes}
use Rattle.wit_model.specs.declared.function.Function.{Function}
use Rattle.wit_model.specs.declared.types.TypeDef.{TypeDef}
use Rattle.rust_tree.specs.Ident.{rust_ident}
use Rattle.rust_tree.specs.Tree.{Tree}
use Rattle.rust_tree.specs.declared.export.ExportFn.{ExportFn}
use Rattle.wit_layout.specs.declared.signature.AbiVariant.TheVariants.{GuestExport}
use Rattle.wit_layout.specs.Signature.{core_results}
use Rattle.wrapper_data.specs.declared.run.Target.TheVariants as target
use Rattle.wrapper_meaning.specs.Areas.{result_record}
use Rattle.wrapper_meaning.specs.Represents.{result_words}
use Rattle.wrapper_meaning.specs.Shape.{Shape, param_shapes, result_shape}
use Rattle.wrapper_run.specs.Code.{code_of}
use Rattle.wrapper_run.specs.Entries.{ExportNames, IsExported}
use Rattle.wrapper_run.specs.ExportRun.{export_at}
use Rattle.wrapper_run.specs.Places.{area_in}
use Rattle.wrapper_faithful.specs.Export.{HasCoreSignature}
use Rattle.wrapper_faithful.specs.Passed.{passed}
use Rattle.wrapper_faithful.specs.Returned.{Returns}
use Rattle.abi_bindgen.specs.declared.bindgen.Asked.{Asked}
use Rattle.abi_bindgen.specs.Area.{AreFor}
use Rattle.abi_bindgen.specs.Calls.{PassesAsItIs, coming}
use Rattle.abi_driver.specs.Exports.{export_params}
use Rattle.abi_driver.specs.Imports.{ResultStands}
use Rattle.abi_driver.specs.WholeCalls.{CallsFunction}
use Rattle.func_gen.specs.Meaning.{File, Found, GivesAsCalled, func_meaning, static_request}
use Rattle.func_gen.specs.PartForms.{are_operands}
use Rattle.func_gen.specs.TypeSites.{AreDefined}
use Rattle.func_gen.specs.Sites.{site_names}
use Rattle.func_gen.specs.declared.function_bindgen.FunctionBindgen.{FunctionBindgen}
use Rattle.func_gen.specs.declared.operand.ExprOperand.{ExprOperand}
use Rattle.func_gen.specs.Opened.{is_closed}
use Rattle.wrapper_data.specs.declared.block.Block.{Block as HeapBlock}
use Rattle.wrapper_data.specs.declared.value.RustValue.{RustValue}
use Rattle.wrapper_meaning.specs.Direction.{give}
use Rattle.wrapper_meaning.specs.Settled.{IsResult}
use Rattle.wrapper_meaning.specs.StandsFor as rust
use Rattle.wrapper_meaning.specs.Value.{Result}
use Rattle.func_gen.specs.Still.{StillOf}
use Rattle.wrapper_closing.specs.Begun.{IsBegun}
use Rattle.wrapper_closing.specs.Direct.{are_direct, is_direct_result}
use Rattle.wrapper_closing.specs.ImportBlock.{tail_of, wanted}
use Rattle.wrapper_closing.specs.Declares.{Area, declare_none}

-- the file, with its static area, and the trait of the methods
abbrev pub export_file : Tree → ℕ → Bytes → File
export_file tree number bound = record { items = tree.items; item = number; bound = bound; area = static_request (area_in tree.items) }

-- what stands for a result comes in of a method's answer, and stands for it then
pub record ComesIn (w : File) (b : FunctionBindgen) (f : Function) (r : Option Shape) (v : Result r) (answer : Option RustValue) (own : List HeapBlock) : Type 0 where
  pub vals : List RustValue
  pub comes : coming (func_meaning.crosses w b f).receives answer ≡ Some vals
  pub stands : ResultStands func_meaning give r v vals own

abbrev pub AnswersComeIn : File → FunctionBindgen → Function → Option Shape → Type 0
AnswersComeIn w b f r = (v : Result r) (answer : Option RustValue) (own : List HeapBlock) → IsResult r v → rust.ResultStands 2 r v answer own → ComesIn w b f r v answer own

-- the static area of the file is the greatest of what its exported functions asked for
pub record SharesArea (results : List (Option Shape)) (r : Option Shape) (tree : Tree) : Type 0 where
  pub shares : Contains results r
  pub asked : List Asked
  pub for : AreFor (flat_map result_record results) asked
  pub area : static_request (area_in tree.items) ≡ wanted asked
  pub direct : AllByRecursion (λ r. is_direct_result r ≡ true) results

-- The wrapper of this number is an item that closes code which the driver made of the function: its call block, and behind it the other
-- statements and the words that are given
pub record ClosesExport (types : List TypeDef) (f : Function) (names : ExportNames) (results : List (Option Shape)) (tree : Tree) (nth : ℕ) (old new : FunctionBindgen) : Type 0 where
  pub number : ℕ
  pub item : ExportFn
  pub there : export_at tree nth ≡ Some (number, item)
  pub begun : IsBegun old
  pub export : old.import ≡ false
  pub still : StillOf old new
  pub calls : CallsFunction func_meaning types GuestExport f old new
  pub many : length old.params ≡ length (export_params types f)
  pub head : new.code.call ≡ Some item.call
  pub closed : is_closed new.opened ≡ true
  pub bound : item.bound ≡ old.home
  pub given : List ExprOperand
  pub returned : new.returned ≡ Some given
  pub operands : are_operands given ≡ true
  pub count : length given ≡ length (core_results GuestExport (result_words (result_shape types f)))
  pub params : map (λ p. p.name) item.params ≡ site_names old.params
  pub signature : HasCoreSignature (passed types f) item
  pub body : item.rest ≡ code_of new.code.stmts (tail_of given)
  pub plain_call : declare_none Area item.call.stmts ≡ true
  pub plain_rest : declare_none Area new.code.stmts ≡ true
  pub runtime : Found tree.items new.runtime
  pub sites : AreDefined tree.items old.sites
  pub called : GivesAsCalled tree.items old.home (Some item.call)
  pub area : SharesArea results (result_shape types f) tree
  pub passes : PassesAsItIs func_meaning (export_file tree number old.home) old f (param_shapes types f)
  pub answers : AnswersComeIn (export_file tree number old.home) old f (result_shape types f)
  pub direct : are_direct (param_shapes types f) ≡ true
  pub method : names.method ≡ target.Method old.home (rust_ident f.name)
  pub exported : IsExported tree names.entry item
  pub post_return : Returns names.post_return tree nth (passed types f)
