-- How wrappers are written: as they look from outside, with the bodies that the driver's code for their functions is.
use Rattle.std.specs.Borrow.{Bor}
use Rattle.std.specs.Prelude.{◌≡◌, Bool, true, false, List, Option, None, Some, is_some, map}
use Rattle.wit_model.specs.Bytes.{Bytes}
use Rattle.wit_model.specs.declared.function.Function.{Function}
use Rattle.wit_model.specs.declared.function.Param.{Param}
use Rattle.wit_model.specs.declared.types.TypeDef.{TypeDef}
use Rattle.wit_model.specs.declared.types.WitType.{WitType}
use Rattle.wit_model.specs.declared.types.WitType.TheVariants as wit
use Rattle.rust_tree.specs.declared.export.CallBlock.{CallBlock}
use Rattle.rust_tree.specs.declared.export.CoreParam.{CoreParam}
use Rattle.rust_tree.specs.declared.export.ExportFn.{ExportFn}
use Rattle.rust_tree.specs.declared.export.PostReturnFn.{PostReturnFn}
use Rattle.rust_tree.specs.declared.expr.Expr.{Expr}
use Rattle.rust_tree.specs.declared.expr.Expr.TheVariants as expr
use Rattle.rust_tree.specs.declared.item.FnItem.{FnItem}
use Rattle.rust_tree.specs.declared.runtime_item.RuntimeItem.{RuntimeItem}
use Rattle.rust_tree.specs.declared.stmt.Block.{Block}
use Rattle.rust_tree.specs.Ident.{rust_ident}
use Rattle.gen_accept.specs.Area.{needs_return}
use Rattle.gen_accept.specs.DeclaredNames.{guest_name, param_idents}
use Rattle.type_defs.specs.Docs.{doc_lines}
use Rattle.wrapper_run.specs.Code.{code_of}
use Rattle.wrapper_faithful.specs.Passed.{passed}
use Rattle.abi_bindgen.specs.declared.bindgen.Asked.{Asked}
use Rattle.func_gen.specs.declared.body.Body.{Body}
use Rattle.func_gen.specs.declared.function_bindgen.ParamSite.{ParamSite}
use Rattle.func_gen.specs.declared.type_site.TypeSite.{TypeSite}
use Rattle.wrapper_closing.specs.Bodies.{MakesExport, MakesImport, MakesPostReturn}
use Rattle.wrapper_closing.specs.ImportBlock.{block_of}
use Rattle.wrapper_closing.specs.Params.{arg_names, cleanup_list, export_args, local_sites, ret_area, return_args}
use Rattle.wrapper_closing.specs.Parts.{AreParts}
use Rattle.wrapper_closing.specs.declared.parts.BodyParts.{BodyParts}
use Rattle.rust_gen.specs.FixedName.{IsFixedName}
use Rattle.type_defs.specs.PartType.{printed_result}
use Rattle.rust_gen.specs.Wrapper.{export_result, printed_param, root_module}
use Rattle.rust_gen.specs.declared.export.ExportCode.{ExportCode}
use Rattle.rust_gen.specs.declared.export.ExportMade.{ExportMade}
use Rattle.rust_gen.specs.declared.import.ImportHead.{ImportHead}
use Rattle.func_gen.specs.Forms.{operand_of}

-- 1. Of what bodies are made

-- a text and a type of the table are denoted by their name, and any other parameter of an import by a reference
abbrev pub site_expr : WitType → Bytes → Expr
site_expr wit.String name = expr.Local name
site_expr (wit.Id _) name = expr.Local name
site_expr _ name = expr.Ref name

abbrev pub import_site : Param → ParamSite
import_site p = record { operand = operand_of (site_expr p.ty (rust_ident p.name)); name = rust_ident p.name }

-- calls go to the root's module, and the area and the list of cleanups have their fixed names
pub record AreImportParts (types : List TypeDef) (sites : List (Option TypeSite)) (f : Function) (parts : BodyParts) : Type 0 where
  pub are : AreParts types parts
  pub home : parts.home ≡ root_module
  pub area : IsFixedName (param_idents f) ret_area parts.area
  pub cleanup : IsFixedName (param_idents f) cleanup_list parts.cleanup
  pub params : parts.params ≡ map import_site f.params
  pub written : parts.tables.now.sites ≡ sites

-- the wrapper of an export has core parameters, which are denoted by their names, calls go to the trait of the world's own functions, and
-- the list of cleanups has its fixed name, which no core parameter has
pub record AreExportParts (types : List TypeDef) (sites : List (Option TypeSite)) (args : List CoreParam) (parts : BodyParts) : Type 0 where
  pub are : AreParts types parts
  pub home : parts.home ≡ guest_name
  pub area : parts.area ≡ ret_area
  pub cleanup : parts.cleanup ≡ cleanup_list
  pub params : parts.params ≡ local_sites (arg_names args)
  pub written : parts.tables.now.sites ≡ sites

-- 2. What each item is

-- the block of an import's body, and what that asks for of `_rt`
pub record IsImportCode (types : List TypeDef) (sites : List (Option TypeSite)) (func : Bor Function) (block : Block) (runtime : List RuntimeItem) : Type 0 where
  pub parts : BodyParts
  pub made_of : AreImportParts types sites func.now parts
  pub body : Body
  pub makes : MakesImport types func parts body
  pub is : block ≡ block_of parts.area body
  pub asks : runtime ≡ body.runtime

-- the wrapper of an import as it looks from outside, without its body
pub record IsImportHead (types : List TypeDef) (f : Function) (head : ImportHead) : Type 0 where
  pub docs : head.docs ≡ doc_lines f.docs
  pub name : head.name ≡ rust_ident f.name
  pub params : head.params ≡ map (printed_param types) f.params
  pub answer : head.result ≡ printed_result types f.result

-- with this body
pub record IsImportOutside (types : List TypeDef) (f : Function) (body : Block) (wrapper : FnItem) : Type 0 where
  pub docs : wrapper.docs ≡ doc_lines f.docs
  pub name : wrapper.name ≡ rust_ident f.name
  pub params : wrapper.params ≡ map (printed_param types) f.params
  pub answer : wrapper.result ≡ printed_result types f.result
  pub block : wrapper.body ≡ body

pub record IsImportMade (types : List TypeDef) (sites : List (Option TypeSite)) (f : Function) (wrapper : FnItem) (runtime : List RuntimeItem) : Type 0 where
  pub func : Bor Function
  pub of : func.now ≡ f
  pub code : IsImportCode types sites func wrapper.body runtime
  pub outside : IsImportOutside types f wrapper.body wrapper

pub record IsWritten (types : List TypeDef) (sites : List (Option TypeSite)) (f : Function) (wrapper : FnItem) : Type 0 where
  pub runtime : List RuntimeItem
  pub made : IsImportMade types sites f wrapper runtime

-- the call block of a body, what stands behind it, the area that they need, and what they ask for of `_rt`
pub record IsCodeOf (body : Body) (code : ExportCode) : Type 0 where
  pub call : body.call ≡ Some code.call
  pub rest : code.rest ≡ code_of body.stmts body.tail
  pub area : code.area ≡ body.area
  pub asks : code.runtime ≡ body.runtime

-- that of an export
pub record IsExportCode (types : List TypeDef) (sites : List (Option TypeSite)) (func : Bor Function) (code : ExportCode) : Type 0 where
  pub parts : BodyParts
  pub made_of : AreExportParts types sites (export_args (passed types func.now)) parts
  pub body : Body
  pub makes : MakesExport types func parts body
  pub is : IsCodeOf body code

-- a block calls the method of a function, and keeps a value where the function has one
pub record CallsMethodOf (f : Function) (call : CallBlock) : Type 0 where
  pub calls : call.method ≡ rust_ident f.name
  pub keeps : is_some call.result ≡ is_some f.result

pub record IsExportOutside (types : List TypeDef) (f : Function) (call : CallBlock) (rest : Block) (wrapper : ExportFn) : Type 0 where
  pub base : wrapper.base ≡ f.name.snake
  pub bound : wrapper.bound ≡ guest_name
  pub params : wrapper.params ≡ export_args (passed types f)
  pub answer : wrapper.result ≡ export_result types f
  pub head : wrapper.call ≡ call
  pub behind : wrapper.rest ≡ rest

pub record IsExportMade (types : List TypeDef) (sites : List (Option TypeSite)) (f : Function) (made : ExportMade) : Type 0 where
  pub func : Bor Function
  pub of : func.now ≡ f
  pub code : IsExportCode types sites func (record { call = made.wrapper.call; rest = made.wrapper.rest; area = made.area; runtime = made.runtime })
  pub outside : IsExportOutside types f made.wrapper.call made.wrapper.rest made.wrapper
  pub calls : CallsMethodOf f made.wrapper.call

pub record IsExportWritten (types : List TypeDef) (sites : List (Option TypeSite)) (f : Function) (wrapper : ExportFn) (area : Option Asked) : Type 0 where
  pub runtime : List RuntimeItem
  pub made : IsExportMade types sites f (record { wrapper = wrapper; area = area; runtime = runtime })

-- the same of a post-return function, which has no call block and needs no area
pub record IsReturnCode (types : List TypeDef) (sites : List (Option TypeSite)) (f : Function) (block : Block) (runtime : List RuntimeItem) : Type 0 where
  pub parts : BodyParts
  pub made_of : AreExportParts types sites (return_args (passed types f)) parts
  pub body : Body
  pub makes : MakesPostReturn types f parts body
  pub is : block ≡ code_of body.stmts body.tail
  pub asks : runtime ≡ body.runtime

pub record IsReturnOutside (types : List TypeDef) (f : Function) (body : Block) (function : PostReturnFn) : Type 0 where
  pub base : function.base ≡ f.name.snake
  pub bound : function.bound ≡ guest_name
  pub params : function.params ≡ return_args (passed types f)
  pub block : function.body ≡ body

pub record IsReturnMade (types : List TypeDef) (sites : List (Option TypeSite)) (f : Function) (function : PostReturnFn) (runtime : List RuntimeItem) : Type 0 where
  pub code : IsReturnCode types sites f function.body runtime
  pub outside : IsReturnOutside types f function.body function

pub record IsReturnWritten (types : List TypeDef) (sites : List (Option TypeSite)) (f : Function) (function : PostReturnFn) : Type 0 where
  pub runtime : List RuntimeItem
  pub made : IsReturnMade types sites f function runtime

-- an export's wrapper, its post-return function where its result may hold a text, and the area that it needs

abbrev pub ReturnWritten : List TypeDef → List (Option TypeSite) → Bool → Function → Option PostReturnFn → Type 0
ReturnWritten types sites true f p = (q : PostReturnFn) × (p ≡ Some q) × IsReturnWritten types sites f q
ReturnWritten types sites false f p = p ≡ None

abbrev pub ArePartsWritten : List TypeDef → List (Option TypeSite) → Function → ExportFn × Option PostReturnFn × Option Asked → Type 0
ArePartsWritten types sites f parts = IsExportWritten types sites f parts.0 parts.2 × ReturnWritten types sites (needs_return types f) f parts.1
