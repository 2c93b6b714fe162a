-- How wrappers look from outside: that of an imported function has its signature and declares one core import; that of an
-- exported function has its core signature and calls one method.
use Rattle.std.specs.Prelude.{◌≡◌, Bool, true, false, List, [], ◌∷◌, Option, None, Some, codes, is_some, map, option_to_list, slice_get}
use Rattle.wit_model.specs.Bytes.{Bytes}
use Rattle.wit_model.specs.declared.function.Function.{Function}
use Rattle.wit_model.specs.declared.function.Param.{Param}
use Rattle.wit_model.specs.declared.types.TypeDef.{TypeDef}
use Rattle.wit_model.specs.declared.wasm_type.WasmType.{WasmType}
use Rattle.rust_tree.specs.declared.export.ExportFn.{ExportFn}
use Rattle.rust_tree.specs.declared.export.PostReturnFn.{PostReturnFn}
use Rattle.rust_tree.specs.declared.item.FnItem.{FnItem}
use Rattle.rust_tree.specs.declared.item.FnParam.{FnParam}
use Rattle.rust_tree.specs.Ident.{rust_ident}
use Rattle.gen_accept.specs.Area.{needs_return}
use Rattle.type_defs.specs.Docs.{doc_lines}
use Rattle.type_defs.specs.ParamType.{param_type}
use Rattle.wrapper_faithful.specs.Passed.{passed}
use Rattle.wrapper_meaning.specs.Areas.{result_record}
use Rattle.wrapper_meaning.specs.Shape.{result_shape}
use Rattle.abi_bindgen.specs.Area.{AreFor}
use Rattle.abi_bindgen.specs.declared.bindgen.Asked.{Asked}
use Rattle.wrapper_closing.specs.Declares.{DeclaresOne}
use Rattle.wrapper_closing.specs.Params.{export_args, result_types, return_args}
use Rattle.type_defs.specs.PartType.{printed_result}

-- a parameter is lent where its type reaches a text
abbrev pub printed_param : List TypeDef → Param → FnParam
printed_param types p = record { name = rust_ident p.name; ty = param_type types p.ty }

-- the module of the core imports of a world's own functions
unfoldable pub root_module : Bytes
root_module = codes "$root"

pub record Wraps (types : List TypeDef) (f : Function) (item : FnItem) : Type 0 where
  pub docs : item.docs ≡ doc_lines f.docs
  pub name : item.name ≡ rust_ident f.name
  pub params : item.params ≡ map (printed_param types) f.params
  pub answer : item.result ≡ printed_result types f.result
  pub declares : DeclaresOne types root_module f item.body.stmts

-- the core result of an export, if it has one
abbrev pub export_result : List TypeDef → Function → Option WasmType
export_result types f = slice_get (result_types (passed types f)) 0

-- its call block keeps a value where the function has one
pub record WrapsExport (types : List TypeDef) (f : Function) (e : ExportFn) : Type 0 where
  pub base : e.base ≡ f.name.snake
  pub bound : e.bound ≡ codes "Guest"
  pub params : e.params ≡ export_args (passed types f)
  pub answer : e.result ≡ export_result types f
  pub calls : e.call.method ≡ rust_ident f.name
  pub keeps : is_some e.call.result ≡ is_some f.result

pub record WrapsReturn (types : List TypeDef) (f : Function) (p : PostReturnFn) : Type 0 where
  pub base : p.base ≡ f.name.snake
  pub bound : p.bound ≡ codes "Guest"
  pub params : p.params ≡ return_args (passed types f)

-- a post-return function stands where the result may hold a text
abbrev pub HasReturn : List TypeDef → Bool → Function → Option PostReturnFn → Type 0
HasReturn types true f p = (q : PostReturnFn) × (p ≡ Some q) × WrapsReturn types f q
HasReturn types false f p = p ≡ None

-- and the area that is needed is that of the result
abbrev pub WrapsParts : List TypeDef → Function → ExportFn × Option PostReturnFn × Option Asked → Type 0
WrapsParts types f parts =
    WrapsExport types f parts.0 × HasReturn types (needs_return types f) f parts.1 × AreFor (result_record (result_shape types f)) (option_to_list parts.2)
