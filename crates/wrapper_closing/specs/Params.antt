-- The parameters of wrappers: which core parameters an export has, and what denotes a parameter in code.
use Rattle.std.specs.Prelude.{ℕ, ◌+◌, List, [], ◌∷◌, ◌++◌, codes, decimal, map}
use Rattle.wit_model.specs.Bytes.{Bytes}
use Rattle.wit_model.specs.declared.wasm_type.WasmType.{WasmType}
use Rattle.rust_tree.specs.declared.export.CoreParam.{CoreParam}
use Rattle.rust_tree.specs.declared.expr.Expr.TheVariants as expr
use Rattle.wit_layout.specs.declared.signature.AbiVariant.TheVariants.{GuestExport}
use Rattle.wit_layout.specs.Signature.{core_params, core_results}
use Rattle.wrapper_meaning.specs.Represents.{param_words, result_words}
use Rattle.wrapper_faithful.specs.Passed.{Passed}
use Rattle.func_gen.specs.declared.function_bindgen.ParamSite.{ParamSite}
use Rattle.func_gen.specs.Forms.{operand_of}

unfoldable pub arg_prefix : Bytes
arg_prefix = codes "arg"

abbrev pub arg_name : ℕ → Bytes
arg_name n = arg_prefix ++ decimal n

-- core parameters that are numbered from n
abbrev pub core_args : ℕ → List WasmType → List CoreParam
core_args n [] = []
core_args n (ty ∷ types) = record { name = arg_name n; ty = ty } ∷ core_args (n + 1) types

-- the core types of an export's parameters, and of its result
abbrev pub param_types : Passed → List WasmType
param_types p = core_params GuestExport (param_words p.params) (result_words p.result)

abbrev pub result_types : Passed → List WasmType
result_types p = core_results GuestExport (result_words p.result)

-- the core parameters of an export's wrapper, and of its post-return function, which is given what the wrapper returned
abbrev pub export_args : Passed → List CoreParam
export_args p = core_args 0 (param_types p)

abbrev pub return_args : Passed → List CoreParam
return_args p = core_args 0 (result_types p)

abbrev pub arg_names : List CoreParam → List Bytes
arg_names args = map (λ a. a.name) args

abbrev pub arg_types : List CoreParam → List WasmType
arg_types args = map (λ a. a.ty) args

-- the local that holds a return area, where no parameter has its name
unfoldable pub ret_area : Bytes
ret_area = codes "ret_area"

-- the local that holds the lists to be freed, where no parameter has its name
unfoldable pub cleanup_list : Bytes
cleanup_list = codes "cleanup_list"

-- a parameter that is denoted by its name
abbrev pub local_site : Bytes → ParamSite
local_site name = record { operand = operand_of (expr.Local name); name = name }

abbrev pub local_sites : List Bytes → List ParamSite
local_sites names = map local_site names
