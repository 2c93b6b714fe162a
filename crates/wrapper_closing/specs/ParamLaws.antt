-- Laws: what the core parameters of an export and of its post-return function are.
use Rattle.std.specs.Prelude.{◌≡◌, true, [], ◌∷◌, option_to_list}
use Rattle.rust_tree.specs.declared.export.ExportFn.{ExportFn}
use Rattle.wit_model.specs.declared.wasm_type.WasmType.TheVariants.{Pointer}
use Rattle.wrapper_meaning.specs.Represents.{is_indirect}
use Rattle.wrapper_faithful.specs.Export.{HasCoreSignature}
use Rattle.wrapper_faithful.specs.Passed.{Passed}
use Rattle.wrapper_closing.specs.Params.{arg_name, export_args, result_types, return_args}

-- an export with these parameters and a result of these types has the core signature of its function
abbrev pub ArgsMakeSignature : Type 0
ArgsMakeSignature = (p : Passed) (e : ExportFn) → e.params ≡ export_args p → option_to_list e.result ≡ result_types p → HasCoreSignature p e

-- where the result passes by an area, the post-return function is given one pointer
abbrev pub AreaIsReturned : Type 0
AreaIsReturned = (p : Passed) → is_indirect p.result ≡ true → return_args p ≡ record { name = arg_name 0; ty = Pointer } ∷ []
