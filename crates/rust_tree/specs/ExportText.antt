-- The text of the wrapper of an exported function, of what goes with it, and of the macros that export it.
use Rattle.std.specs.Prelude.{List, ◌++◌, Option, Some, None}
use Rattle.std.specs.List.{flat_map, join_by}
use Rattle.wit_model.specs.declared.wasm_type.WasmType.{WasmType}
use Rattle.rust_tree.specs.declared.area.StaticArea.{StaticArea}
use Rattle.rust_tree.specs.declared.export.CallBlock.{CallBlock}
use Rattle.rust_tree.specs.declared.export.CoreParam.{CoreParam}
use Rattle.rust_tree.specs.declared.export.ExportFn.{ExportFn}
use Rattle.rust_tree.specs.declared.export.PostReturnFn.{PostReturnFn}
use Rattle.rust_tree.specs.declared.macros.EntryKind.{EntryKind}
use Rattle.rust_tree.specs.declared.macros.EntryKind.TheVariants.{Wrapper, PostReturn}
use Rattle.rust_tree.specs.declared.macros.ExportEntry.{ExportEntry}
use Rattle.rust_tree.specs.declared.macros.ModuleMacro.{ModuleMacro}
use Rattle.rust_tree.specs.declared.macros.RootMacro.{RootMacro}
use Rattle.rust_tree.specs.declared.print.word.area.AreaWord.TheVariants as area
use Rattle.rust_tree.specs.declared.print.word.export.ExportWord.TheVariants.{WrapperFn, Bound, BoundEnd, BoundBlock, PlainBlock, Implementation, CallBlockEnd, PostReturnBound}
use Rattle.rust_tree.specs.declared.print.word.export.ExportWord.TheVariants as export
use Rattle.rust_tree.specs.declared.print.word.item.ItemWord.TheVariants.{OpenUnsafe}
use Rattle.rust_tree.specs.declared.print.word.macros.MacroWord.{MacroWord}
use Rattle.rust_tree.specs.declared.print.word.macros.MacroWord.TheVariants.{ModuleRules, ModuleArm, ExportName, ExternFn, CallWrapper, ForImplementation, CallWrapperEnd, ModuleUse, ModuleUseEnd, RootRules, RootArms, CallModule, CallModuleEnd, RootUse, RootUseEnd, ExternPostReturn, CallPostReturn, ForType}
use Rattle.rust_tree.specs.declared.print.word.sign.Sign.TheVariants.{CloseBlock, Open, Close, Comma, Colon, Let}
use Rattle.rust_tree.specs.CodeText.{area_type_text, area_value_text, arguments_text, block_text, core_result_text, core_type_text, stmt_text}
use Rattle.wit_model.specs.Bytes.{Bytes}
use Rattle.rust_tree.specs.Word.{area_word, export_word, item_word, macro_word, sign}

-- core parameters with names

-- `name: T`
abbrev pub named_param_text : CoreParam → Bytes
named_param_text p = p.name ++ sign Colon ++ core_type_text p.ty

-- `(name: T, name: T) -> T`
abbrev pub named_signature_text : List CoreParam → Option WasmType → Bytes
named_signature_text params ty = sign Open ++ join_by named_param_text (sign Comma) params ++ sign Close ++ core_result_text ty

-- `name, name`
abbrev pub names_text : List CoreParam → Bytes
names_text params = join_by (λ p. p.name) (sign Comma) params

-- the wrapper

-- the attributes, the name, the implementation's trait, and the core signature
unfoldable pub export_head_text : ExportFn → Bytes
export_head_text f =
    export_word WrapperFn ++ f.base ++ export_word Bound ++ f.bound ++ export_word BoundEnd ++ named_signature_text f.params f.result ++ item_word OpenUnsafe

-- `let x = {`, or `{`
abbrev pub call_head_text : Option Bytes → Bytes
call_head_text None = export_word PlainBlock
call_head_text (Some name) = sign Let ++ name ++ export_word BoundBlock

-- `T_::method(e, e)`
abbrev pub method_call_text : CallBlock → Bytes
method_call_text c = export_word Implementation ++ c.method ++ arguments_text c.arguments

-- the block that calls the implementation
unfoldable pub call_block_text : CallBlock → Bytes
call_block_text c = call_head_text c.result ++ flat_map stmt_text c.stmts ++ method_call_text c ++ export_word CallBlockEnd

abbrev pub export_text : ExportFn → Bytes
export_text f = export_head_text f ++ call_block_text f.call ++ block_text f.rest ++ sign CloseBlock ++ sign CloseBlock

-- what goes with the wrapper

-- the attributes, the name, the implementation's trait, and the core parameters
unfoldable pub post_return_head_text : PostReturnFn → Bytes
post_return_head_text f =
    export_word export.PostReturnFn ++ f.base ++ export_word PostReturnBound ++ f.bound ++ export_word BoundEnd ++ named_signature_text f.params None ++ item_word OpenUnsafe

-- the post-return function
abbrev pub post_return_text : PostReturnFn → Bytes
post_return_text f = post_return_head_text f ++ block_text f.body ++ sign CloseBlock ++ sign CloseBlock

-- the type, and the static that is the area
abbrev pub static_area_text : StaticArea → Bytes
static_area_text a = area_type_text a.size a.align ++ area_word area.StaticArea ++ area_value_text a.size

-- the macros

-- what stands before the base name of an exported function, by what it calls
abbrev pub extern_word : EntryKind → MacroWord
extern_word Wrapper = ExternFn
extern_word PostReturn = ExternPostReturn

-- what stands before the base name of the function that it calls
abbrev pub call_word : EntryKind → MacroWord
call_word Wrapper = CallWrapper
call_word PostReturn = CallPostReturn

-- what stands behind that name, with the implementation
abbrev pub for_type_word : EntryKind → MacroWord
for_type_word Wrapper = ForImplementation
for_type_word PostReturn = ForType

-- the exported function: its export name, its name and its core signature
abbrev pub entry_head_text : ExportEntry → Bytes
entry_head_text e = macro_word ExportName ++ e.export_name ++ macro_word (extern_word e.kind) ++ e.base ++ named_signature_text e.params e.result

-- its body, the call of the wrapper or of the post-return function
abbrev pub entry_body_text : ExportEntry → Bytes
entry_body_text e = macro_word (call_word e.kind) ++ e.base ++ macro_word (for_type_word e.kind) ++ names_text e.params ++ macro_word CallWrapperEnd

abbrev pub entry_text : ExportEntry → Bytes
entry_text e = entry_head_text e ++ entry_body_text e

abbrev pub module_macro_text : ModuleMacro → Bytes
module_macro_text m =
    macro_word ModuleRules ++ m.name ++ macro_word ModuleArm ++ flat_map entry_text m.entries ++ macro_word ModuleUse ++ m.name ++ macro_word ModuleUseEnd

-- the call of the macro of a module with this name
abbrev pub module_call_text : Bytes → Bytes
module_call_text name = macro_word CallModule ++ name ++ macro_word CallModuleEnd

abbrev pub root_macro_text : RootMacro → Bytes
root_macro_text m =
    macro_word RootRules ++ m.world ++ macro_word RootArms ++ flat_map module_call_text m.modules ++ macro_word RootUse ++ m.world ++ macro_word RootUseEnd
