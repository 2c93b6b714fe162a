-- The text of a file: its head and its items.
use Rattle.std.specs.Prelude.{List, ◌++◌}
use Rattle.std.specs.List.{flat_map, join_by}
use Rattle.rust_tree.specs.declared.item.FnItem.{FnItem}
use Rattle.rust_tree.specs.declared.item.FnParam.{FnParam}
use Rattle.rust_tree.specs.declared.item.Item.{Item}
use Rattle.rust_tree.specs.declared.item.Item.TheVariants as item
use Rattle.rust_tree.specs.declared.runtime_item.RuntimeItem.{RuntimeItem}
use Rattle.rust_tree.specs.declared.trait_item.TraitFn.{TraitFn}
use Rattle.rust_tree.specs.declared.trait_item.TraitItem.{TraitItem}
use Rattle.rust_tree.specs.declared.type_expr.TypeExpr.{TypeExpr}
use Rattle.rust_tree.specs.declared.print.word.item.ItemWord.TheVariants.{Preamble, PublicFn, OpenUnsafe, PublicTrait, Method}
use Rattle.rust_tree.specs.declared.print.word.runtime.RuntimeWord.TheVariants.{RuntimeModule}
use Rattle.rust_tree.specs.declared.print.word.sign.Sign.TheVariants.{LineEnd, StatementEnd, OpenBlock, CloseBlock, Open, Close, Comma, Colon, Arrow}
use Rattle.rust_tree.specs.CodeText.{block_text, doc_text, type_text}
use Rattle.rust_tree.specs.DefinitionText.{type_item_text}
use Rattle.rust_tree.specs.ExportText.{export_text, module_macro_text, post_return_text, root_macro_text, static_area_text}
use Rattle.rust_tree.specs.RuntimeText.{runtime_item_text}
use Rattle.rust_tree.specs.Tree.{Tree}
use Rattle.wit_model.specs.Bytes.{Bytes}
use Rattle.rust_tree.specs.Word.{item_word, runtime_word, sign}

-- `name: T`
abbrev pub param_text : FnParam → Bytes
param_text p = p.name ++ sign Colon ++ type_text p.ty

-- `f(name: T, name: T) -> T`
abbrev pub signature_text : Bytes → List FnParam → TypeExpr → Bytes
signature_text name params ty = name ++ sign Open ++ join_by param_text (sign Comma) params ++ sign Close ++ sign Arrow ++ type_text ty

-- a public function
abbrev pub fn_text : FnItem → Bytes
fn_text f =
    flat_map doc_text f.docs ++ item_word PublicFn ++ signature_text f.name f.params f.result ++ item_word OpenUnsafe ++ block_text f.body ++ sign CloseBlock ++ sign CloseBlock

-- a function of a trait
abbrev pub trait_fn_text : TraitFn → Bytes
trait_fn_text f = flat_map doc_text f.docs ++ item_word Method ++ signature_text f.name f.params f.result ++ sign StatementEnd

abbrev pub trait_text : TraitItem → Bytes
trait_text t = item_word PublicTrait ++ t.name ++ sign OpenBlock ++ flat_map trait_fn_text t.functions ++ sign CloseBlock

-- the module `_rt`
abbrev pub runtime_text : List RuntimeItem → Bytes
runtime_text items = runtime_word RuntimeModule ++ flat_map runtime_item_text items ++ sign CloseBlock

abbrev pub item_text : Item → Bytes
item_text (item.Import f) = fn_text f
item_text (item.Export f) = export_text f
item_text (item.Trait t) = trait_text t
item_text (item.ModuleMacro m) = module_macro_text m
item_text (item.Runtime items) = runtime_text items
item_text (item.RootMacro m) = root_macro_text m
item_text (item.PostReturn f) = post_return_text f
item_text (item.Area a) = static_area_text a
item_text (item.Type t) = type_item_text t

abbrev pub option_text : Bytes → Bytes
option_text line = line ++ sign LineEnd

-- the text of a file
abbrev pub text : Tree → Bytes
text t = item_word Preamble ++ flat_map option_text t.options ++ flat_map item_text t.items
