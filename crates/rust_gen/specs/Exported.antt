-- The items by which a world exports its functions: the trait of their implementation, and the macros.
use Rattle.std.specs.Prelude.{List, [], ◌∷◌, ◌++◌, None, codes, if◌then◌else◌, map}
use Rattle.std.specs.List.{flat_map}
use Rattle.wit_model.specs.Bytes.{Bytes}
use Rattle.wit_model.specs.declared.function.Function.{Function}
use Rattle.wit_model.specs.declared.function.Param.{Param}
use Rattle.wit_model.specs.declared.types.TypeDef.{TypeDef}
use Rattle.wit_model.specs.declared.world.World.{World}
use Rattle.rust_tree.specs.declared.item.FnParam.{FnParam}
use Rattle.rust_tree.specs.declared.item.Item.{Item}
use Rattle.rust_tree.specs.declared.item.Item.TheVariants as item
use Rattle.rust_tree.specs.declared.macros.EntryKind.TheVariants as kind
use Rattle.rust_tree.specs.declared.macros.ExportEntry.{ExportEntry}
use Rattle.rust_tree.specs.declared.macros.ModuleMacro.{ModuleMacro}
use Rattle.rust_tree.specs.declared.macros.RootMacro.{RootMacro}
use Rattle.rust_tree.specs.declared.trait_item.TraitFn.{TraitFn}
use Rattle.rust_tree.specs.declared.trait_item.TraitItem.{TraitItem}
use Rattle.rust_tree.specs.Ident.{rust_ident}
use Rattle.gen_accept.specs.Area.{needs_return}
use Rattle.gen_accept.specs.DeclaredNames.{guest_name}
use Rattle.gen_accept.specs.Emitted.{exported_functions}
use Rattle.type_defs.specs.Docs.{doc_lines}
use Rattle.type_defs.specs.PartType.{part_type, printed_result}
use Rattle.wrapper_faithful.specs.Passed.{passed}
use Rattle.wrapper_closing.specs.Params.{export_args, return_args}
use Rattle.rust_gen.specs.Wrapper.{export_result}

-- the trait

-- a parameter is handed over
abbrev pub trait_param : List TypeDef → Param → FnParam
trait_param types p = record { name = rust_ident p.name; ty = part_type types p.ty }

abbrev pub trait_fn : List TypeDef → Function → TraitFn
trait_fn types f = record { docs = doc_lines f.docs; name = rust_ident f.name; params = map (trait_param types) f.params; result = printed_result types f.result }

abbrev pub guest_trait : List TypeDef → List Function → TraitItem
guest_trait types functions = record { name = guest_name; functions = map (trait_fn types) functions }

-- the macros

-- a function is exported under its own name, and its wrapper has its snake form as base name
abbrev pub export_entry : List TypeDef → Function → ExportEntry
export_entry types f = record { kind = kind.Wrapper; export_name = f.name.wit; base = f.name.snake; params = export_args (passed types f); result = export_result types f }

-- the export name of a function's post-return function
unfoldable pub post_return_name : Function → Bytes
post_return_name f = codes "cabi_post_" ++ f.name.wit

-- a post-return function is given what the wrapper returned
abbrev pub return_entry : List TypeDef → Function → ExportEntry
return_entry types f = record { kind = kind.PostReturn; export_name = post_return_name f; base = f.name.snake; params = return_args (passed types f); result = None }

-- what stands where a result may hold a text
abbrev pub where_returned : {A : Type 0} → List TypeDef → Function → A → List A
where_returned types f a = if needs_return types f then a ∷ [] else []

abbrev pub entries_of : List TypeDef → Function → List ExportEntry
entries_of types f = export_entry types f ∷ where_returned types f (return_entry types f)

unfoldable pub world_prefix : Bytes
world_prefix = codes "world_"

abbrev pub macro_name : World → Bytes
macro_name world = world_prefix ++ world.name.snake

abbrev pub world_macro : List TypeDef → World → ModuleMacro
world_macro types world = record { name = macro_name world; entries = flat_map (entries_of types) (exported_functions world) }

abbrev pub file_macro : World → RootMacro
file_macro world = record { world = world.name.snake; modules = macro_name world ∷ [] }

-- items that stand where there is an exported function
abbrev pub where_any : List Function → List Item → List Item
where_any [] items = []
where_any (_ ∷ _) items = items

abbrev pub trait_and_macro : List TypeDef → World → List Item
trait_and_macro types world = where_any (exported_functions world) (item.Trait (guest_trait types (exported_functions world)) ∷ item.ModuleMacro (world_macro types world) ∷ [])

abbrev pub last_macro : World → List Item
last_macro world = where_any (exported_functions world) (item.RootMacro (file_macro world) ∷ [])
