-- How the tree of a world is made up: the definitions of its own types; one wrapper for each imported function, in the world's order, then one for each exported
-- function, with its post-return function where it has one, with their places; the trait and the macros of the exported functions;
-- and between the macros the static area that their wrappers need, and the runtime items that serve the items before them.
use Rattle.std.specs.Prelude.{◌≡◌, List, [], ◌∷◌, ◌++◌, Option, None, Some, map, option_to_list}
use Rattle.std.specs.List.{AllZip, flat_map}
use Rattle.wit_model.specs.declared.function.Function.{Function}
use Rattle.wit_model.specs.declared.name.WorldId.{WorldId}
use Rattle.wit_model.specs.declared.resolve.Resolve.{Resolve}
use Rattle.wit_model.specs.declared.types.TypeDef.{TypeDef}
use Rattle.wit_model.specs.declared.world.World.{World}
use Rattle.rust_tree.specs.declared.area.StaticArea.{StaticArea}
use Rattle.rust_tree.specs.declared.export.ExportFn.{ExportFn}
use Rattle.rust_tree.specs.declared.export.PostReturnFn.{PostReturnFn}
use Rattle.rust_tree.specs.declared.item.FnItem.{FnItem}
use Rattle.rust_tree.specs.declared.item.Item.{Item}
use Rattle.rust_tree.specs.declared.item.Item.TheVariants as item
use Rattle.rust_tree.specs.declared.runtime_item.RuntimeItem.{RuntimeItem}
use Rattle.rust_tree.specs.declared.type_item.TypeItem.{TypeItem}
use Rattle.rust_tree.specs.Asked.{asked_in}
use Rattle.rust_tree.specs.Tree.{Tree}
use Rattle.gen_accept.specs.declared.opts.Opts.{Opts}
use Rattle.gen_accept.specs.Emitted.{emitted_places, exported_functions, imported_functions}
use Rattle.gen_accept.specs.TypeOpts.{type_opts}
use Rattle.type_defs.specs.Defined.{AreDefinitions}
use Rattle.abi_bindgen.specs.declared.bindgen.Asked.{Asked}
use Rattle.func_gen.specs.Body.{needed}
use Rattle.wrapper_closing.specs.FileArea.{static_area}
use Rattle.rust_gen.specs.Exported.{last_macro, trait_and_macro}
use Rattle.rust_gen.specs.OptionLines.{option_lines}
use Rattle.rust_gen.specs.Runtime.{runtime_module}
use Rattle.rust_gen.specs.Served.{Serves}

-- an exported function's wrapper, its post-return function if it has one, and the area that it needs
abbrev pub Parts : Type 0
Parts = ExportFn × Option PostReturnFn × Option Asked

abbrev pub return_items : Option PostReturnFn → List Item
return_items None = []
return_items (Some p) = item.PostReturn p ∷ []

abbrev pub export_items : Parts → List Item
export_items (e, p, a) = item.Export e ∷ return_items p

abbrev pub areas_of : List Parts → List (Option Asked)
areas_of exports = map (λ e. e.2) exports

-- the static area for all areas that are needed
abbrev pub file_area : List (Option Asked) → Option StaticArea
file_area areas = static_area (needed (flat_map option_to_list areas))

abbrev pub area_items : Option StaticArea → List Item
area_items None = []
area_items (Some a) = item.Area a ∷ []

abbrev pub area_of : List Parts → List Item
area_of exports = area_items (file_area (areas_of exports))

-- the items that may ask for runtime items
abbrev pub own_items : List TypeDef → List TypeItem → List FnItem → List Parts → World → List Item
own_items types defs wrappers exports world =
    map item.Type defs ++ (map item.Import wrappers ++ (flat_map export_items exports ++ (trait_and_macro types world ++ area_of exports)))

-- `IsWrapper` says when an item is the wrapper of an imported function, and `IsExport` when parts are those of an exported function
pub record AreItems (IsWrapper : Function → FnItem → Type 0) (IsExport : Function → Parts → Type 0) (opts : Opts) (r : Resolve) (id : WorldId) (world : World) (items : List Item) : Type 0 where
  pub types : List TypeItem
  pub wrappers : List FnItem
  pub exports : List Parts
  pub runtime : List RuntimeItem
  pub are : items ≡ own_items r.types types wrappers exports world ++ (runtime_module runtime ++ last_macro world)
  pub serves : Serves (asked_in (own_items r.types types wrappers exports world)) runtime
  pub defined : AreDefinitions (type_opts opts) r id world types
  pub wraps : AllZip IsWrapper (imported_functions world) wrappers
  pub exported : AllZip IsExport (exported_functions world) exports

pub record Binds (IsWrapper : Function → FnItem → Type 0) (IsExport : Function → Parts → Type 0) (opts : Opts) (r : Resolve) (id : WorldId) (world : World) (tree : Tree) : Type 0 where
  pub items : AreItems IsWrapper IsExport opts r id world tree.items
  pub places : tree.places ≡ emitted_places world
  pub options : tree.options ≡ option_lines opts
