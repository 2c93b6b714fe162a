-- In which order the items of a file ask for runtime items: the definitions of types in the order of their text; each wrapper by its
-- signature, and then by its body, as the driver's instructions ask one after another; and last, in the order of the text, whatever
-- else the items name, as the trait of the exports does.
use Rattle.std.specs.Prelude.{◌≡◌, Bool, true, false, List, [], ◌++◌, Option, None, Some, map}
use Rattle.std.specs.List.{AllZip, flat_map}
use Rattle.wit_model.specs.declared.function.Function.{Function}
use Rattle.wit_model.specs.declared.types.TypeDef.{TypeDef}
use Rattle.wit_model.specs.declared.world.World.{World}
use Rattle.rust_tree.specs.declared.export.ExportFn.{ExportFn}
use Rattle.rust_tree.specs.declared.export.PostReturnFn.{PostReturnFn}
use Rattle.rust_tree.specs.declared.item.FnItem.{FnItem}
use Rattle.rust_tree.specs.declared.item.Item.{Item}
use Rattle.rust_tree.specs.declared.item.Item.TheVariants as item
use Rattle.rust_tree.specs.declared.runtime_item.RuntimeItem.{RuntimeItem}
use Rattle.rust_tree.specs.declared.type_item.TypeItem.{TypeItem}
use Rattle.rust_tree.specs.Asked.{asked_by_signature, asked_in}
use Rattle.gen_accept.specs.Area.{needs_return}
use Rattle.gen_accept.specs.Emitted.{exported_functions, imported_functions}
use Rattle.abi_bindgen.specs.declared.bindgen.Asked.{Asked}
use Rattle.func_gen.specs.declared.type_site.TypeSite.{TypeSite}
use Rattle.rust_gen.specs.Body.{IsExportWritten, IsReturnWritten, IsWritten}
use Rattle.rust_gen.specs.Bound.{Parts, own_items}
use Rattle.rust_gen.specs.Exported.{last_macro}
use Rattle.rust_gen.specs.Runtime.{runtime_items, runtime_module}

-- the wrapper of an import asks by its signature, and then by its body
abbrev pub ImportAsks : List TypeDef → List (Option TypeSite) → Function → FnItem × List RuntimeItem → Type 0
ImportAsks types sites f i = (is : IsWritten types sites f i.0) × (i.1 ≡ asked_by_signature i.0.params i.0.result ++ is.runtime)

-- that of an export by its body alone, since a core signature names nothing
abbrev pub WrapperAsks : List TypeDef → List (Option TypeSite) → Function → ExportFn → Option Asked → List RuntimeItem → Type 0
WrapperAsks types sites f e area asked = (is : IsExportWritten types sites f e area) × (asked ≡ is.runtime)

-- and so does a post-return function, where there is one
abbrev pub ReturnAsks : List TypeDef → List (Option TypeSite) → Bool → Function → Option PostReturnFn → List RuntimeItem → Type 0
ReturnAsks types sites true f p asked = (q : PostReturnFn) × (p ≡ Some q) × (is : IsReturnWritten types sites f q) × (asked ≡ is.runtime)
ReturnAsks types sites false f p asked = (p ≡ None) × (asked ≡ [])

-- an exported function asks by its wrapper, and then by its post-return function
abbrev pub ExportAsks : List TypeDef → List (Option TypeSite) → Function → Parts × List RuntimeItem → Type 0
ExportAsks types sites f e =
    (own : List RuntimeItem) × (returning : List RuntimeItem) × (e.1 ≡ own ++ returning) × WrapperAsks types sites f e.0.0 e.0.2 own × ReturnAsks types sites (needs_return types f) f e.0.1 returning

-- items that come with what each asks for
abbrev pub bare : {A : Type 0} → List (A × List RuntimeItem) → List A
bare xs = map (λ x. x.0) xs

abbrev pub asked_with : {A : Type 0} → List (A × List RuntimeItem) → List RuntimeItem
asked_with xs = flat_map (λ x. x.1) xs

-- the items that may ask, and what they ask for in order
abbrev pub asking_items : List TypeDef → World → List TypeItem → List (FnItem × List RuntimeItem) → List (Parts × List RuntimeItem) → List Item
asking_items types world defs imports exports = own_items types defs (bare imports) (bare exports) world

abbrev pub asked_order : List TypeDef → World → List TypeItem → List (FnItem × List RuntimeItem) → List (Parts × List RuntimeItem) → List RuntimeItem
asked_order types world defs imports exports =
    asked_in (map item.Type defs) ++ (asked_with imports ++ (asked_with exports ++ asked_in (asking_items types world defs imports exports)))

-- the runtime items of a file stand in the order in which they are asked for
pub record AskInOrder (types : List TypeDef) (sites : List (Option TypeSite)) (world : World) (items : List Item) : Type 0 where
  pub defs : List TypeItem
  pub imports : List (FnItem × List RuntimeItem)
  pub exports : List (Parts × List RuntimeItem)
  pub are : items ≡ asking_items types world defs imports exports ++ (runtime_module (runtime_items (asked_order types world defs imports exports)) ++ last_macro world)
  pub wraps : AllZip (ImportAsks types sites) (imported_functions world) imports
  pub exported : AllZip (ExportAsks types sites) (exported_functions world) exports
