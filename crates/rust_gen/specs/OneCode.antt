-- Laws: in a file the item of a function has one code. Two that are made of it are equal, and ask for the same items of `_rt`.
use Rattle.std.specs.Borrow.{Bor}
use Rattle.std.specs.Prelude.{◌≡◌, List, Option}
use Rattle.wit_model.specs.declared.function.Function.{Function}
use Rattle.wit_model.specs.declared.types.TypeDef.{TypeDef}
use Rattle.rust_tree.specs.declared.runtime_item.RuntimeItem.{RuntimeItem}
use Rattle.rust_tree.specs.declared.stmt.Block.{Block}
use Rattle.func_gen.specs.declared.type_site.TypeSite.{TypeSite}
use Rattle.rust_gen.specs.Body.{IsExportCode, IsImportCode, IsReturnCode}
use Rattle.rust_gen.specs.declared.export.ExportCode.{ExportCode}

abbrev pub ImportHasOneCode : Type 0
ImportHasOneCode = (types : List TypeDef) (sites : List (Option TypeSite)) (func : Bor Function) (block other : Block) (runtime asked : List RuntimeItem)
    → IsImportCode types sites func block runtime → IsImportCode types sites func other asked → (other ≡ block) × (asked ≡ runtime)

abbrev pub ExportHasOneCode : Type 0
ExportHasOneCode = (types : List TypeDef) (sites : List (Option TypeSite)) (func : Bor Function) (code other : ExportCode) → IsExportCode types sites func code → IsExportCode types sites func other → other ≡ code

abbrev pub ReturnHasOneCode : Type 0
ReturnHasOneCode = (types : List TypeDef) (sites : List (Option TypeSite)) (f : Function) (block other : Block) (runtime asked : List RuntimeItem)
    → IsReturnCode types sites f block runtime → IsReturnCode types sites f other asked → (other ≡ block) × (asked ≡ runtime)
